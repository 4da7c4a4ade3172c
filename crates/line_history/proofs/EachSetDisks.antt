-- Any of the disks of an image, the others taken as empty: what each gives, all of these give.
use Rattle.std.proofs.Common.{◌≡◌, ℕ, suc, ◌+◌, Bool, true, false, List, [], ◌∷◌, map, Some, None, refl, sym, subst, ◌∙◌, arith}
use Rattle.std.specs.Prelude.{slice_get}
use Rattle.std.specs.FinSet as set
use Rattle.std.specs.Ordering.{nat_cmp}
use Rattle.std.proofs.lemmas.Bool.{true≢false}
use Rattle.disk_model.specs.Steps.{Image}
use Rattle.scan_rules.specs.Decision.{AreaReading, Reading}
use Rattle.vg_found.specs.Shape.{IsUnread}
use Rattle.vg_found.specs.declared.disk.Disk.{Disk}
use Rattle.vg_scan.specs.Readings.{AreDiskReadings, IsDiskReading}
use Rattle.image_scans.proofs.DiskAgain.{DiskAgain}
use Rattle.image_scans.proofs.AreaReadings.{DisksGive, PvGives}

-- a disk as it is found and reads in an image, where it is read
pub record OneRead (pv : ℕ) (sector_at : ℕ → List ℕ) (P : AreaReading → Type 0) (disk : Disk) : Type 0 where
  pub there : Disk
  pub read : Reading
  pub sectors_is : there.sectors ≡ disk.sectors
  pub is_read : there.contents ≡ None → ⊥
  pub is : IsDiskReading pv sector_at there read
  pub gives : PvGives P read.pv

-- by how it read before
pub read_again : (pv : ℕ) (sector_at : ℕ → List ℕ) (P : AreaReading → Type 0) (may : List ℕ → Bool) (bare : List ℕ → AreaReading → Bool)
    (new : AreaReading) (disk : Disk) (reading : Reading) (d : DiskAgain pv sector_at may bare new disk reading)
    → (disk.contents ≡ None → ⊥) → PvGives P d.read.pv → OneRead pv sector_at P disk
read_again pv sector_at P may bare new disk reading d is_read gives =
    record {
      there = d.there;
      read = d.read;
      sectors_is = d.sectors_is;
      is_read = λ none. is_read (d.unread none);
      is = d.is;
      gives = gives;
    }

-- where its sectors are the same it reads as before
pub read_same : (pv : ℕ) (old sector_at : ℕ → List ℕ) (P : AreaReading → Type 0) (disk : Disk) (reading : Reading)
    → ((sector : ℕ) → sector_at sector ≡ old sector) → IsDiskReading pv old disk reading → (disk.contents ≡ None → ⊥) → PvGives P reading.pv
    → OneRead pv sector_at P disk
read_same pv old sector_at P disk reading same is is_read gives =
    record {
      there = disk;
      read = reading;
      sectors_is = refl;
      is_read = is_read;
      is = subst (λ (at : ℕ → List ℕ). IsDiskReading pv at disk reading) (λ i sector. sym (same sector) i) is;
      gives = gives;
    }

-- all disks, of which some are left unread
pub record SetRead (image : Image) (unread : set.FinSet nat_cmp) (first : ℕ) (P : AreaReading → Type 0) (disks : List Disk) : Type 0 where
  pub there : List Disk
  pub read : List Reading
  pub sizes_is : map (λ (d : Disk). d.sectors) there ≡ map (λ (d : Disk). d.sectors) disks
  pub are : AreDiskReadings image unread first there read
  pub gives : DisksGive (λ disk. P) read

module _ (image : Image) (unread : set.FinSet nat_cmp) (P : AreaReading → Type 0) where
  with_one : (first : ℕ) (disk : Disk) (disks : List Disk) (b : Bool) → set.contains unread first ≡ b
      → (b ≡ false → OneRead first (image first) P disk) → SetRead image unread (first + 1) P disks
      → SetRead image unread first P (disk ∷ disks)
  with_one first disk disks true is one later = record {
    there = record { sectors = disk.sectors; contents = None } ∷ later.there;
    read = record { sectors = disk.sectors; pv = None } ∷ later.read;
    sizes_is = λ i. disk.sectors ∷ later.sizes_is i;
    are = (((λ none. is), (λ has. refl)), record { contents = tt; sectors_is = refl; pv_is = refl }, later.are);
    gives = (tt, later.gives);
  }
  with_one first disk disks false is read later =
      let one = read refl in
      record {
        there = one.there ∷ later.there;
        read = one.read ∷ later.read;
        sizes_is = λ i. one.sectors_is i ∷ later.sizes_is i;
        are = (((λ none. absurd (one.is_read none)), (λ has. absurd (true≢false (sym has ∙ is)))), one.is, later.are);
        gives = (one.gives, later.gives);
      }

  -- each of these disks that is read, by how it reads in the base
  pub set_read : (base : Image) (away : set.FinSet nat_cmp) (first : ℕ) (disks : List Disk) (readings : List Reading)
      → AreDiskReadings base away first disks readings
      → ((k : ℕ) (disk : Disk) (reading : Reading) → slice_get disks k ≡ Some disk → slice_get readings k ≡ Some reading
      → IsUnread away (first + k) disk → IsDiskReading (first + k) (base (first + k)) disk reading
      → set.contains unread (first + k) ≡ false → OneRead (first + k) (image (first + k)) P disk)
      → SetRead image unread first P disks
  set_read base away first [] [] are each = record { there = []; read = []; sizes_is = refl; are = tt; gives = tt }
  set_read base away first [] (reading ∷ readings) are each = absurd are
  set_read base away first (disk ∷ disks) [] are each = absurd are
  set_read base away first (disk ∷ disks) (reading ∷ readings) are each =
      let here : first + 0 ≡ first = omega arith in
      let one : set.contains unread first ≡ false → OneRead first (image first) P disk =
      subst (λ (n : ℕ). set.contains unread n ≡ false → OneRead n (image n) P disk) here
      (each 0 disk reading refl refl (subst (λ (n : ℕ). IsUnread away n disk) (sym here) are.0)
      (subst (λ (n : ℕ). IsDiskReading n (base n) disk reading) (sym here) are.1))
      in
      with_one first disk disks (set.contains unread first) refl one
      (set_read base away (first + 1) disks readings are.2
      (λ k d r at_disk at_reading is_unread is.
      let next : first + 1 + k ≡ first + suc k = omega arith in
      subst (λ (n : ℕ). set.contains unread n ≡ false → OneRead n (image n) P d) (sym next)
      (each (suc k) d r at_disk at_reading (subst (λ (n : ℕ). IsUnread away n d) next is_unread)
      (subst (λ (n : ℕ). IsDiskReading n (base n) d r) next is))))
