-- An image in which one disk differs: the others stand and read as they did.
use Rattle.std.proofs.Common.{◌≡◌, ◌≢◌, ◌≤◌, ◌↔◌, ℕ, zero, suc, ◌+◌, Bool, true, cond, List, [], ◌∷◌, map, Some, None, refl, sym, ap, subst}
use Rattle.std.proofs.Common.{◌∙◌, arith}
use Rattle.std.specs.Prelude.{slice_get}
use Rattle.std.specs.FinSet as set
use Rattle.std.specs.Ordering.{nat_cmp}
use Rattle.std.proofs.lemmas.Option.{same_Some}
use Rattle.disk_model.specs.Steps.{Image}
use Rattle.scan_rules.specs.Decision.{Reading}
use Rattle.vg_found.specs.declared.disk.Disk.{Disk}
use Rattle.vg_found.specs.Disks.{disk_with, has_header_id}
use Rattle.vg_found.specs.Shape.{IsUnread}
use Rattle.vg_scan.specs.Readings.{AreDiskReadings, IsDiskReading}
use Rattle.image_scans.proofs.Quiet.{AtOne}

-- the disk that differs, as it stands and reads now
pub record IsNewAt (pv : ℕ) (sector_at : ℕ → List ℕ) (unread : set.FinSet nat_cmp) (R : Reading → Reading → Type 0) (sectors : ℕ)
    (own : Disk) (reading : Reading) : Type 0 where
  pub read : Reading
  pub own_sectors : own.sectors ≡ sectors
  pub own_unread : IsUnread unread pv own
  pub is : IsDiskReading pv sector_at own read
  pub rel : R reading read

pub record AllButOne (image : Image) (unread : set.FinSet nat_cmp) (first k : ℕ) (R : Reading → Reading → Type 0) (disk own : Disk)
    (disks : List Disk) (readings : List Reading) : Type 0 where
  pub there : List Disk
  pub read : List Reading
  pub sizes_is : map (λ (d : Disk). d.sectors) there ≡ map (λ (d : Disk). d.sectors) disks
  pub are : AreDiskReadings image unread first there read
  pub at : AtOne k R readings read
  pub ids : (id : List ℕ) → has_header_id id own ≡ has_header_id id disk → disk_with there id ≡ disk_with disks id

module _ (base image : Image) (unread others : set.FinSet nat_cmp) where
  same_disk : (pv : ℕ) (disk : Disk) (reading : Reading) → ((sector : ℕ) → image pv sector ≡ base pv sector)
      → set.contains others pv ≡ set.contains unread pv → IsUnread unread pv disk → IsDiskReading pv (base pv) disk reading
      → IsUnread others pv disk × IsDiskReading pv (image pv) disk reading
  same_disk pv disk reading same sets is_unread is = (
    subst (λ (b : Bool). (disk.contents ≡ None) ↔ (b ≡ true)) (sym sets) is_unread,
    subst (λ (sector_at : ℕ → List ℕ). IsDiskReading pv sector_at disk reading) (λ i sector. sym (same sector) i) is,
  )

  rest_same : (first : ℕ) (disks : List Disk) (readings : List Reading) → AreDiskReadings base unread first disks readings
      → ((pv : ℕ) → first ≤ pv → (sector : ℕ) → image pv sector ≡ base pv sector)
      → ((pv : ℕ) → first ≤ pv → set.contains others pv ≡ set.contains unread pv) → AreDiskReadings image others first disks readings
  rest_same first [] [] are same sets = tt
  rest_same first [] (reading ∷ readings) are same sets = absurd are
  rest_same first (disk ∷ disks) [] are same sets = absurd are
  rest_same first (disk ∷ disks) (reading ∷ readings) are same sets =
      let one = same_disk first disk reading (same first (omega arith)) (sets first (omega arith)) are.0 are.1 in (
        one.0,
        one.1,
        rest_same (first + 1) disks readings are.2 (λ pv from. same pv (omega (arith, from)))
            (λ pv from. sets pv (omega (arith, from))),
      )

  pub all_but_one : (first k : ℕ) (R : Reading → Reading → Type 0) (disk own : Disk) (disks : List Disk) (readings : List Reading)
      → AreDiskReadings base unread first disks readings
      → ((pv : ℕ) → pv ≢ first + k → (sector : ℕ) → image pv sector ≡ base pv sector)
      → ((pv : ℕ) → pv ≢ first + k → set.contains others pv ≡ set.contains unread pv) → slice_get disks k ≡ Some disk
      → ((reading : Reading) → slice_get readings k ≡ Some reading → IsDiskReading (first + k) (base (first + k)) disk reading
      → IsNewAt (first + k) (image (first + k)) others R disk.sectors own reading)
      → AllButOne image others first k R disk own disks readings
  all_but_one first k R disk own [] readings are same sets there new = absurd cc
  all_but_one first k R disk own (d ∷ disks) [] are same sets there new = absurd are
  all_but_one first zero R disk own (d ∷ disks) (reading ∷ readings) are same sets there new =
      let is_disk : d ≡ disk = same_Some d disk there in
      let plain : first + 0 ≡ first = omega arith in
      let n : IsNewAt (first + 0) (image (first + 0)) others R disk.sectors own reading =
      new reading refl (subst (λ (n : ℕ). IsDiskReading n (base n) disk reading) (sym plain)
      (subst (λ (x : Disk). IsDiskReading first (base first) x reading) is_disk are.1))
      in
      record {
        there = own ∷ disks;
        read = n.read ∷ readings;
        sizes_is = λ i. (n.own_sectors ∙ ap (λ (x : Disk). x.sectors) (sym is_disk)) i ∷ map (λ (x : Disk). x.sectors) disks;
        are = (
          subst (λ (m : ℕ). IsUnread others m own) plain n.own_unread,
          subst (λ (m : ℕ). IsDiskReading m (image m) own n.read) plain n.is,
          rest_same (first + 1) disks readings are.2 (λ pv from. same pv (λ is. absurd (omega (arith, from, is))))
              (λ pv from. sets pv (λ is. absurd (omega (arith, from, is)))),
        );
        at = (n.rel, refl);
        ids = λ id is. ap (λ (b : Bool). cond b 0 (disk_with disks id + 1)) (is ∙ ap (has_header_id id) (sym is_disk));
      }
  all_but_one first (suc k) R disk own (d ∷ disks) (reading ∷ readings) are same sets there new =
      let one =
      same_disk first d reading (same first (λ is. absurd (omega (arith, is)))) (sets first (λ is. absurd (omega (arith, is)))) are.0
      are.1 in
      let on : first + 1 + k ≡ first + suc k = omega arith in
      let later : AllButOne image others (first + 1) k R disk own disks readings =
      all_but_one (first + 1) k R disk own disks readings are.2 (λ pv other. same pv (λ is. other (omega (arith, is))))
      (λ pv other. sets pv (λ is. other (omega (arith, is)))) there
      (λ r at is. subst (λ (n : ℕ). IsNewAt n (image n) others R disk.sectors own r) (sym on)
      (new r at (subst (λ (n : ℕ). IsDiskReading n (base n) disk r) on is)))
      in
      record {
        there = d ∷ later.there;
        read = reading ∷ later.read;
        sizes_is = λ i. d.sectors ∷ later.sizes_is i;
        are = (one.0, one.1, later.are);
        at = (refl, later.at);
        ids = λ id is. ap (λ (n : ℕ). cond (has_header_id id d) 0 (n + 1)) (later.ids id is);
      }
