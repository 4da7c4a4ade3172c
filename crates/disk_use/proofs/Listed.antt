-- Disks that were scanned are free where each marked one is of the group that was found.
use Rattle.std.proofs.Common.{◌≡◌, ◌<◌, ◌∙◌, ℕ, ◌+◌, zero, suc, true, false, true≢false, List, [], ◌∷◌, length, map, Option, Some, None}
use Rattle.std.proofs.Common.{refl, sym, ap, subst, arith}
use Rattle.std.specs.Prelude.{slice_get, slice_index_or}
use Rattle.std.specs.FinSet as set
use Rattle.std.specs.Ordering.{nat_cmp}
use Rattle.std.proofs.lemmas.Option.{same_Some}
use Rattle.disk_model.specs.Steps.{Image}
use Rattle.disk_contents.specs.declared.contents.PvFound.{PvFound}
use Rattle.disk_contents.specs.declared.contents.PvFound.TheVariants.{NoLabel, NoHeader, Whole}
use Rattle.scan_rules.specs.Decision.{Reading}
use Rattle.vg_found.specs.declared.disk.Disk.{Disk}
use Rattle.vg_found.specs.declared.found.Found.{Found}
use Rattle.vg_found.specs.Shape.{HasShape, IsUnread}
use Rattle.vg_scan.specs.Readings.{AreDiskReadings, IsContents}
use Rattle.vg_scan.specs.Scans.{IsScanOf}
use Rattle.disk_use.specs.Unlisted.{AreListed, is_marked_at, is_marked_with}
use Rattle.disk_use.specs.Uses.{IsFree, IsFreeWith, IsOfGroup}

-- a disk of these sizes was scanned
disk_at : (sizes : List ℕ) (disks : List Disk) → map (λ (d : Disk). d.sectors) disks ≡ sizes → (k : ℕ) → k < length sizes
    → (disk : Disk) × (slice_get disks k ≡ Some disk) × (slice_index_or sizes k 0 ≡ disk.sectors)
disk_at sizes [] are k lt = absurd (omega (arith, lt, ap (λ (l : List ℕ). length l) are))
disk_at sizes (d ∷ disks) are zero lt = (d, refl, ap (λ (l : List ℕ). slice_index_or l 0 0) (sym are))
disk_at [] (d ∷ disks) are (suc k) lt = absurd cc
disk_at (s ∷ sizes) (d ∷ disks) are (suc k) lt =
    disk_at sizes disks (λ i. tail_of (are i)) k (omega (arith, lt)) where
      tail_of : List ℕ → List ℕ
      tail_of [] = []
      tail_of (x ∷ xs) = xs

-- and what stands there was found
contents_at : (image : Image) (unread : set.FinSet nat_cmp) (first : ℕ) (disks : List Disk) (readings : List Reading)
    → AreDiskReadings image unread first disks readings → (k : ℕ) (disk : Disk) → slice_get disks k ≡ Some disk
    → IsUnread unread (first + k) disk × IsContents (image (first + k)) disk.sectors disk.contents
contents_at image unread first [] readings are k disk there = absurd cc
contents_at image unread first (d ∷ disks) [] are k disk there = absurd are
contents_at image unread first (d ∷ disks) (r ∷ readings) are zero disk there =
    subst (λ (x : Disk). IsUnread unread (first + 0) x × IsContents (image (first + 0)) x.sectors x.contents) (same_Some d disk there)
    (subst (λ (n : ℕ). IsUnread unread n d × IsContents (image n) d.sectors d.contents) (omega arith) (are.0, are.1.contents))
contents_at image unread first (d ∷ disks) (r ∷ readings) are (suc k) disk there =
    subst (λ (n : ℕ). IsUnread unread n disk × IsContents (image n) disk.sectors disk.contents) (omega arith)
    (contents_at image unread (first + 1) disks readings are.2 k disk there)

module _ (image : Image) (sizes : List ℕ) (found : Found) (scan : IsScanOf image sizes found) (read : found.unread ≡ set.empty)
    (shape : HasShape found) (listed : AreListed found) (pv : ℕ) where
  of_group : is_marked_at found pv ≡ true → IsOfGroup image sizes pv
  of_group marked = record { found = found; scan = scan; read = read; shape = shape; of = listed pv marked }

  free_with : (contents : PvFound) → (is_marked_with contents ≡ true → IsOfGroup image sizes pv) → IsFreeWith false image sizes pv contents
  free_with (NoLabel refusal) of = λ new. absurd cc
  free_with (NoHeader label refusal) of = refl
  free_with (Whole label header areas) of = of

  free_by : (disk : Disk) → slice_get found.disks pv ≡ Some disk → (contents : Option PvFound) → disk.contents ≡ contents
      → IsUnread set.empty pv disk → IsContents (image pv) (slice_index_or sizes pv 0) contents → IsFree false image sizes pv
  free_by disk there None is unread stands =
      absurd (true≢false (sym (unread.0 is) ∙ set.contains-empty nat_cmp pv))
  free_by disk there (Some contents) is unread stands = record {
    contents = contents;
    found = stands;
    free = free_with contents (λ marked. of_group (rw (there, is) marked));
  }

  pub free_listed : pv < length sizes → IsFree false image sizes pv
  free_listed lt =
      let d = disk_at sizes found.disks scan.are.sizes_is pv lt in
      let c : IsUnread found.unread pv d.0 × IsContents (image pv) d.0.sectors d.0.contents =
      subst (λ (n : ℕ). IsUnread found.unread n d.0 × IsContents (image n) d.0.sectors d.0.contents) (omega arith)
      (contents_at image found.unread 0 found.disks scan.readings scan.are.each pv d.0 d.1) in
      free_by d.0 d.1 d.0.contents refl
      (subst (λ (u : set.FinSet nat_cmp). IsUnread u pv d.0) read c.0)
      (subst (λ (n : ℕ). IsContents (image pv) n d.0.contents) (sym d.2) c.1)
