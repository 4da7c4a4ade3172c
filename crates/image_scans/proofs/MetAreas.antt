-- Which area a write meets, where the writes are to sectors of areas that were found.
use Rattle.std.proofs.Common.{◌≡◌, ◌≤◌, ◌<◌, ◌⊎◌, ℕ, ◌+◌, ◌/◌, List, length, get_or, Option, Some, ⊎_elim, sym, ap, subst, ◌∙◌, arith}
use Rattle.std.specs.Prelude.{All, slice_get}
use Rattle.std.proofs.lemmas.Option.{same_Some}
use Rattle.mda_header.specs.declared.header.Locn.{Locn}
use Rattle.mda_ring.specs.declared.area.Area.{Area}
use Rattle.mda_ring.specs.Ring.{need, room}
use Rattle.pv_header.specs.declared.header.PvHeader.{PvHeader}
use Rattle.disk_contents.specs.declared.contents.AreaFound.{AreaFound}
use Rattle.disk_contents.specs.declared.contents.PvFound.{PvFound}
use Rattle.disk_contents.specs.declared.contents.PvFound.TheVariants.{Whole}
use Rattle.disk_contents.specs.Standing.{area_on}
use Rattle.vg_found.specs.declared.disk.Disk.{Disk}
use Rattle.vg_found.specs.Disks.{areas_on, held_area}
use Rattle.vg_found.specs.Shape.{IsDisk}
use Rattle.image_scans.proofs.AreaAgain.{IsWritten}
use Rattle.image_scans.proofs.CommitWrites.{IsAreaWrite}
use Rattle.vg_commit.proofs.Disks.{no_area}
use Rattle.image_scans.proofs.FoundAreas.{IsHeldOn, IsPlaced, LieBeside, areas_placed, entry_kept}

module _ (disks : List Disk) (are : (pv : ℕ) (disk : Disk) → slice_get disks pv ≡ Some disk → IsDisk pv disk) (pv : ℕ) (disk : Disk)
    (there : slice_get disks pv ≡ Some disk) (label : ℕ) (header : PvHeader) (areas : List AreaFound)
    (is : disk.contents ≡ Some (Whole label header areas)) where
  pub all_placed : All (IsPlaced areas) areas
  all_placed =
      subst (λ (c : Option PvFound). All (IsPlaced (areas_on c)) (areas_on c)) is
      (areas_placed pv disk.sectors disk.contents (are pv disk there).contents)

  -- a held area on this disk that has a sector of an area that was found there is that area
  pub area_met : (k : ℕ) (d : AreaFound) → k < length areas → (b : Area × Option Locn) → IsHeldOn disks b → b.0.pv ≡ pv → (sector : ℕ)
      → b.0.start / 512 ≤ sector → sector < b.0.start / 512 + b.0.size / 512
      → (get_or areas k d).area.offset / 512 ≤ sector → sector < (get_or areas k d).area.offset / 512 + (get_or areas k d).area.size / 512
      → held_area pv (get_or areas k d) ≡ Some b
  area_met k d within b on here sector from to from' to' =
      let found : AreaFound = get_or areas k d in
      let same_disk : on.disk ≡ disk = same_Some on.disk disk (sym on.there ∙ ap (slice_get disks) here ∙ there) in
      let list : areas_on on.disk.contents ≡ areas = ap (λ (x : Disk). areas_on x.contents) same_disk ∙ ap areas_on is in
      let beside : All (λ (other : AreaFound). (other ≡ on.found) ⊎ LieBeside other.area on.found.area) areas =
      subst (All (λ (other : AreaFound). (other ≡ on.found) ⊎ LieBeside other.area on.found.area)) list on.placed.beside in
      let own_area : b.0 ≡ area_on b.0.pv on.found.area = entry_kept (area_on b.0.pv on.found.area) on.found.entry b on.is in
      let starts : b.0.start ≡ on.found.area.offset = ap (λ (a : Area). a.start) own_area in
      let sized : b.0.size ≡ on.found.area.size = ap (λ (a : Area). a.size) own_area in
      let p : IsPlaced areas found = all_placed k d within in
      ⊎_elim
      (λ same. ap (held_area pv) same ∙ ap (λ (n : ℕ). held_area n on.found) (sym here) ∙ on.is)
      (λ apart. absurd (⊎_elim
      (λ (before : found.area.offset + found.area.size ≤ on.found.area.offset). omega (arith, before, p.starts, p.sized, to', from, starts))
      (λ (behind : on.found.area.offset + on.found.area.size ≤ found.area.offset). omega
      (arith, behind, on.placed.starts, on.placed.sized, to, from', starts, sized))
      apart))
      (beside k d within)

-- what a commit to such areas writes to a header sector
pub header_met : (disks : List Disk) → ((pv : ℕ) (disk : Disk) → slice_get disks pv ≡ Some disk → IsDisk pv disk)
    → (text : List ℕ) (own : List (Area × Option Locn)) → All (IsHeldOn disks) own
    → All (λ (a : Area × Option Locn). need (length text + 1) ≤ room a.0.size a.1) own → (pv : ℕ) (disk : Disk)
    → slice_get disks pv ≡ Some disk → (label : ℕ) (header : PvHeader) (areas : List AreaFound)
    → disk.contents ≡ Some (Whole label header areas)
    → (k : ℕ) (d : AreaFound) → k < length areas → (value : List ℕ) → IsAreaWrite text own pv ((get_or areas k d).area.offset / 512) value
    → IsWritten text pv (get_or areas k d) value
header_met disks are text own held rooms pv disk there label header areas is k d within value w =
    let found : AreaFound = get_or areas k d in
    let b : Area × Option Locn = get_or own w.number no_area in
    let p : IsPlaced areas found = all_placed disks are pv disk there label header areas is k d within in
    let met : held_area pv found ≡ Some b =
    area_met disks are pv disk there label header areas is k d within b (held w.number no_area w.among) w.disk (found.area.offset / 512)
    w.from w.to (omega arith) (omega (arith, p.some))
    in
    let starts : b.0.start ≡ found.area.offset = ap (λ (a : Area). a.start) (entry_kept (area_on pv found.area) found.entry b met) in
    ⊎_elim
    (λ (ring : b.0.start / 512 + 1 ≤ found.area.offset / 512). absurd (omega (arith, ring, starts)))
    (λ at. (b, met, rooms w.number no_area w.among, at.1))
    w.is
