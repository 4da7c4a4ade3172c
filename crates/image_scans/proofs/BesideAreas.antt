-- A place in the extents of the group lies in no metadata area of its disk.
use Rattle.std.proofs.Common.{◌≡◌, ◌≤◌, ◌<◌, ◌⊎◌, ℕ, ◌+◌, ◌/◌, List, Option, Some, ⊎_elim, sym, ap, subst, ◌∙◌, arith}
use Rattle.std.specs.Prelude.{slice_get}
use Rattle.std.specs.List.{AllByRecursion as Each}
use Rattle.std.proofs.lemmas.Option.{same_Some}
use Rattle.mda_header.specs.declared.header.Locn.{Locn}
use Rattle.mda_ring.specs.declared.area.Area.{Area}
use Rattle.pv_header.specs.declared.extent_list.Extent.{Extent}
use Rattle.disk_contents.specs.declared.contents.AreaFound.{AreaFound}
use Rattle.disk_contents.specs.declared.contents.PvFound.{PvFound}
use Rattle.disk_contents.specs.Standing.{area_on}
use Rattle.vg_found.specs.declared.disk.Disk.{Disk}
use Rattle.vg_found.specs.Disks.{areas_on}
use Rattle.vg_found.specs.Shape.{ContentsCanStand, IsDisk}
use Rattle.image_scans.proofs.CommitOnTheWay.{header_read}
use Rattle.image_scans.proofs.FoundAreas.{IsHeldOn, entry_kept}
use Rattle.image_scans.proofs.NoWrites.{each_area}
use Rattle.image_scans.proofs.Placed.{IsPlaceOn}

-- the sector is before the area or behind it
abbrev IsBesideArea : ℕ → Extent → Type 0
IsBesideArea sector area = (sector < area.offset / 512) ⊎ (area.offset / 512 + area.size / 512 ≤ sector)

pub beside_areas : (disks : List Disk) → ((pv : ℕ) (disk : Disk) → slice_get disks pv ≡ Some disk → IsDisk pv disk) → (number sector : ℕ)
    → IsPlaceOn disks number sector → (b : Area × Option Locn) → IsHeldOn disks b → b.0.pv ≡ number
    → b.0.start / 512 ≤ sector → sector < b.0.start / 512 + b.0.size / 512 → ⊥
beside_areas disks are number sector on b held here from to =
    let same : held.disk ≡ on.disk = same_Some held.disk on.disk (sym held.there ∙ ap (slice_get disks) here ∙ on.there) in
    let read = header_read on.disk.contents on.header on.is in
    let stands = subst (λ (x : Option PvFound). ContentsCanStand number on.disk.sectors x) read.2 (are number on.disk on.there).contents in
    let there : slice_get read.1 held.number ≡ Some held.found =
    ap (λ (l : List AreaFound). slice_get l held.number) (ap areas_on (sym read.2) ∙ ap (λ (d : Disk). areas_on d.contents) (sym same))
    ∙ held.at in
    let beside : IsBesideArea sector held.found.area =
    each_area (IsBesideArea sector) read.1 held.number held.found (subst (Each (IsBesideArea sector)) (sym stands.2) on.beside.beside)
    there in
    let area : b.0 ≡ area_on b.0.pv held.found.area = entry_kept (area_on b.0.pv held.found.area) held.found.entry b held.is in
    let starts : b.0.start ≡ held.found.area.offset = ap (λ (a : Area). a.start) area in
    let sized : b.0.size ≡ held.found.area.size = ap (λ (a : Area). a.size) area in
    ⊎_elim
    (λ (before : sector < held.found.area.offset / 512). omega (arith, before, from, starts))
    (λ (behind : held.found.area.offset / 512 + held.found.area.size / 512 ≤ sector). omega (arith, behind, to, starts, sized))
    beside
