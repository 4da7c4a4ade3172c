-- Laws of what a scan finds.
use Rattle.std.specs.Prelude.{◌≡◌, ◌<◌, ℕ, Some, List, length, slice_get, All, AllPairs}
use Rattle.meta_model.specs.declared.group.Group.{Group}
use Rattle.meta_model.specs.declared.pv.Pv.{Pv}
use Rattle.pv_header.specs.declared.header.PvHeader.{PvHeader}
use Rattle.vg_found.specs.declared.disk.Disk.{Disk}
use Rattle.vg_found.specs.declared.found.Found.{Found}
use Rattle.vg_found.specs.Disks.{header_on, held_areas}
use Rattle.vg_found.specs.Shape.{HasShape, IsDisk}
use Rattle.vg_found.specs.Whole.{IsWhole}
use Rattle.mda_ring.specs.Areas.{CanTake, LieApart}

-- on disks that can stand, the next text can be placed in each area that isn't ignored, and no two of these share a sector
abbrev pub AreasAreShaped : Type 0
AreasAreShaped =
    (disks : List Disk) → ((pv : ℕ) (disk : Disk) → slice_get disks pv ≡ Some disk → IsDisk pv disk)
    → All CanTake (held_areas 0 disks) × AllPairs LieApart (held_areas 0 disks)

-- a disk whose header has this id
abbrev pub HasHeader : Disk → List ℕ → Type 0
HasHeader disk id = (header : PvHeader) × (header_on disk.contents ≡ Some header) × (header.id ≡ id)

-- where what was found is whole, the number that it has for a physical volume of the group is that of a disk with its header
abbrev pub WholeHasItsDisks : Type 0
WholeHasItsDisks =
    (found : Found) (group : Group) → HasShape found → IsWhole found → found.group ≡ Some group
    → (i : ℕ) (pv : List ℕ × Pv) → slice_get group.pvs i ≡ Some pv
    → (number : ℕ) × (disk : Disk) × (slice_get found.disk_of i ≡ Some number) × (number < length found.disks)
    × (slice_get found.disks number ≡ Some disk) × HasHeader disk pv.1.id
