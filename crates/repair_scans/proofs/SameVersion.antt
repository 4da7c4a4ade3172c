-- A repair keeps the version that was found.
use Rattle.std.proofs.Common.{◌≡◌, List, ℕ, Option, Some, None, refl, ap}
use Rattle.std.specs.Prelude.{option_map}
use Rattle.meta_model.specs.declared.group.Group.{Group}
use Rattle.vg_found.specs.declared.disk.Disk.{Disk}
use Rattle.vg_found.specs.declared.found.Found.{Found}
use Rattle.vg_found.specs.Disks.{disks_of}
use Rattle.vg_repair.specs.Repaired.{repaired_disks, repaired_of}
use Rattle.vg_repair.specs.Stale.{text_of}
use Rattle.vg_repair.proofs.RepairedShape.{disks_kept}
use Rattle.vg_scan.specs.Versions.{Version, version_in}

-- the version of the group where these are its disks
abbrev version_on : List Disk → Group → Version
version_on disks group = record { group = group; disk_of = disks_of group disks }

by_group : (found : Found) (o : Option Group)
    → option_map (version_on (repaired_disks found.stale found.strays found.old (text_of found) found.disks)) o
    ≡ option_map (version_on found.disks) o
by_group found None = refl
by_group found (Some group) =
    ap (λ (l : List ℕ). Some (record { group = group; disk_of = l }))
    (disks_kept found.stale found.strays found.old (text_of found) group found.disks)

pub version_kept : (found : Found) → version_in (repaired_of found) ≡ version_in found
version_kept found = by_group found found.group
