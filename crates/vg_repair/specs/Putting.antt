-- What is put right, as it is handed on.
use Rattle.std.specs.Prelude.{◌≡◌, ◌≤◌, ℕ, ◌+◌, List, [], length, slice_get, unwrap_or, Option, Some}
use Rattle.sector_base.specs.Checksum.{checksum, lvm_crc_start}
use Rattle.mda_header.specs.declared.header.Locn.{Locn}
use Rattle.mda_ring.specs.Ring.{need, room}
use Rattle.mda_ring.specs.declared.area.Area.{Area}
use Rattle.disk_contents.specs.declared.contents.AreaFound.{AreaFound}
use Rattle.vg_commit.specs.Written.{stored}
use Rattle.vg_repair.specs.Stale.{stale_in}
use Rattle.vg_repair.specs.declared.repaired.Repair.{Repair}

-- the text that the stale areas get
abbrev pub text_put : Repair → List ℕ
text_put repair = unwrap_or repair.text []

-- the checksum that goes with it is that of the text as it is stored
abbrev pub IsSummed : Repair → Type 0
IsSummed repair = repair.sum ≡ checksum lvm_crc_start (stored (text_put repair))

-- the text has room in the area that was found on this disk, by its number there, if it is stale
abbrev pub AreaHasRoom : Repair → ℕ → ℕ × AreaFound → Type 0
AreaHasRoom repair pv found =
    (area : Area × Option Locn) → stale_in repair.stale pv found ≡ Some area → need (length (text_put repair) + 1) ≤ room area.0.size area.1

-- the text has room in each of these areas of a disk that is stale
abbrev pub HasRoom : Repair → ℕ → List AreaFound → Type 0
HasRoom repair pv areas = (number : ℕ) (found : AreaFound) → slice_get areas number ≡ Some found → AreaHasRoom repair pv (number, found)
