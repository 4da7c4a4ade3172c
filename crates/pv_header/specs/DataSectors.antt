-- Which sectors of a physical volume hold data.
use Rattle.std.specs.Prelude.{ℕ, ◌+◌, ◌*◌, ◌/◌, max, List, [], ◌∷◌}
use Rattle.pv_header.specs.declared.extent_list.Extent.{Extent}
use Rattle.pv_header.specs.Areas.{end_of}

-- the first of them: where the first data area begins, rounded up, and at least 8
abbrev pub data_start_of : List Extent → ℕ → ℕ
data_start_of [] disk = disk
data_start_of (area ∷ more) disk = max 8 ((area.offset + 511) / 512)

-- the one after the last: where the first data area ends, rounded down; one of size 0 ends where the next metadata area at
-- or after its offset begins, or at the disk's end
abbrev pub data_end_of : List Extent → List Extent → ℕ → ℕ
data_end_of [] areas disk = disk
data_end_of (area ∷ more) areas disk = end_of areas (disk * 512) area / 512
