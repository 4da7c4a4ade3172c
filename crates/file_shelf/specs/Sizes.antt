-- How large a file may be.
use Rattle.std.specs.Prelude.{◌≤◌, ◌/◌, ◌^◌, ℕ, List, All, nat_lt, if◌then◌else◌, Result, Ok, Err}
use Rattle.std.proofs.Props.{props}
use Rattle.file_shelf.specs.declared.image.OpenCause.{OpenCause}
use Rattle.file_shelf.specs.declared.image.OpenCause.TheVariants.{FewSectors, ManySectors}

-- a file has at least 8 and at most 2^40 whole sectors
abbrev pub IsSize : ℕ → Type 0
IsSize sectors = (8 ≤ sectors) × (sectors ≤ 2 ^ 40)

-- it holds of each in one way at most, as a ghost field must
pub sizes_prop : (sizes : List ℕ) → IsProp (All IsSize sizes)
sizes_prop sizes = hlevel props

-- the size of the disk over a file of so many bytes: its whole sectors
abbrev pub disk_size : ℕ → Result ℕ OpenCause
disk_size bytes =
    if nat_lt (bytes / 512) 8 then Err (FewSectors (bytes / 512))
    else (if nat_lt (2 ^ 40) (bytes / 512) then Err (ManySectors (bytes / 512)) else Ok (bytes / 512))
