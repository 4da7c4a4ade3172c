-- Sectors in a run of bytes, and the operations that a file can carry out.
use Rattle.std.specs.Prelude.{◌≡◌, ◌≤◌, ◌^◌, ℕ, ◌+◌, ◌*◌, List, length, take, drop}
use Rattle.disk_model.specs.declared.ops.Op.{Op}
use Rattle.disk_model.specs.declared.ops.Op.TheVariants.{Read, Write, Flush}

-- the sector with this number in a run of bytes
abbrev pub sector_of : List ℕ → ℕ → List ℕ
sector_of bytes k = take 512 (drop (512 * k) bytes)

-- the span ends by the largest size of a file, and the buffer has its sectors
abbrev pub IsInFile : Op → Type 0
IsInFile (Read span buffer) = (span.first + span.count ≤ 2 ^ 40) × (length buffer ≡ span.count)
IsInFile (Write span sectors) = (span.first + span.count ≤ 2 ^ 40) × (length sectors ≡ span.count)
IsInFile (Flush pv) = Unit {0}
