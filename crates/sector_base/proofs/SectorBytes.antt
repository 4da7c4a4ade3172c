-- What is still a sector.
use Rattle.std.proofs.Common.{ℕ, ◌+◌, ◌<◌, ◌≤◌, List, ◌++◌, length, take, drop, arith, length-append, length-take, length-drop}
use Rattle.std.specs.List.{All}
use Rattle.std.proofs.lemmas.List.Elements.{All-append, All-drop, All-take}
use Rattle.sector_base.specs.Fields.{with_bytes}
use Rattle.sector_base.specs.Sectors.{IsSector}

-- a sector with other bytes at a place
pub IsSector-with_bytes : (sector : List ℕ) (at : ℕ) (bytes : List ℕ) → IsSector sector → at + length bytes ≤ 512 → All (λ b. b < 256) bytes
    → IsSector (with_bytes sector at bytes)
IsSector-with_bytes sector at bytes is fits are =
    let P : ℕ → Type 0 = λ b. b < 256 in
    record {
      long = grind (arith, length-append, length-take, length-drop, is.long);
      bytes =
          All-append P (take at sector ++ bytes) (drop (at + length bytes) sector)
          (All-append P (take at sector) bytes (All-take P at sector is.bytes) are) (All-drop P (at + length bytes) sector is.bytes);
    }
