-- The writes of a batch, each a span and the sectors that are written to it, and the disks that it flushes.
use Rattle.std.specs.Prelude.{◌≡◌, ◌⊎◌, ℕ, IsTrue, List, [], ◌∷◌, filter, All}
use Rattle.std.specs.Ordering.{nat_cmp}
use Rattle.std.specs.FinSet.{FinSet, contains}
use Rattle.std.specs.List.{range_with_len}
use Rattle.sector_base.specs.declared.spans.Span.{Span}
use Rattle.sector_base.specs.Spans.{covers}
use Rattle.disk_model.specs.Steps.{Work, Writing, value_at}
use Rattle.disk_model.specs.Operations.{Fills}

-- what the write does to the shelf
abbrev pub write_work : Span × List (List ℕ) → Work
write_work put = Writing put.0 put.1

-- how many sectors it writes
abbrev pub span_count : Span × List (List ℕ) → ℕ
span_count put = put.0.count

-- each write lies in its disk, and has as many sectors as its span
abbrev pub LieIn : List ℕ → List (Span × List (List ℕ)) → Type 0
LieIn sizes puts = All (λ (put : Span × List (List ℕ)). Fills sizes put.0 put.1) puts

-- how many sectors a block has: a part of a text that is written from the buffer of an earlier one
abbrev pub block_size : ℕ
block_size = 128

-- the next of these writes is that of a block
abbrev pub BlockNext : List (Span × List (List ℕ)) → Type 0
BlockNext [] = ⊥
BlockNext (put ∷ puts) = put.0.count ≡ block_size

-- each block comes behind blocks alone
abbrev pub BlocksFirst : List (Span × List (List ℕ)) → Type 0
BlocksFirst [] = Unit {0}
BlocksFirst (put ∷ puts) = (BlockNext puts → put.0.count ≡ block_size) × BlocksFirst puts

-- one of the writes covers the sector, and writes this value to it
abbrev pub IsWrittenBy : List (Span × List (List ℕ)) → ℕ → ℕ → List ℕ → Type 0
IsWrittenBy [] pv sector value = ⊥
IsWrittenBy (put ∷ puts) pv sector value =
    (IsTrue (covers put.0 pv sector) × (value ≡ value_at put.0 put.1 sector)) ⊎ IsWrittenBy puts pv sector value

-- the numbers of a set of disks, in order
unfoldable pub disks_in : FinSet nat_cmp → List ℕ
disks_in set = filter (contains set) (range_with_len 0 64)
