-- Parts of a text, each a span and the place in the text from which its sectors are.
use Rattle.std.specs.Prelude.{◌≡◌, ◌≤◌, ◌<◌, ◌+◌, ◌*◌, ◌/◌, ◌%◌, ◌^◌, ◌==◌, if◌then◌else◌, ℕ, List, [], ◌∷◌, drop, map, take}
use Rattle.std.specs.List.{range_with_len}
use Rattle.sector_base.specs.declared.spans.Span.{Span}
use Rattle.disk_batch.specs.Writes.{block_size}

-- the write of the part
abbrev pub part_put : List (List ℕ) → Span × ℕ → Span × List (List ℕ)
part_put text part = (part.0, take part.0.count (drop part.1 text))

-- the part lies in a text of so many sectors
abbrev pub IsPartOf : ℕ → Span × ℕ → Type 0
IsPartOf count part = part.1 + part.0.count ≤ count

-- its numbers, up to its end, are below 2^64
abbrev pub IsSmall : Span × ℕ → Type 0
IsSmall part = (part.0.first + part.0.count < 2 ^ 64) × (part.1 + part.0.count < 2 ^ 64)

-- it lies in the text and has the size of a block
pub record IsBlockOf (count : ℕ) (part : Span × ℕ) : Type 0 where
  pub size : part.0.count ≡ block_size
  pub within : part.1 + part.0.count ≤ count

-- the write is smaller than a block
abbrev pub IsEnd : Span × List (List ℕ) → Type 0
IsEnd put = put.0.count < block_size

-- so many sectors of the part from this one on
abbrev pub piece_part : Span × ℕ → ℕ → ℕ → Span × ℕ
piece_part part at count = (record { pv = part.0.pv; first = part.0.first + at; count = count }, part.1 + at)

-- its blocks
abbrev pub block_parts : Span × ℕ → List (Span × ℕ)
block_parts part = map (λ (k : ℕ). piece_part part (block_size * k) block_size) (range_with_len 0 (part.0.count / block_size))

-- and what is left behind them
abbrev pub end_parts : Span × ℕ → List (Span × ℕ)
end_parts part =
    if part.0.count % block_size == 0 then []
    else piece_part part (block_size * (part.0.count / block_size)) (part.0.count % block_size) ∷ []
