-- Writes that are made block by block.
use Rattle.std.specs.Prelude.{ℕ, ◌+◌, ◌*◌, ◌/◌, ◌%◌, ◌==◌, if◌then◌else◌, List, [], ◌∷◌, ◌++◌, drop, flat_map, map, take}
use Rattle.std.specs.List.{range_with_len}
use Rattle.sector_base.specs.declared.spans.Span.{Span}
use Rattle.disk_batch.specs.Writes.{block_size}

-- so many sectors of the write from this one on
abbrev pub piece_of : Span × List (List ℕ) → ℕ → ℕ → Span × List (List ℕ)
piece_of put from count = (record { pv = put.0.pv; first = put.0.first + from; count = count }, take count (drop from put.1))

-- the whole blocks of the write
abbrev pub blocks_of : Span × List (List ℕ) → List (Span × List (List ℕ))
blocks_of put = map (λ (k : ℕ). piece_of put (block_size * k) block_size) (range_with_len 0 (put.0.count / block_size))

-- and what is left of it behind them
abbrev pub end_of : Span × List (List ℕ) → List (Span × List (List ℕ))
end_of put =
    if put.0.count % block_size == 0 then [] else piece_of put (block_size * (put.0.count / block_size)) (put.0.count % block_size) ∷ []

-- these writes in blocks, and then what is left of each
abbrev pub in_blocks : List (Span × List (List ℕ)) → List (Span × List (List ℕ))
in_blocks puts = flat_map blocks_of puts ++ flat_map end_of puts
