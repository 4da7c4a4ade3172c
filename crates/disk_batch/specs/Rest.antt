-- The writes of a batch that are still to be submitted: blocks of one text, and then writes with sectors of their own.
use Rattle.std.specs.Prelude.{◌≡◌, ◌<◌, ℕ, List, [], ◌∷◌, ◌++◌, drop, length, map, reverse, All, Option, Some, None}
use Rattle.sector_base.specs.declared.spans.Span.{Span}
use Rattle.disk_batch.specs.declared.rest.Rest.{Rest}
use Rattle.disk_batch.specs.Parts.{part_put}
use Rattle.disk_batch.specs.Writes.{BlockNext, block_size}

-- these writes, in their order
abbrev pub rest_of : Rest → List (Span × List (List ℕ))
rest_of rest = map (part_put rest.text) (drop rest.at rest.blocks.items) ++ reverse rest.ends.items

-- Where writes are to come some were submitted first, and where a block is next all of these are blocks.
pub record CanFollow (first rest : List (Span × List (List ℕ))) : Type 0 where
  pub some : 0 < length rest → 0 < length first
  pub blocks : BlockNext rest → All (λ put. put.0.count ≡ block_size) first

-- the first of these writes was taken off, if there is one
abbrev pub TakesFirst : List (Span × List (List ℕ)) → Option (Span × List (List ℕ)) → List (Span × List (List ℕ)) → Type 0
TakesFirst old None new = (old ≡ []) × (new ≡ [])
TakesFirst old (Some put) new = old ≡ put ∷ new
