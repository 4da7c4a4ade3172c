-- The entries of a table, by slots: 0 for a free slot, else a chunk's number plus one.
use Rattle.std.specs.Prelude.{ℕ, ◌+◌, ◌-◌, ◌==◌, Bool, not, List, map, filter, position, slice_set, Option}
use Rattle.std.specs.List.{position_from}

-- whether the entry is that of a free slot
abbrev pub is_free : ℕ → Bool
is_free entry = entry == 0

-- whether the entry names this chunk
abbrev pub names : ℕ → ℕ → Bool
names chunk entry = entry == chunk + 1

-- the slot with this chunk
abbrev pub slot_of : List ℕ → ℕ → Option ℕ
slot_of entries chunk = position_from (names chunk) 0 entries

-- the first slot that is free
abbrev pub free_slot : List ℕ → Option ℕ
free_slot entries = position is_free entries

-- the entries once this slot has the chunk
abbrev pub with_chunk : List ℕ → ℕ → ℕ → List ℕ
with_chunk entries slot chunk = slice_set entries slot (chunk + 1)

-- the chunks that have a slot
abbrev pub chunks_of : List ℕ → List ℕ
chunks_of entries = map (λ entry. entry - 1) (filter (λ entry. not (is_free entry)) entries)
