-- How a table in memory finds slots: by an index of the chunks, and by the first slot that is free.
use Rattle.std.specs.Prelude.{◌≡◌, ◌≤◌, ℕ, List, filter, length, nat_eq}
use Rattle.std.specs.List.{position_or_len}
use Rattle.std.specs.HashMap.{HashMap, get, spare}
use Rattle.cow_store.specs.Entries.{is_free, slot_of}

-- the index has the slot of each chunk, and room for a chunk for each free slot; the next slot is the first that is free
pub record IsIndexed {S : Type 0} (slots : HashMap ℕ ℕ S) (next : ℕ) (entries : List ℕ) : Type 0 where
  pub each : (chunk : ℕ) → get nat_eq slots chunk ≡ slot_of entries chunk
  pub room : length (filter is_free entries) ≤ spare slots
  pub first : next ≡ position_or_len is_free entries
