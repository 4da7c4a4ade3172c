-- The layout of a store of copies: a head, a table of entries, and slots of eight sectors. The origin is volume 0, the store is
-- volume 1.
use Rattle.std.specs.Prelude.{ℕ, ◌+◌, ◌-◌, ◌*◌, ◌/◌, ◌%◌, List, codes, replicate, slice_index_or}
use Rattle.sector_base.specs.Fields.{with_bytes, with_field}

-- how many sectors the origin and the store have
pub record Lengths : Type 0 where
  pub origin : ℕ
  pub store : ℕ

-- the lengths, by the sizes of the volumes
abbrev pub lengths_of : List ℕ → Lengths
lengths_of sizes = record { origin = slice_index_or sizes 0 0; store = slice_index_or sizes 1 0 }

-- how many chunks of eight sectors so many sectors have; the last chunk may have fewer
abbrev pub chunks_in : ℕ → ℕ
chunks_in sectors = (sectors + 7) / 8

-- how many sectors the table of so many slots has: 64 entries of eight bytes fill a sector
abbrev pub table_sectors : ℕ → ℕ
table_sectors slots = (slots + 63) / 64

-- how many sectors the head, the table and the data of so many slots have
abbrev pub used_sectors : ℕ → ℕ
used_sectors slots = 1 + table_sectors slots + 8 * slots

-- how many slots a store of so many sectors has, the greatest number that it has room for: each 513 sectors behind the head hold
-- 64 slots with their table sector
abbrev pub slots_in : ℕ → ℕ
slots_in sectors = 64 * ((sectors - 1) / 513) + ((sectors - 1) % 513 - 1) / 8

-- the sector of the store at which the data of a slot begins, where there are so many slots
abbrev pub slot_start : ℕ → ℕ → ℕ
slot_start slots slot = 1 + table_sectors slots + 8 * slot

-- the sector of the table with the entry of a slot, and the place of the entry in it
abbrev pub entry_sector : ℕ → ℕ
entry_sector slot = 1 + slot / 64

abbrev pub entry_place : ℕ → ℕ
entry_place slot = 8 * (slot % 64)

-- how a head begins
abbrev pub magic : List ℕ
magic = codes "COWSNAP1"

-- a sector of zeros
abbrev pub zeros : List ℕ
zeros = replicate 512 0

-- the head for an origin of so many sectors: the magic, the length, and zeros
abbrev pub head_for : ℕ → List ℕ
head_for length = with_field 8 (with_bytes zeros 0 magic) 8 length

-- a sector of the table once the entry of this slot names the chunk: its number plus one
abbrev pub with_entry : List ℕ → ℕ → ℕ → List ℕ
with_entry sector slot chunk = with_field 8 sector (entry_place slot) (chunk + 1)
