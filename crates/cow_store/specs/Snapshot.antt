-- What the snapshot of an image holds.
use Rattle.std.specs.Prelude.{ℕ, ◌+◌, ◌/◌, ◌%◌, List, map, Option, Some, None}
use Rattle.std.specs.List.{range_with_len}
use Rattle.sector_base.specs.Fields.{field}
use Rattle.disk_model.specs.Steps.{Image}
use Rattle.cow_store.specs.Entries.{slot_of}
use Rattle.cow_store.specs.Layout.{Lengths, entry_place, entry_sector, slot_start, slots_in}

-- the entry of a slot in the image
abbrev pub entry_in : Image → ℕ → ℕ
entry_in image slot = field 8 (image 1 (entry_sector slot)) (entry_place slot)

-- the entries of so many slots
abbrev pub entries_in : ℕ → Image → List ℕ
entries_in slots image = map (entry_in image) (range_with_len 0 slots)

-- what stands for a sector of the origin: that of the slot that its chunk has, or its own
abbrev pub sector_by : ℕ → Option ℕ → Image → ℕ → List ℕ
sector_by slots (Some slot) image sector = image 1 (slot_start slots slot + sector % 8)
sector_by slots None image sector = image 0 sector

-- a sector of the snapshot, by the entries of so many slots
abbrev pub old_sector : ℕ → List ℕ → Image → ℕ → List ℕ
old_sector slots entries image sector = sector_by slots (slot_of entries (sector / 8)) image sector

-- a sector of the snapshot of an image
abbrev pub snapshot : Lengths → Image → ℕ → List ℕ
snapshot lengths image sector = old_sector (slots_in lengths.store) (entries_in (slots_in lengths.store) image) image sector
