-- The mark in the header of a physical volume that says that a group uses it.
use Rattle.std.specs.Prelude.{ℕ, ◌-◌, ◌%◌, bit_or, Bool, true, false}
use Rattle.pv_header.specs.declared.header.PvHeader.{PvHeader}

-- flags with the lowest one, which is the mark, or without it
abbrev pub marked_flags : Bool → ℕ → ℕ
marked_flags true flags = bit_or flags 1
marked_flags false flags = flags - flags % 2

-- the header with version 2, and with the mark or without it
abbrev pub marked : Bool → PvHeader → PvHeader
marked in_use header = record header { version = 2; flags = marked_flags in_use header.flags }

-- with it
abbrev pub used : PvHeader → PvHeader
used header = marked true header

-- without it
abbrev pub unused : PvHeader → PvHeader
unused header = marked false header
