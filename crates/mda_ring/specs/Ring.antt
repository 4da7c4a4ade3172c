-- The ring of a metadata area of lvm2's on-disk format: the area's bytes from 512 to its end, in which a text that comes
-- to the end goes on at 512. All places count from the area's start.
use Rattle.std.specs.Prelude.{◌≡◌, ℕ, ◌+◌, ◌-◌, ◌*◌, ◌/◌, ◌%◌, ◌<◌, min, Option, None, Some}
use Rattle.mda_header.specs.declared.header.Locn.{Locn}

-- in an area of this size, where byte j of a text at this offset stands
abbrev pub byte_place : ℕ → ℕ → ℕ → ℕ
byte_place size offset j = 512 + (offset - 512 + j) % (size - 512)

-- so many bytes from the offset on touch this sector of the area
abbrev pub Touches : ℕ → ℕ → ℕ → ℕ → Type 0
Touches size offset count sector = (j : ℕ) × (j < count) × (byte_place size offset j / 512 ≡ sector)

-- how many sectors so many bytes need
abbrev pub need : ℕ → ℕ
need count = (count + 511) / 512

-- how many sectors the ring has
abbrev pub ring_sectors : ℕ → ℕ
ring_sectors size = size / 512 - 1

-- how many sectors so many bytes from the offset on touch: those from the first one's to the last one's, and never more
-- than the ring has, where the last byte is back in the sector of the first
abbrev pub touched_count : ℕ → ℕ → ℕ → ℕ
touched_count size offset count = min (ring_sectors size) (need (offset + count) - offset / 512)

-- how many sectors the committed text leaves
abbrev pub room : ℕ → Option Locn → ℕ
room size None = ring_sectors size
room size (Some text) = ring_sectors size - touched_count size text.offset text.size

-- where the next text begins: at the first multiple of 512 at or after the committed text's end, which goes on at 512
-- from the area's end on, and at 512 where no text is committed
abbrev pub next_offset : ℕ → Option Locn → ℕ
next_offset size None = 512
next_offset size (Some text) = 512 + (512 * need (text.offset + text.size) - 512) % (size - 512)

-- the sector of the area that comes so many sectors after the first one of a text at this offset
abbrev pub ring_sector : ℕ → ℕ → ℕ → ℕ
ring_sector size offset k = byte_place size (offset - offset % 512) (512 * k) / 512
