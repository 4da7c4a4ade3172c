-- Where signatures lie on a disk, by its number of sectors.
use Rattle.std.specs.Prelude.{ℕ, ◌-◌, ◌*◌, ◌/◌, ◌%◌, nat_le, nat_lt, if◌then◌else◌, Option, Some, None}
use Rattle.disk_signature.specs.declared.place.Place.{Place}
use Rattle.disk_signature.specs.declared.place.Place.TheVariants.{FromStart, FromEnd, Md090, Md10}

-- the sector, if the disk has it
abbrev one_of : ℕ → ℕ → Option ℕ
one_of disk sector = if nat_lt sector disk then Some sector else None

-- the sector where a signature at this place begins; none where the disk doesn't have it. The last two are the Linux kernel's
-- MD_NEW_SIZE_SECTORS, and sb_start of version 1.0 in super_1_load.
abbrev pub sector_of : Place → ℕ → Option ℕ
sector_of (FromStart byte) disk = one_of disk (byte / 512)
sector_of (FromEnd sectors) disk = if nat_le sectors disk then one_of disk (disk - sectors) else None
sector_of Md090 disk = if nat_le 128 (disk / 128 * 128) then one_of disk (disk / 128 * 128 - 128) else None
sector_of Md10 disk = if nat_le 16 disk then one_of disk ((disk - 16) / 8 * 8) else None

-- and its first byte there
abbrev pub byte_in : Place → ℕ
byte_in (FromStart byte) = byte % 512
byte_in (FromEnd sectors) = 0
byte_in Md090 = 0
byte_in Md10 = 0
