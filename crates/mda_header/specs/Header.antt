-- The header of a metadata area of lvm2's on-disk format, `struct mda_header` and `struct raw_locn`, and why a sector
-- isn't the header of an area.
use Rattle.std.specs.Prelude.{◌≡◌, ◌≢◌, ℕ, ◌+◌, ◌-◌, ◌%◌, ◌<◌, ◌≤◌, ◌↔◌, IsTrue, List, take, drop, codes, Option, None, Some}
use Rattle.sector_base.specs.Fields.{field}
use Rattle.sector_base.specs.Checksum.{checksum, lvm_crc_start}
use Rattle.mda_header.specs.declared.entry.HeaderEntry.{HeaderEntry}
use Rattle.mda_header.specs.declared.entry.HeaderEntry.TheVariants.{Ignored, Nothing, Text, Refused}
use Rattle.mda_header.specs.declared.header.Locn.{Locn}
use Rattle.mda_header.specs.declared.header.MdaHeader.{MdaHeader}
use Rattle.mda_header.specs.declared.refusal.MdaRefusal.{MdaRefusal}
use Rattle.mda_header.specs.declared.refusal.MdaRefusal.TheVariants.{BadSum, BadMagic, BadVersion, WrongStart, SizeBad, LocnOutside}

-- a header of lvm2's only version, of whatever area
pub record IsSound (sector : List ℕ) : Type 0 where
  pub checksum_is : field 4 sector 0 ≡ checksum lvm_crc_start (drop 4 sector)
  pub magic : take 16 (drop 4 sector) ≡ codes " LVM2 x[5A%r0N*>"
  pub version : field 4 sector 20 ≡ 1

-- the sector is the header of the area with this start and size, whatever its entries are
pub record IsOfArea (sector : List ℕ) (start size : ℕ) : Type 0 where
  pub sound : IsSound sector
  pub start_is : field 8 sector 24 ≡ start
  pub size_is : field 8 sector 32 ≡ size

-- the fields of the entry at this byte
abbrev pub locn_at : List ℕ → ℕ → Locn
locn_at sector at = record { offset = field 8 sector at; size = field 8 sector (at + 8); sum = field 4 sector (at + 16) }

-- a text that lies in an area of this size, behind its header sector
pub record IsInside (size : ℕ) (locn : Locn) : Type 0 where
  pub behind_header : 512 ≤ locn.offset
  pub before_end : locn.offset < size
  pub has_bytes : 0 < locn.size
  pub has_room : locn.size ≤ size - 512

-- entry 0: none, or a text inside of the area
abbrev pub IsCommitted : List ℕ → ℕ → Option Locn → Type 0
IsCommitted sector size None = (locn_at sector 40).offset ≡ 0
IsCommitted sector size (Some locn) = (locn ≡ locn_at sector 40) × IsInside size locn

-- entry 1: a text inside of the area; anything else is none
abbrev pub IsPrecommitted : List ℕ → ℕ → Option Locn → Type 0
IsPrecommitted sector size None = ¬ IsInside size (locn_at sector 64)
IsPrecommitted sector size (Some locn) = (locn ≡ locn_at sector 64) × IsInside size locn

-- the sector is a header, and these are its fields; the lowest bit of entry 0's flags says that the area is ignored
pub record IsHeader (sector : List ℕ) (header : MdaHeader) : Type 0 where
  pub sound : IsSound sector
  pub start : field 8 sector 24 ≡ header.start
  pub size : field 8 sector 32 ≡ header.size
  pub committed : IsCommitted sector header.size header.committed
  pub precommitted : IsPrecommitted sector header.size header.precommitted
  pub ignored : IsTrue header.ignored ↔ (field 4 sector 60 % 2 ≡ 1)

-- the sector isn't the header of the area with this start and size, and this is the first test that it fails, with
-- the values that differ
abbrev pub IsRefused : List ℕ → ℕ → ℕ → MdaRefusal → Type 0
IsRefused sector start size (BadSum said found) =
    (field 4 sector 0 ≡ said) × (found ≡ checksum lvm_crc_start (drop 4 sector)) × (said ≢ found)
IsRefused sector start size BadMagic =
    (field 4 sector 0 ≡ checksum lvm_crc_start (drop 4 sector)) × (take 16 (drop 4 sector) ≢ codes " LVM2 x[5A%r0N*>")
IsRefused sector start size (BadVersion said) =
    (field 4 sector 0 ≡ checksum lvm_crc_start (drop 4 sector)) × (take 16 (drop 4 sector) ≡ codes " LVM2 x[5A%r0N*>")
    × (field 4 sector 20 ≡ said) × (said ≢ 1)
IsRefused sector start size (WrongStart said sought) =
    IsSound sector × (field 8 sector 24 ≡ said) × (sought ≡ start) × (said ≢ start)
IsRefused sector start size (SizeBad said sought) =
    IsSound sector × (field 8 sector 24 ≡ start) × (field 8 sector 32 ≡ said) × (sought ≡ size) × (said ≢ size)
IsRefused sector start size (LocnOutside offset text_size) =
    IsOfArea sector start size × ((locn_at sector 40).offset ≡ offset) × ((locn_at sector 40).size ≡ text_size) × (offset ≢ 0)
    × (¬ IsInside size (locn_at sector 40))

-- a header of whatever area that has no committed text: nothing is held there, whatever start and size it says
pub record HoldsNothing (sector : List ℕ) : Type 0 where
  pub sound : IsSound sector
  pub none : (locn_at sector 40).offset ≡ 0

-- the header of this area, with a committed text inside of it
pub record HoldsText (sector : List ℕ) (start size : ℕ) : Type 0 where
  pub of_area : IsOfArea sector start size
  pub inside : IsInside size (locn_at sector 40)

-- the lowest bit of entry 0's flags is set
abbrev pub HasIgnoredBit : List ℕ → Type 0
HasIgnoredBit sector = field 4 sector 60 % 2 ≡ 1

-- a header of whatever area that is marked as ignored: nothing is read or written there, whatever else it says
pub record IsIgnored (sector : List ℕ) : Type 0 where
  pub sound : IsSound sector
  pub bit : HasIgnoredBit sector

-- what the sector says of the text that is committed in the area with this start and size
abbrev pub IsEntry : List ℕ → ℕ → ℕ → HeaderEntry → Type 0
IsEntry sector start size Ignored = IsIgnored sector
IsEntry sector start size Nothing = HoldsNothing sector × (¬ HasIgnoredBit sector)
IsEntry sector start size (Text locn) = HoldsText sector start size × (¬ HasIgnoredBit sector) × (locn ≡ locn_at sector 40)
IsEntry sector start size (Refused refusal) = IsRefused sector start size refusal × (¬ HoldsNothing sector) × (¬ IsIgnored sector)
