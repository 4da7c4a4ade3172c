-- What was read of the disks, as the readings that a scan decides over: each area with the copy itself in place of its number.
use Rattle.std.specs.Prelude.{◌<◌, ◌≤◌, ◌^◌, ℕ, Option, None, Some, List, length, map, filter_map, option_map, unwrap_or}
use Rattle.std.specs.Prelude.{slice_get}
use Rattle.std.specs.List.{AllByRecursion}
use Rattle.scan_rules.specs.declared.readings.GroupCopy.{GroupCopy}
use Rattle.scan_rules.specs.declared.readings.AreaGives.{AreaGives}
use Rattle.scan_rules.specs.declared.readings.AreaGives.TheVariants.{Nothing, Copy as Numbered, Refused as RefusedFor}
use Rattle.scan_rules.specs.declared.readings.AreaRead.{AreaRead}
use Rattle.scan_rules.specs.declared.readings.PvRead.{PvRead}
use Rattle.scan_rules.specs.declared.readings.DiskRead.{DiskRead}
use Rattle.scan_rules.specs.Decision.{AreaReading, HoldsNone, Copy, Refused, Area, Found, Reading}

-- a copy, as it reads
abbrev pub copied : GroupCopy → AreaReading
copied copy = Copy copy.group copy.text copy.passed

-- what an area gives, with the copy in place of its number
abbrev pub gives_of : List GroupCopy → AreaGives → AreaReading
gives_of copies Nothing = HoldsNone
gives_of copies (Numbered number) = unwrap_or (option_map copied (slice_get copies number)) HoldsNone
gives_of copies (RefusedFor why) = Refused why

-- an area, as it reads
abbrev pub area_of : List GroupCopy → AreaRead → Area
area_of copies area = record { start = area.start; sectors = area.sectors; reading = option_map (gives_of copies) area.gives }

-- a physical volume, as it reads
abbrev pub found_of : List GroupCopy → PvRead → Found
found_of copies pv = record { id = pv.id; areas = map (area_of copies) pv.areas }

-- a disk, as it reads
abbrev pub reading_of : List GroupCopy → DiskRead → Reading
reading_of copies disk = record { sectors = disk.sectors; pv = option_map (found_of copies) disk.pv }

-- what these areas give, where they aren't ignored
abbrev pub given_by : List GroupCopy → List AreaRead → List AreaReading
given_by copies areas = filter_map (λ (area : Area). area.reading) (map (area_of copies) areas)

-- all disks
abbrev pub readings_of : List GroupCopy → List DiskRead → List Reading
readings_of copies disks = map (reading_of copies) disks

-- each number of a copy is that of one of so many
abbrev pub GivesOneOf : ℕ → AreaGives → Type 0
GivesOneOf count Nothing = Unit {0}
GivesOneOf count (Numbered number) = number < count
GivesOneOf count (RefusedFor why) = Unit {0}

-- the same of an area, if it isn't ignored
abbrev pub GivesAtMost : ℕ → Option AreaGives → Type 0
GivesAtMost count None = Unit {0}
GivesAtMost count (Some gives) = GivesOneOf count gives

-- the same of all areas of a physical volume, which has fewer than 2^32
abbrev pub AreasAreOf : ℕ → Option PvRead → Type 0
AreasAreOf count None = Unit {0}
AreasAreOf count (Some pv) = (length pv.areas < 2 ^ 32) × AllByRecursion (λ (area : AreaRead). GivesAtMost count area.gives) pv.areas

-- the disk has fewer than 2^32 areas, and each number of a copy there is that of one of so many
abbrev pub DiskIsOf : ℕ → DiskRead → Type 0
DiskIsOf count disk = AreasAreOf count disk.pv

-- the copies that were read, by their numbers, and the readings of the disks
pub record AllRead : Type 0 where
  pub copies : List GroupCopy
  pub disks : List Reading

-- what was read, as it is seen
abbrev pub all_read : List GroupCopy → List DiskRead → AllRead
all_read copies disks = record { copies = copies; disks = readings_of copies disks }

-- at most 64 disks, whose numbers are those of these copies
abbrev pub AllAreOf : List GroupCopy → List DiskRead → Type 0
AllAreOf copies disks = (length disks ≤ 64) × AllByRecursion (DiskIsOf (length copies)) disks
