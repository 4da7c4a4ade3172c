-- What is found once a repair is done.
use Rattle.std.specs.Prelude.{ℕ, false, if◌then◌else◌, List, [], map, Option, None, Some, option_map, Ok}
use Rattle.std.specs.List.{enumerate_from}
use Rattle.std.specs.Option.{option_map_or}
use Rattle.std.specs.Ordering.{nat_cmp}
use Rattle.std.specs.FinSet as set
use Rattle.mda_header.specs.declared.entry.HeaderEntry.{HeaderEntry}
use Rattle.mda_header.specs.declared.entry.HeaderEntry.TheVariants.{Nothing, Text}
use Rattle.mda_header.specs.declared.header.Locn.{Locn}
use Rattle.mda_ring.specs.declared.area.Area.{Area}
use Rattle.disk_contents.specs.declared.contents.AreaFound.{AreaFound}
use Rattle.disk_contents.specs.declared.contents.PvFound.{PvFound}
use Rattle.disk_contents.specs.declared.contents.PvFound.TheVariants.{NoLabel, NoHeader, Whole}
use Rattle.vg_found.specs.Disks.{held_area, held_areas}
use Rattle.vg_found.specs.declared.disk.Disk.{Disk}
use Rattle.vg_found.specs.declared.found.Found.{Found}
use Rattle.vg_commit.specs.Written.{new_entry}
use Rattle.group_plan.specs.Marks.{unused, used}
use Rattle.pv_header.specs.declared.header.PvHeader.{PvHeader}
use Rattle.vg_repair.specs.Stale.{is_among, text_of}

-- what a header says in which this text is committed, or none
abbrev pub entry_of : Option Locn → HeaderEntry
entry_of None = Nothing
entry_of (Some locn) = Text locn

-- an area whose header says so, with no second entry
abbrev pub with_entry : AreaFound → Option Locn → AreaFound
with_entry found committed = record {
  area = found.area;
  header = Ok (record { start = found.area.offset; size = found.area.size; committed = committed; precommitted = None; ignored = false });
  entry = entry_of committed;
}

-- an area that isn't ignored as it is found then, by the number of its disk and its own there, with the entry that it had: a
-- stray's is empty, a stale one has the new entry of the text, and another is as it was
abbrev pub repaired_held : List (ℕ × ℕ) → set.FinSet nat_cmp → List ℕ → ℕ → ℕ × AreaFound → Area × Option Locn → AreaFound
repaired_held stale strays text disk found area =
    if set.contains strays disk then with_entry found.1 None else if is_among stale disk found.0 then with_entry found.1
    (Some (new_entry text area)) else found.1

-- any area as it is found then
abbrev pub repaired_area : List (ℕ × ℕ) → set.FinSet nat_cmp → List ℕ → ℕ → ℕ × AreaFound → AreaFound
repaired_area stale strays text disk found = option_map_or (repaired_held stale strays text disk found) (held_area disk found.1) found.1

-- all areas of a disk as they are found then
abbrev pub repaired_areas : List (ℕ × ℕ) → set.FinSet nat_cmp → List ℕ → ℕ → List AreaFound → List AreaFound
repaired_areas stale strays text disk areas = map (repaired_area stale strays text disk) (enumerate_from 0 areas)

-- the header of a disk as it is found then: a stray's is in use no more, an old one is brought up, and another is as it was
abbrev pub repaired_header : set.FinSet nat_cmp → set.FinSet nat_cmp → ℕ → PvHeader → PvHeader
repaired_header strays old disk header =
    if set.contains strays disk then unused header else if set.contains old disk then used header else header

-- what stands on a disk then
abbrev pub repaired_contents : List (ℕ × ℕ) → set.FinSet nat_cmp → set.FinSet nat_cmp → List ℕ → ℕ → PvFound → PvFound
repaired_contents stale strays old text disk (NoLabel refusal) = NoLabel refusal
repaired_contents stale strays old text disk (NoHeader label refusal) = NoHeader label refusal
repaired_contents stale strays old text disk (Whole label header areas) =
    Whole label (repaired_header strays old disk header) (repaired_areas stale strays text disk areas)

-- a disk as it is found then, by its number
abbrev pub repaired_disk : List (ℕ × ℕ) → set.FinSet nat_cmp → set.FinSet nat_cmp → List ℕ → ℕ × Disk → Disk
repaired_disk stale strays old text disk =
    record { sectors = disk.1.sectors; contents = option_map (repaired_contents stale strays old text disk.0) disk.1.contents }

-- all disks as they are found then
abbrev pub repaired_disks : List (ℕ × ℕ) → set.FinSet nat_cmp → set.FinSet nat_cmp → List ℕ → List Disk → List Disk
repaired_disks stale strays old text disks = map (repaired_disk stale strays old text) (enumerate_from 0 disks)

-- all that is found once a repair is done: nothing stale, no stray and no old disk, and all else as it was
abbrev pub repaired_of : Found → Found
repaired_of found = record found {
  disks = repaired_disks found.stale found.strays found.old (text_of found) found.disks;
  areas = held_areas 0 (repaired_disks found.stale found.strays found.old (text_of found) found.disks);
  stale = [];
  strays = set.empty;
  old = set.empty;
}
