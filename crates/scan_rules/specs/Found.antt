-- The parts of what a scan finds, each as a list of its own.
use Rattle.std.specs.Prelude.{ℕ, ◌+◌, ◌*◌, ◌<◌, ◌^◌, Bool, ◌&&◌, ◌||◌, not, Option, None, Some, List, [], ◌∷◌, length, map, filter}
use Rattle.std.specs.Prelude.{filter_map, find, option_map, if◌then◌else◌}
use Rattle.std.specs.Option.{option_and_then}
use Rattle.std.specs.List.{enumerate_from, flat_map, list_any}
use Rattle.std.specs.FinMap as map
use Rattle.std.specs.Str.{bytes_eq}
use Rattle.id_index.specs.Ids.{IdNumbers}
use Rattle.meta_model.specs.declared.group.Group.{Group}
use Rattle.meta_model.specs.declared.pv.Pv.{Pv}
use Rattle.scan_rules.specs.declared.readings.DiskRead.{DiskRead}
use Rattle.scan_rules.specs.declared.readings.PvRead.{PvRead}
use Rattle.scan_rules.specs.Decision.{Area, AreaReading, Found, Reading, gives, has_id, has_misplaced, is_listed, is_misplaced}
use Rattle.scan_rules.specs.Decision.{stale_in}

-- whether a physical volume of the group is this one, and doesn't lie well on the disk
abbrev pub is_this_misplaced : ℕ → Reading → Found → List ℕ × Pv → Bool
is_this_misplaced extent_size disk found pv =
    bytes_eq pv.1.id found.id && is_misplaced pv.1.pe_start (pv.1.pe_start + pv.1.pe_count * extent_size) disk found

-- the first disk on which one doesn't lie well, where the first has this number
abbrev pub misplaced_from : Group → ℕ → List Reading → Option ℕ
misplaced_from group first disks =
    option_map (λ (d : ℕ × Reading). d.0) (find (λ (d : ℕ × Reading). has_misplaced group d.1) (enumerate_from first disks))

-- the stale ones of a disk's areas, where the first has this number
abbrev pub stale_if : List ℕ → ℕ → ℕ × Area → Option (ℕ × ℕ)
stale_if text disk area = option_and_then (λ (r : AreaReading). if gives text r then None else Some (disk, area.0)) area.1.reading

-- those of these areas, where the first has this number
abbrev pub stale_from : List ℕ → ℕ → ℕ → List Area → List (ℕ × ℕ)
stale_from text disk first areas = filter_map (stale_if text disk) (enumerate_from first areas)

-- the stale areas of the listed ones of these disks, where the first has this number
abbrev pub stale_of : Group → List ℕ → ℕ × Reading → List (ℕ × ℕ)
stale_of group text d = if is_listed group d.1 then stale_in text d else []

-- those of these disks, where the first has this number
abbrev pub stale_on : Group → List ℕ → ℕ → List Reading → List (ℕ × ℕ)
stale_on group text first disks = flat_map (stale_of group text) (enumerate_from first disks)

-- a physical volume has fewer than 2^32 areas, if there is one
abbrev pub FewAreasOn : Option PvRead → Type 0
FewAreasOn None = Unit {0}
FewAreasOn (Some pv) = length pv.areas < 2 ^ 32

-- the same of a disk
abbrev pub HasFewAreas : DiskRead → Type 0
HasFewAreas disk = FewAreasOn disk.pv

-- the ids of the physical volumes that are on no disk, or were away
abbrev pub is_missing : List Reading → List ℕ × Pv → Bool
is_missing disks pv = pv.1.missing || not (list_any (has_id pv.1.id) disks)

-- their ids, in the order of the text
abbrev pub missing_of : List Reading → List (List ℕ × Pv) → List (List ℕ)
missing_of disks pvs = map (λ (pv : List ℕ × Pv). pv.1.id) (filter (is_missing disks) pvs)

-- the first disk of each of these ids
abbrev pub disks_by_id : List (ℕ × List ℕ) → IdNumbers
disks_by_id [] = map.empty
disks_by_id (one ∷ more) = map.insert (disks_by_id more) one.1 one.0

-- whether the physical volume is missing, where these ids were found
abbrev pub is_missing_by : IdNumbers → List ℕ × Pv → Bool
is_missing_by found pv = pv.1.missing || not (map.contains_key found pv.1.id)

-- the ids of those that are
abbrev pub missing_by : IdNumbers → List (List ℕ × Pv) → List (List ℕ)
missing_by found pvs = map (λ (pv : List ℕ × Pv). pv.1.id) (filter (is_missing_by found) pvs)
