-- The stale areas of a scan, and the first of them that has no room for the text that was found.
use Rattle.std.specs.Prelude.{◌≡◌, ℕ, ◌+◌, ◌&&◌, ◌==◌, Bool, nat_lt, if◌then◌else◌, List, [], ◌∷◌, length, Option, None, Some, unwrap_or}
use Rattle.std.specs.List.{enumerate_from, filter_map, flat_map, list_any}
use Rattle.std.specs.BTreeSet.{BTreeSet, contains}
use Rattle.std.specs.Ordering.{nat_cmp, ordering_then}
use Rattle.std.specs.declared.cmp.Ordering.{Ordering}
use Rattle.mda_header.specs.declared.header.Locn.{Locn}
use Rattle.mda_ring.specs.declared.area.Area.{Area}
use Rattle.mda_ring.specs.Ring.{need, room}
use Rattle.disk_contents.specs.declared.contents.AreaFound.{AreaFound}
use Rattle.vg_found.specs.Disks.{areas_on, held_area}
use Rattle.vg_found.specs.declared.disk.Disk.{Disk}
use Rattle.vg_found.specs.declared.found.Found.{Found}
use Rattle.vg_repair.specs.declared.fault.RepairFault.{RepairFault}
use Rattle.vg_repair.specs.declared.fault.RepairFault.TheVariants.{NoMemory, Pv, TooLarge}

-- whether the area with this number on this disk is one of these
abbrev pub is_among : List (ℕ × ℕ) → ℕ → ℕ → Bool
is_among areas disk number = list_any (λ (area : ℕ × ℕ). (area.0 == disk) && (area.1 == number)) areas

-- the order of areas: by their disks, then by their numbers there
abbrev pub area_cmp : ℕ × ℕ → ℕ × ℕ → Ordering
area_cmp a b = ordering_then (nat_cmp a.0 b.0) (nat_cmp a.1 b.1)

-- the set has these areas and no others
abbrev pub HasAreas : BTreeSet (ℕ × ℕ) → List (ℕ × ℕ) → Type 0
HasAreas set areas = (disk number : ℕ) → contains area_cmp set (disk, number) ≡ is_among areas disk number

-- an area that was found on this disk, by its number there: with the entry of its committed text, where it is one of these
-- and isn't ignored
abbrev pub stale_in : List (ℕ × ℕ) → ℕ → ℕ × AreaFound → Option (Area × Option Locn)
stale_in stale disk area = if is_among stale disk area.0 then held_area disk area.1 else None

-- the stale areas of a disk, by its number
abbrev pub stale_on : List (ℕ × ℕ) → ℕ × Disk → List (Area × Option Locn)
stale_on stale disk = filter_map (stale_in stale disk.0) (enumerate_from 0 (areas_on disk.1.contents))

-- the stale areas of these disks
abbrev pub stale_by : List (ℕ × ℕ) → List Disk → List (Area × Option Locn)
stale_by stale disks = flat_map (stale_on stale) (enumerate_from 0 disks)

-- the stale areas of a scan, each with the entry of its committed text
abbrev pub stale_areas : Found → List (Area × Option Locn)
stale_areas found = stale_by found.stale found.disks

-- the text that was found
abbrev pub text_of : Found → List ℕ
text_of found = unwrap_or found.text []

-- of the first of the areas that can't take the stored text beside its committed one: its disk, how many sectors it needs and
-- how many there are
abbrev pub too_large_among : List ℕ → List (Area × Option Locn) → Option (ℕ × ℕ × ℕ)
too_large_among text [] = None
too_large_among text (area ∷ areas) =
    if nat_lt (room area.0.size area.1) (need (length text + 1)) then Some (area.0.pv, need (length text + 1), room area.0.size area.1)
    else too_large_among text areas

-- of the first stale area of a scan that can't take the text that was found: its disk, how many sectors it needs and how many
-- there are
abbrev pub too_large : Found → Option (ℕ × ℕ × ℕ)
too_large found = too_large_among (text_of found) (stale_areas found)

-- memory is wanting, or these are the numbers of the first area that can't take the text
abbrev pub IsCause : List ℕ → List (Area × Option Locn) → RepairFault → Type 0
IsCause text areas NoMemory = Unit {0}
IsCause text areas (Pv pv) = ⊥
IsCause text areas (TooLarge pv need room) = too_large_among text areas ≡ Some (pv, need, room)
