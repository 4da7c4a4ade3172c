-- What was read of the disks, as flat lists in the order of the disks and of their areas.
use Rattle.std.specs.Prelude.{◌≡◌, ℕ, ◌+◌, Bool, true, false, ◌&&◌, not, Option, None, Some, List, [], ◌∷◌, ◌++◌, filter_map, find}
use Rattle.std.specs.Prelude.{option_map, unwrap_or, slice_get, nat_le, if◌then◌else◌}
use Rattle.std.specs.Option.{option_and_then}
use Rattle.std.specs.List.{list_any}
use Rattle.std.specs.Str.{bytes_eq}
use Rattle.scan_rules.specs.declared.copy_refusal.CopyRefusal.{CopyRefusal}
use Rattle.scan_rules.specs.declared.held.HeldCopy.{HeldCopy}
use Rattle.scan_rules.specs.declared.readings.GroupCopy.{GroupCopy}
use Rattle.scan_rules.specs.declared.readings.AreaGives.{AreaGives}
use Rattle.scan_rules.specs.declared.readings.AreaGives.TheVariants.{Nothing, Copy as Numbered, Refused as RefusedFor}
use Rattle.scan_rules.specs.declared.readings.AreaRead.{AreaRead}
use Rattle.scan_rules.specs.declared.readings.PvRead.{PvRead}
use Rattle.scan_rules.specs.declared.readings.DiskRead.{DiskRead}
use Rattle.meta_model.specs.declared.group.Group.{Group}
use Rattle.scan_rules.specs.Decision.{Held, is_listed, sum_agrees}
use Rattle.scan_rules.specs.Readings.{reading_of}

-- the areas of a disk
abbrev pub areas_on : DiskRead → List AreaRead
areas_on read = unwrap_or (option_map (λ (pv : PvRead). pv.areas) read.pv) []

-- the copies, each by its number and the disk that holds it
abbrev pub held_by : ℕ → AreaGives → Option HeldCopy
held_by disk Nothing = None
held_by disk (Numbered number) = Some (record { disk = disk; number = number })
held_by disk (RefusedFor why) = None

-- the copy of an area that isn't ignored
abbrev pub held_in : ℕ → AreaRead → Option HeldCopy
held_in disk area = option_and_then (held_by disk) area.gives

-- those of the disks, where the first has this number
abbrev pub held_on : ℕ → List DiskRead → List HeldCopy
held_on disk [] = []
held_on disk (read ∷ more) = filter_map (held_in disk) (areas_on read) ++ held_on (disk + 1) more

-- the refused areas
abbrev pub refused_by : ℕ → AreaGives → Option (ℕ × CopyRefusal)
refused_by disk Nothing = None
refused_by disk (Numbered number) = None
refused_by disk (RefusedFor why) = Some (disk, why)

-- the refusal of an area that isn't ignored
abbrev pub refused_in : ℕ → AreaRead → Option (ℕ × CopyRefusal)
refused_in disk area = option_and_then (refused_by disk) area.gives

-- those of the disks, where the first has this number
abbrev pub refused_on : ℕ → List DiskRead → List (ℕ × CopyRefusal)
refused_on disk [] = []
refused_on disk (read ∷ more) = filter_map (refused_in disk) (areas_on read) ++ refused_on (disk + 1) more

-- whether the area has a text that agrees with its checksum and is refused
abbrev pub is_unsupported_by : AreaGives → Bool
is_unsupported_by Nothing = false
is_unsupported_by (Numbered number) = false
is_unsupported_by (RefusedFor why) = sum_agrees why

-- the same of an area that isn't ignored
abbrev pub is_unsupported : AreaRead → Bool
is_unsupported area = unwrap_or (option_map is_unsupported_by area.gives) false

-- whether the area gives anything
abbrev pub is_given : AreaGives → Bool
is_given Nothing = false
is_given (Numbered number) = true
is_given (RefusedFor why) = true

-- the same of an area that isn't ignored
abbrev pub holds_something : AreaRead → Bool
holds_something area = unwrap_or (option_map is_given area.gives) false

-- the disks that hold something of a group that doesn't list them
abbrev pub is_stray : Group → DiskRead → Bool
is_stray group read = not (is_listed group (reading_of [] read)) && list_any holds_something (areas_on read)

-- those of these disks, where the first has this number
abbrev pub strays_on : Group → ℕ → List DiskRead → List ℕ
strays_on group disk [] = []
strays_on group disk (read ∷ more) = if is_stray group read then disk ∷ strays_on group (disk + 1) more else strays_on group (disk + 1) more

-- the copy with its number, where it was found
abbrev pub held_copy : ℕ → GroupCopy → Held
held_copy disk copy = record { disk = disk; group = copy.group; text = copy.text; passed = copy.passed }

-- the copy with this number, with its disk
abbrev pub held_of : List GroupCopy → HeldCopy → Option Held
held_of copies held = option_map (held_copy held.disk) (slice_get copies held.number)

-- the copies of these numbers
abbrev pub all_held : List GroupCopy → List HeldCopy → List Held
all_held copies held = filter_map (held_of copies) held

-- the copy that is found is this one, or there is none
abbrev pub IsThat : List GroupCopy → Option HeldCopy → Option Held → Type 0
IsThat copies found that = option_map (held_of copies) found ≡ option_map Some that

-- its sequence number
abbrev pub seqno_in : List GroupCopy → HeldCopy → Option ℕ
seqno_in copies held = option_map (λ (copy : GroupCopy). copy.group.seqno) (slice_get copies held.number)

-- the id of its group
abbrev pub id_in : List GroupCopy → HeldCopy → Option (List ℕ)
id_in copies held = option_map (λ (copy : GroupCopy). copy.group.id) (slice_get copies held.number)

-- an id, where it is another, and the first such id
abbrev pub other_of : List ℕ → List ℕ → Option (List ℕ)
other_of id other = if not (bytes_eq other id) then Some other else None

-- the id of the first copy of another group
abbrev pub other_among : List ℕ → List Held → Option (List ℕ)
other_among id cs = option_map (λ (d : Held). d.group.id) (find (λ (d : Held). not (bytes_eq d.group.id id)) cs)

-- the one of two with the greater sequence number, the first where both have one
abbrev pub chosen : HeldCopy → Option HeldCopy → Option ℕ → Option ℕ → Option HeldCopy
chosen one other None greatest = other
chosen one other (Some own) None = Some one
chosen one other (Some own) (Some greatest) = if nat_le greatest own then Some one else other

-- the same by the numbers of the copies
abbrev pub greater_of : List GroupCopy → HeldCopy → Option HeldCopy → Option HeldCopy
greater_of copies one other = chosen one other (seqno_in copies one) (option_and_then (seqno_in copies) other)
