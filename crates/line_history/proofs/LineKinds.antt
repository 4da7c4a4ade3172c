-- What a line makes: a version of the group, or none in its place, or a new physical volume on the disk that it names.
use Rattle.std.proofs.Common.{◌≡◌, ◌<◌, ℕ, zero, suc, ◌+◌, ◌/◌, ◌==◌, ◌||◌, nat_lt, Bool, true, false, if◌then◌else◌, List, [], ◌∷◌, length}
use Rattle.std.proofs.Common.{Option, Some, None, refl, ap, subst, ◌∙◌, arith}
use Rattle.std.specs.Prelude.{option_map, slice_get, slice_index_or, unwrap_or}
use Rattle.std.specs.List.{list_any, AllByRecursion as Each}
use Rattle.std.specs.Option.{option_and_then, option_map_or}
use Rattle.std.specs.Str.{bytes_eq}
use Rattle.std.proofs.lemmas.Bool.{or_right}
use Rattle.std.proofs.lemmas.Option.{same_Some}
use Rattle.command_table.specs.Options.{Word, number_named}
use Rattle.command_table.specs.declared.command.Command.{Command}
use Rattle.command_table.specs.declared.command.Command.TheVariants.{Lvcreate, Pvcreate, Vgextend, Vgremove}
use Rattle.line_answers.specs.declared.op_refusal.OpRefusal.{OpRefusal}
use Rattle.line_answers.specs.declared.op_refusal.OpRefusal.TheVariants.{UnknownGroup, UnknownPv}
use Rattle.lvm_script.specs.declared.line.Line.{Line}
use Rattle.disk_model.specs.Puts.{one_sector}
use Rattle.pv_header.specs.declared.extent_list.Extent.{Extent}
use Rattle.meta_model.specs.declared.group.Group.{Group}
use Rattle.extent_alloc.specs.declared.part.Part.{Part}
use Rattle.disk_contents.specs.declared.contents.PvFound.{PvFound}
use Rattle.disk_contents.specs.declared.contents.PvFound.TheVariants.{NoHeader, NoLabel, Whole}
use Rattle.vg_found.specs.Shape.{ContentsCanStand, IsDisk}
use Rattle.vg_found.specs.declared.disk.Disk.{Disk}
use Rattle.group_edits.specs.ReducedGroup.{reduced_group as without_pv}
use Rattle.group_edits.specs.RestoredGroup.{restored_group}
use Rattle.group_edits.specs.NextVersion.{next_version}
use Rattle.group_plan.specs.Added.{added_of}
use Rattle.group_plan.specs.Judging.{first_refusal}
use Rattle.group_plan.specs.NewGroup.{extended}
use Rattle.group_plan.specs.declared.state.Change.{Change}
use Rattle.group_plan.specs.declared.state.GroupState.{GroupState}
use Rattle.group_plan.specs.declared.state.NewLabel.{NewLabel}
use Rattle.pv_plans.specs.Pvcreate.{disk_rows, label_in, label_sector, new_areas, new_label, pvcreate_change}
use Rattle.vg_plans.proofs.Leaving.{leaves_next}
use Rattle.vg_plans.proofs.Restoring.{restores}
use Rattle.vg_plans.specs.Vgextend.{extend_by, found_rows}
use Rattle.vg_plans.specs.Vgcreate.{empty_group}
use Rattle.lv_plans.specs.Allocating.{Takes}
use Rattle.group_ops.proofs.NextVersions.{by_kind, commits_next, is_next}
use Rattle.group_ops.specs.Planning.{IsBackupOf, IsPlanned, asks_of, change_of, refusal_of}
use Rattle.change_batches.proofs.HeldInDisks.{has_size}
use Rattle.change_batches.specs.Sound.{sizes_of}
use Rattle.list_laws.proofs.Bools.{and_both, eq_to, lt_true}
use Rattle.volume_history.specs.Commands.{created_disk, is_created_at, is_created_sector}
use Rattle.line_history.proofs.ReadBackups.{some_backup}

-- the label, and the headers of the areas behind it, stand where the command may create a physical volume on the disk
abbrev pub IsCreated : List ℕ → Command → ℕ → NewLabel → Type 0
IsCreated sizes command disk label =
    (is_created_at sizes command disk (one_sector label.disk label.sector) ≡ true)
    × Each (λ (area : Extent). is_created_at sizes command disk (one_sector label.disk (area.offset / 512)) ≡ true) label.header.areas

-- a line with this change, on disks of these sizes: one that creates a physical volume or removes the group zeroes nothing, and
-- one that removes it writes nothing but what clears its disks
pub data Kind (sizes : List ℕ) (names : List Word) (command : Command) (change : Change) : Type 0 where
  commits_group : (group : Group) → change.group ≡ Some group → Kind sizes names command change
  creates : (disk : ℕ) (label : NewLabel) → change.group ≡ None → created_disk names command ≡ Some disk → change.labels ≡ label ∷ []
      → label.disk ≡ disk → change.zero ≡ [] → IsCreated sizes command disk label → Kind sizes names command change
  removes_group : (vg : Word) → command ≡ Vgremove vg → change.group ≡ None → change.labels ≡ [] → change.zero ≡ []
      → Kind sizes names command change

-- ---- pvcreate

-- a disk that is named is there
named_within : (names : List Word) (name : Word) (n : ℕ) → number_named names name ≡ Some n → n < length names
unfolding number_named
named_within [] name n is = cc
named_within (first ∷ names) name n is =
    step (λ k later. named_within names name k later) (bytes_eq first name) (number_named names name) refl is
  where
    step : ((k : ℕ) → number_named names name ≡ Some k → k < length names) → (b : Bool) (o : Option ℕ) → number_named names name ≡ o
        → (if b then Some 0 else option_map (λ n. n + 1) o) ≡ Some n → n < length (first ∷ names)
    step rest true o later e = let z : 0 ≡ n = same_Some 0 n e in omega (arith, z)
    step rest false None later e = cc
    step rest false (Some k) later e =
        let z : k + 1 ≡ n = same_Some (k + 1) n e in let w : k < length names = rest k later in omega (arith, z, w)

there_at : {X : Type 0} (xs : List X) (n : ℕ) → n < length xs → (x : X) × (slice_get xs n ≡ Some x)
there_at [] n within = absurd (omega (arith, within))
there_at (x ∷ xs) zero within = (x, refl)
there_at (x ∷ xs) (suc n) within = there_at xs n (omega (arith, within))

abbrev rows_by : GroupState → List ℕ → List ℕ → ℕ → Option ℕ → List (Option OpRefusal)
rows_by state id name copies None = Some (UnknownPv name) ∷ []
rows_by state id name copies (Some number) = disk_rows state id name copies number (slice_get state.disks number)

-- the sector of a label is one of the first four
label_low : (pv : ℕ) (disk : Disk) → IsDisk pv disk → label_sector disk < 4
label_low pv disk is = by disk.contents is.contents
  where
    by : (contents : Option PvFound) → ContentsCanStand pv disk.sectors contents → unwrap_or (option_and_then label_in contents) 1 < 4
    by None stands = omega arith
    by (Some (NoLabel refusal)) stands = omega arith
    by (Some (NoHeader label refusal)) stands = stands
    by (Some (Whole label header areas)) stands = stands.0

-- each of a list has the number of one of them
module _ (f : Extent → ℕ) where
  abbrev HasIn : List Extent → Extent → Type 0
  HasIn all area = list_any (λ (x : Extent). f area == f x) all ≡ true

  in_more : (first : Extent) (all areas : List Extent) → Each (HasIn all) areas → Each (HasIn (first ∷ all)) areas
  in_more first all [] each = tt
  in_more first all (area ∷ areas) each =
      (or_right (f area == f first) (list_any (λ (x : Extent). f area == f x) all) each.0, in_more first all areas each.1)

  in_own : (areas : List Extent) → Each (HasIn areas) areas
  in_own [] = tt
  in_own (area ∷ areas) = (
    ap (λ (b : Bool). b || list_any (λ (x : Extent). f area == f x) areas) (eq_to (f area) (f area) refl),
    in_more area areas areas (in_own areas),
  )

-- what a pvcreate writes stands where it may, on a disk of so many sectors
module _ (sizes : List ℕ) (pv id : List ℕ) (copies number : ℕ) (disk : Disk) (size : slice_index_or sizes number 0 ≡ disk.sectors) where
  own : (sector : ℕ) → is_created_sector disk.sectors (Pvcreate pv copies) sector ≡ true
      → is_created_at sizes (Pvcreate pv copies) number (one_sector number sector) ≡ true
  own sector is =
      and_both (number == number) (is_created_sector (slice_index_or sizes number 0) (Pvcreate pv copies) sector) (eq_to number number refl)
      (ap (λ (n : ℕ). is_created_sector n (Pvcreate pv copies) sector) size ∙ is)

  -- of each of these areas, which are some of the new ones
  areas_own : (areas : List Extent) → Each (HasIn (λ (area : Extent). area.offset / 512) (new_areas disk.sectors copies)) areas
      → Each (λ (area : Extent). is_created_at sizes (Pvcreate pv copies) number (one_sector number (area.offset / 512)) ≡ true) areas
  areas_own [] each = tt
  areas_own (area ∷ areas) each = (
    own (area.offset / 512) (or_right (nat_lt (area.offset / 512) 4)
        (list_any (λ (x : Extent). area.offset / 512 == x.offset / 512) (new_areas disk.sectors copies)) each.0),
    areas_own areas each.1,
  )

  created_at : label_sector disk < 4 → IsCreated sizes (Pvcreate pv copies) number (new_label id copies number disk)
  created_at low = (
    own (label_sector disk)
        (ap (λ (b : Bool). b || list_any (λ (area : Extent). label_sector disk == area.offset / 512) (new_areas disk.sectors copies))
        (lt_true (label_sector disk) 4 low)),
    areas_own (new_areas disk.sectors copies) (in_own (λ (area : Extent). area.offset / 512) (new_areas disk.sectors copies)),
  )

create_kind : (state : GroupState) (sizes : List ℕ) → sizes_of state.disks ≡ sizes → (id pv : List ℕ) (copies : ℕ) (o : Option ℕ)
    → number_named state.names pv ≡ o → length state.names ≡ length state.disks
    → ((k : ℕ) (disk : Disk) → slice_get state.disks k ≡ Some disk → IsDisk k disk)
    → first_refusal (rows_by state id pv copies o) ≡ None
    → Kind sizes state.names (Pvcreate pv copies) (pvcreate_change state id pv copies)
create_kind state sizes sized id pv copies None is many stand none = absurd cc
create_kind state sizes sized id pv copies (Some number) is many stand none =
    let within : number < length state.disks =
    let w : number < length state.names = named_within state.names pv number is in omega (arith, w, many) in
    let disk = there_at state.disks number within in
    let size : slice_index_or sizes number 0 ≡ disk.0.sectors =
    subst (λ (l : List ℕ). slice_index_or l number 0 ≡ disk.0.sectors) sized (has_size state.disks number disk.0 disk.1).size in
    creates number (new_label id copies number disk.0) refl is
    (ap (λ (o : Option ℕ). option_map_or (λ number. option_map_or (λ disk. new_label id copies number disk ∷ [])
    (slice_get state.disks number) []) o []) is
    ∙ ap (λ (o : Option Disk). option_map_or (λ disk. new_label id copies number disk ∷ []) o []) disk.1)
    refl refl (created_at sizes pv id copies number disk.0 size (label_low number disk.0 (stand number disk.0 disk.1)))

-- ---- any line

extend_kind : (state : GroupState) (sizes : List ℕ) (vg : List ℕ) (pvs : List (List ℕ)) (now : ℕ) (command : Command) (o : Option Group)
    → first_refusal (option_map_or (found_rows state vg pvs now) o (Some (UnknownGroup vg) ∷ [])) ≡ None
    → Kind sizes state.names command (extend_by state o pvs)
extend_kind state sizes vg pvs now command None none = absurd cc
extend_kind state sizes vg pvs now command (Some group) none = commits_group (extended (next_version group) (added_of state pvs)) refl

next_kind : (state : GroupState) (sizes : List ℕ) (number : ℕ) (id : Option (List ℕ)) (command : Command) (now : ℕ) (given : List Part)
    → IsPlanned id command → is_next command ≡ true
    → Takes (asks_of state (record { number = number; id = id; command = command })) given
    → refusal_of state (record { number = number; id = id; command = command }) now given ≡ None
    → Kind sizes state.names command (change_of state (record { number = number; id = id; command = command }) now given)
next_kind state sizes number id command now given planned is takes none =
    let made = commits_next state number id command now given planned is takes none in
    commits_group made.next (ap (λ (c : Change). c.group) made.change_is)

kind_by : (state : GroupState) (sizes : List ℕ) → sizes_of state.disks ≡ sizes → length state.names ≡ length state.disks
    → ((k : ℕ) (disk : Disk) → slice_get state.disks k ≡ Some disk → IsDisk k disk)
    → (number : ℕ) (id : Option (List ℕ)) (command : Command) (now : ℕ) (given : List Part) → IsPlanned id command
    → IsBackupOf command state.backup
    → Takes (asks_of state (record { number = number; id = id; command = command })) given
    → refusal_of state (record { number = number; id = id; command = command }) now given ≡ None
    → Kind sizes state.names command (change_of state (record { number = number; id = id; command = command }) now given)
kind_by state sizes sized many stand number id command now given planned gives_back takes none =
    by_kind (λ c. IsPlanned id c → IsBackupOf c state.backup
    → Takes (asks_of state (record { number = number; id = id; command = c })) given
    → refusal_of state (record { number = number; id = id; command = c }) now given ≡ None
    → Kind sizes state.names c (change_of state (record { number = number; id = id; command = c }) now given))
    (record {
      next = λ c next other planned gives_back takes none. next_kind state sizes number id c now given planned next takes none;
      new_volume = λ new planned gives_back takes none. next_kind state sizes number id (Lvcreate new) now given planned refl takes none;
      new_pv = λ pv copies planned gives_back takes none.
          create_kind state sizes sized (unwrap_or id []) pv copies (number_named state.names pv) refl many stand none;
      new_group = λ vg extent_size pvs planned gives_back takes none.
          commits_group (extended (empty_group (unwrap_or id []) vg extent_size) (added_of state pvs)) refl;
      joining = λ vg pvs planned gives_back takes none. extend_kind state sizes vg pvs now (Vgextend vg pvs) state.group none;
      leaving = λ vg pv planned gives_back takes none.
          let left = leaves_next state vg pv now none in
          commits_group (without_pv left.old left.number) (ap (λ (c : Change). c.group) left.change_is);
      removal = λ vg planned gives_back takes none. removes_group vg refl refl refl refl;
      restore = λ vg text planned gives_back takes none.
          let made = restores state vg now (some_backup vg text state.backup gives_back) none in
          commits_group (restored_group made.old made.said) (ap (λ (c : Change). c.group) made.change_is);
    }) id command planned planned gives_back takes none

pub kind_of : (state : GroupState) (sizes : List ℕ) → sizes_of state.disks ≡ sizes → length state.names ≡ length state.disks
    → ((k : ℕ) (disk : Disk) → slice_get state.disks k ≡ Some disk → IsDisk k disk) → (line : Line) (now : ℕ) (given : List Part)
    → IsPlanned line.id line.command → IsBackupOf line.command state.backup → Takes (asks_of state line) given
    → refusal_of state line now given ≡ None → Kind sizes state.names line.command (change_of state line now given)
kind_of state sizes sized many stand line now given planned gives_back takes none =
    kind_by state sizes sized many stand line.number line.id line.command now given planned gives_back takes none
