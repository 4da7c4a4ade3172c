-- The lines that commit the next version of the group in force to its own disks, and write no label.
use Rattle.std.proofs.Common.{◌≡◌, ◌≤◌, ◌<◌, ℕ, ◌+◌, ◌^◌, Bool, true, false, List, [], ◌∷◌, ◌++◌, length, Option, Some, None, refl, sym, ap}
use Rattle.std.proofs.Common.{subst, arith}
use Rattle.std.specs.Prelude.{is_some, option_and_then, option_map, unwrap_or, IsSomeAnd}
use Rattle.std.specs.Option.{option_map_or}
use Rattle.std.specs.FinSet as set
use Rattle.std.proofs.lemmas.Bool.{true≢false}
use Rattle.sector_base.specs.declared.spans.Span.{Span}
use Rattle.lvm_id.specs.LvmId.{IsId}
use Rattle.lvm_name.specs.Names.{group_name_refusal, volume_name_refusal}
use Rattle.command_table.specs.declared.amount.Amount.{Amount}
use Rattle.command_table.specs.declared.amount.Growth.{Growth}
use Rattle.command_table.specs.declared.command.Command.{Command}
use Rattle.command_table.specs.declared.command.Command.TheVariants.{Lvcreate, Lvextend, Lvreduce, Lvremove, Lvrename, Vgrename, Pvcreate}
use Rattle.command_table.specs.declared.command.Command.TheVariants.{Vgcfgrestore, Vgcreate, Vgextend, Vgreduce, Vgremove}
use Rattle.command_table.specs.declared.command.NewVolume.{NewVolume}
use Rattle.command_table.specs.declared.command.Path.{Path}
use Rattle.command_table.specs.Commands.{CommandKind, NextVersion, VolumeAdded, kind_of}
use Rattle.line_answers.specs.declared.op_refusal.OpRefusal.{OpRefusal}
use Rattle.line_answers.specs.declared.op_refusal.OpRefusal.TheVariants.{UnknownGroup, UnknownVolume}
use Rattle.meta_model.specs.Standing.{HasTree}
use Rattle.meta_model.specs.declared.group.Group.{Group}
use Rattle.meta_model.specs.declared.lv.Lv.{Lv}
use Rattle.volume_rules.specs.Rules.{IsAccepted}
use Rattle.volume_rules.specs.declared.rule.Rule.TheVariants.{Numbers}
use Rattle.extent_alloc.specs.declared.part.Part.{Part}
use Rattle.group_edits.proofs.Longer.{longer_whole}
use Rattle.group_edits.proofs.Removed.{removed_whole}
use Rattle.group_edits.proofs.Renamed.{renamed_whole as volume_whole}
use Rattle.group_edits.proofs.RenamedGroup.{renamed_whole as group_whole}
use Rattle.group_edits.proofs.Shortened.{shortened_whole}
use Rattle.group_edits.proofs.Visible.{named_is_visible}
use Rattle.group_edits.proofs.Whole.{IsWhole}
use Rattle.group_edits.specs.LongerVolume.{MayGrow, longer_volume}
use Rattle.group_edits.specs.NextVersion.{next_version}
use Rattle.group_edits.specs.RenamedGroup.{renamed_group}
use Rattle.group_edits.specs.RenamedVolume.{renamed_volume}
use Rattle.group_edits.specs.Removing.{without_volume}
use Rattle.group_edits.specs.ShortenedVolume.{MayKeep, kept_of}
use Rattle.group_edits.specs.Visible.{visible_named}
use Rattle.group_plan.proofs.Chained.{back_passes, front_passes, none_both}
use Rattle.group_plan.proofs.Rows.{seqno_left}
use Rattle.group_plan.specs.Added.{added_of}
use Rattle.group_plan.specs.Committing.{length_row, named_rows, no_area_row, no_change, version_change, zeroing_change}
use Rattle.group_plan.specs.Judging.{first_refusal}
use Rattle.group_plan.specs.NewGroup.{change_with, extended}
use Rattle.group_plan.specs.State.{IsState}
use Rattle.group_plan.specs.declared.state.Change.{Change}
use Rattle.group_plan.specs.declared.state.GroupState.{GroupState}
use Rattle.vg_plans.proofs.PassedRows as vg_rows
use Rattle.vg_plans.specs.Vgrename.{rename_rows}
use Rattle.lv_plans.proofs.CreatedVolume.{Creates, creates}
use Rattle.lv_plans.proofs.Extending.{few_segments, grows_by}
use Rattle.lv_plans.proofs.PassedRows.{growth_passes, lengthen_passes, reduce_passes, remove_passes, rename_passes}
use Rattle.lv_plans.proofs.Reducing.{may_be_cut, some_extents}
use Rattle.lv_plans.proofs.RowsOnVolume.{name_free, not_locked}
use Rattle.lv_plans.specs.Allocating.{Takes, space_row}
use Rattle.lv_plans.specs.Lvcreate.{create_change, created_group, lvcreate_change, zeroed_at}
use Rattle.lv_plans.specs.Lvextend.{extend_asks, extend_in_rows, extend_lv_rows, growth_rows, lengthen_rows, more_for, volume_asks}
use Rattle.lv_plans.specs.Lvreduce.{reduce_change, reduce_in_rows, reduce_lv_rows, reduced_group}
use Rattle.lv_plans.specs.Lvremove.{remove_change, remove_in_rows, remove_lv_rows}
use Rattle.lv_plans.specs.Lvrename.{rename_in_rows, rename_lv_rows}
use Rattle.lv_plans.specs.Sizes.{IsAmount, IsGrowth, extents_for}
use Rattle.lv_plans.specs.Volumes.{rows_on}
use Rattle.group_ops.specs.Planning.{IsPlanned, asks_of, change_of, refusal_of, zeroes}

-- the change commits a next version of the group in force to its own disks
pub record CommitsNext (state : GroupState) (change : Change) (now : ℕ) : Type 0 where
  pub old : Group
  pub there : state.group ≡ Some old
  pub next : Group
  pub zero : List Span
  pub change_is : change ≡ zeroing_change state zero next
  pub same_id : next.id ≡ old.id
  pub next_seqno : next.seqno ≡ old.seqno + 1
  pub same_pvs : next.pvs ≡ old.pvs
  pub has_area : no_area_row state ≡ None
  pub fits : length_row state next now ≡ None
  pub whole : IsState state → IsAccepted old → HasTree old → now < 2 ^ 48 → IsWhole next

-- the kinds of commands of such lines
abbrev pub kind_is_next : CommandKind → Bool
kind_is_next (NextVersion difference) = true
kind_is_next (VolumeAdded lv) = true
kind_is_next _ = false

-- the commands of such lines
abbrev pub is_next : Command → Bool
is_next command = kind_is_next (kind_of command)

-- ---- all kinds

-- what is to be shown of each kind of commands that can be planned, where P is what holds of a command
pub record ByKind (P : Command → Type 0) : Type 0 where
  pub next : (command : Command) → is_next command ≡ true → zeroes command ≡ false → P command
  pub new_volume : (new : NewVolume) → P (Lvcreate new)
  pub new_pv : (pv : List ℕ) (copies : ℕ) → P (Pvcreate pv copies)
  pub new_group : (vg : List ℕ) (extent_size : ℕ) (pvs : List (List ℕ)) → P (Vgcreate vg extent_size pvs)
  pub joining : (vg : List ℕ) (pvs : List (List ℕ)) → P (Vgextend vg pvs)
  pub leaving : (vg pv : List ℕ) → P (Vgreduce vg pv)
  pub removal : (vg : List ℕ) → P (Vgremove vg)
  pub restore : (vg text : List ℕ) → P (Vgcfgrestore vg text)

-- what is shown of each kind holds of each command
pub by_kind : (P : Command → Type 0) → ByKind P → (id : Option (List ℕ)) (command : Command) → IsPlanned id command → P command
by_kind P kinds id (Pvcreate pv copies) planned = kinds.new_pv pv copies
by_kind P kinds id (Vgcreate vg extent_size pvs) planned = kinds.new_group vg extent_size pvs
by_kind P kinds id (Vgextend vg pvs) planned = kinds.joining vg pvs
by_kind P kinds id (Vgreduce vg pv) planned = kinds.leaving vg pv
by_kind P kinds id (Vgremove vg) planned = kinds.removal vg
by_kind P kinds id (Vgcfgrestore vg text) planned = kinds.restore vg text
by_kind P kinds id (Lvcreate new) planned = kinds.new_volume new
by_kind P kinds id (Vgrename vg new) planned = kinds.next (Vgrename vg new) refl refl
by_kind P kinds id (Lvextend path growth pvs) planned = kinds.next (Lvextend path growth pvs) refl refl
by_kind P kinds id (Lvreduce path amount) planned = kinds.next (Lvreduce path amount) refl refl
by_kind P kinds id (Lvremove path) planned = kinds.next (Lvremove path) refl refl
by_kind P kinds id (Lvrename vg old new) planned = kinds.next (Lvrename vg old new) refl refl
by_kind P kinds id command planned = absurd planned

-- ---- no label, and no zeros

-- a next version of the group, with this name and these logical volumes
abbrev pub version_with : Group → List ℕ → List (List ℕ × Lv) → Group
version_with group name lvs = record (next_version group) { name = name; lvs = lvs }

-- what holds where nothing changes, and of each next version that is committed, holds of the change of each other such command
module _ (state : GroupState) (Holds : Change → Type 0) (none : Holds (no_change state))
    (made : (old : Group) → state.group ≡ Some old → (name : List ℕ) (lvs : List (List ℕ × Lv))
    → Holds (version_change state (version_with old name lvs))) where
  version_holds : (name : Group → List ℕ) (lvs : Group → List (List ℕ × Lv)) (o : Option Group) → state.group ≡ o
      → Holds (option_map_or (λ (g : Group). version_change state (version_with g (name g) (lvs g))) o (no_change state))
  version_holds name lvs None there = none
  version_holds name lvs (Some group) there = made group there (name group) (lvs group)

  volume_holds : (group : Group) → state.group ≡ Some group → (lvs : ℕ × Lv → List (List ℕ × Lv)) (o : Option (ℕ × Lv))
      → Holds (option_map_or (λ (v : ℕ × Lv). version_change state (version_with group group.name (lvs v))) o (no_change state))
  volume_holds group there lvs None = none
  volume_holds group there lvs (Some v) = made group there group.name (lvs v)

  remove_holds : (name : List ℕ) (o : Option Group) → state.group ≡ o
      → Holds (option_map_or (remove_change state name) o (no_change state))
  remove_holds name None there = none
  remove_holds name (Some group) there = volume_holds group there (λ v. (without_volume group v.0).lvs) (visible_named group name)

  reduce_holds : (name : List ℕ) (amount : Amount) (o : Option Group) → state.group ≡ o
      → Holds (option_map_or (reduce_change state name amount) o (no_change state))
  reduce_holds name amount None there = none
  reduce_holds name amount (Some group) there =
      volume_holds group there (λ v. (reduced_group name amount group v.1).lvs) (visible_named group name)

  pub next_holds : (number : ℕ) (id : Option (List ℕ)) (command : Command) (now : ℕ) (given : List Part) → is_next command ≡ true
      → zeroes command ≡ false → Holds (change_of state (record { number = number; id = id; command = command }) now given)
  next_holds number id (Vgrename vg new) now given is other = version_holds (λ g. new) (λ g. g.lvs) state.group refl
  next_holds number id (Lvextend path growth pvs) now given is other =
      version_holds (λ g. g.name) (λ g. (longer_volume path.lv given g).lvs) state.group refl
  next_holds number id (Lvreduce path amount) now given is other = reduce_holds path.lv amount state.group refl
  next_holds number id (Lvremove path) now given is other = remove_holds path.lv state.group refl
  next_holds number id (Lvrename vg old new) now given is other =
      version_holds (λ g. g.name) (λ g. (renamed_volume old new g).lvs) state.group refl
  next_holds number id (Lvcreate new) now given is other = absurd (true≢false other)
  next_holds number id command now given is other = absurd cc

created_labels : (state : GroupState) (id : List ℕ) (new : NewVolume) (now : ℕ) (given : List Part) (o : Option Group)
    → (option_map_or (λ (g : Group). create_change state id new now g given) o (no_change state)).labels ≡ []
created_labels state id new now given None = refl
created_labels state id new now given (Some group) = refl

pub next_labels : (state : GroupState) (number : ℕ) (id : Option (List ℕ)) (command : Command) (now : ℕ) (given : List Part)
    → is_next command ≡ true → (change_of state (record { number = number; id = id; command = command }) now given).labels ≡ []
next_labels state number id (Lvcreate new) now given is = created_labels state (unwrap_or id []) new now given state.group
next_labels state number id command now given is = by (zeroes command) refl
  where
    by : (b : Bool) → zeroes command ≡ b
        → (change_of state (record { number = number; id = id; command = command }) now given).labels ≡ []
    by false other = next_holds state (λ change. change.labels ≡ []) refl (λ old there name lvs. refl) number id command now given is other
    by true other = made command other
      where
        made : (command : Command) → zeroes command ≡ true
            → (change_of state (record { number = number; id = id; command = command }) now given).labels ≡ []
        made (Lvcreate new) other = created_labels state (unwrap_or id []) new now given state.group
        made command other = absurd cc

-- the sectors of no other command are to hold zeros
pub no_zero : (state : GroupState) (number : ℕ) (id : Option (List ℕ)) (command : Command) (now : ℕ) (given : List Part)
    → is_next command ≡ true → zeroes command ≡ false
    → (change_of state (record { number = number; id = id; command = command }) now given).zero ≡ []
no_zero state number id command now given is other =
    next_holds state (λ change. change.zero ≡ []) refl (λ old there name lvs. refl) number id command now given is other

-- ---- what the rows say

rename_next : (state : GroupState) (vg new : List ℕ) (now : ℕ) → group_name_refusal new ≡ None → (o : Option Group) → state.group ≡ o
    → first_refusal (option_map_or (rename_rows state vg new now) o (Some (UnknownGroup vg) ∷ [])) ≡ None
    → CommitsNext state (option_map_or (λ (g : Group). version_change state (renamed_group g new)) o (no_change state)) now
rename_next state vg new now named None there none = absurd cc
rename_next state vg new now named (Some group) there none =
    let rows = vg_rows.rename_passes state vg new now group none in
    record {
      old = group;
      there = there;
      next = renamed_group group new;
      zero = [];
      change_is = refl;
      same_id = refl;
      next_seqno = refl;
      same_pvs = refl;
      has_area = rows.has_area;
      fits = rows.fits;
      whole = λ state_is accepted tree time. group_whole group new named (seqno_left group rows.seqno) accepted tree;
    }

-- a visible volume has the name, and its rows pass
named_on : (group : Group) (name : List ℕ) (rows : ℕ × Lv → List (Option OpRefusal)) (o : Option (ℕ × Lv)) → visible_named group name ≡ o
    → first_refusal (option_map_or rows o (Some (UnknownVolume name) ∷ [])) ≡ None
    → (v : ℕ × Lv) × (visible_named group name ≡ Some v) × (first_refusal (rows v) ≡ None)
named_on group name rows None is none = absurd cc
named_on group name rows (Some v) is none = (v, is, none)

remove_next : (state : GroupState) (path : Path) (now : ℕ) (o : Option Group) → state.group ≡ o
    → first_refusal (option_map_or (remove_in_rows state path now) o (Some (UnknownGroup path.vg) ∷ [])) ≡ None
    → CommitsNext state (option_map_or (remove_change state path.lv) o (no_change state)) now
remove_next state path now None there none = absurd cc
remove_next state path now (Some group) there none =
    let seen =
    named_on group path.lv (remove_lv_rows state path.lv now group) (visible_named group path.lv) refl
    (front_passes (named_rows group path.vg) (rows_on group path.lv (remove_lv_rows state path.lv now group)) none) in
    let rows = remove_passes state path.lv now group seen.0 seen.2 in
    record {
      old = group;
      there = there;
      next = without_volume group seen.0.0;
      zero = [];
      change_is =
          ap (λ (o : Option (ℕ × Lv)). option_map_or (λ (v : ℕ × Lv). version_change state (without_volume group v.0)) o (no_change state))
          seen.1;
      same_id = refl;
      next_seqno = refl;
      same_pvs = refl;
      has_area = rows.has_area;
      fits = rows.fits;
      whole =
          λ state_is accepted tree time. removed_whole group seen.0.0 (named_is_visible group path.lv seen.0 seen.1)
          (not_locked group path.lv seen.0.0 rows.unlocked) (seqno_left group rows.seqno) accepted tree;
    }

reduce_next : (state : GroupState) (path : Path) (amount : Amount) (now : ℕ) → IsAmount amount → (o : Option Group) → state.group ≡ o
    → first_refusal (option_map_or (reduce_in_rows state path amount now) o (Some (UnknownGroup path.vg) ∷ [])) ≡ None
    → CommitsNext state (option_map_or (reduce_change state path.lv amount) o (no_change state)) now
reduce_next state path amount now planned None there none = absurd cc
reduce_next state path amount now planned (Some group) there none =
    let seen =
    named_on group path.lv (reduce_lv_rows state path.lv amount now group) (visible_named group path.lv) refl
    (front_passes (named_rows group path.vg) (rows_on group path.lv (reduce_lv_rows state path.lv amount now group)) none)
    in
    let rows = reduce_passes state path.lv amount now group seen.0 seen.2 in
    let said : ℕ = extents_for group.extent_size amount in
    record {
      old = group;
      there = there;
      next = reduced_group path.lv amount group seen.0.1;
      zero = [];
      change_is =
          ap (λ (o : Option (ℕ × Lv)). option_map_or (λ (v : ℕ × Lv). version_change state (reduced_group path.lv amount group v.1)) o
          (no_change state)) seen.1;
      same_id = refl;
      next_seqno = refl;
      same_pvs = refl;
      has_area = rows.has_area;
      fits = rows.fits;
      whole = λ state_is accepted tree time.
          let least = (accepted Numbers).extent_size.0 in
          let some : 1 ≤ said = some_extents group.extent_size amount (omega (arith, least)) planned in
          shortened_whole group path.lv (kept_of seen.0.1.segments said)
          (subst (λ (o : Option (ℕ × Lv)). IsSomeAnd o (λ (v : ℕ × Lv). MayKeep (kept_of seen.0.1.segments said) v.1)) (sym seen.1)
          (may_be_cut group accepted path.lv seen.0.0 seen.0.1 seen.1 said some rows.apart rows.shorter))
          (seqno_left group rows.seqno) accepted tree;
    }

create_next : (state : GroupState) (id : List ℕ) (new : NewVolume) (now : ℕ) (given : List Part) → Creates state id new now given
    → CommitsNext state (lvcreate_change state id new now given) now
create_next state id new now given made = record {
  old = made.old;
  there = made.there;
  next = created_group id new now given made.old;
  zero = zeroed_at state.disk_of made.old given;
  change_is = made.change_is;
  same_id = refl;
  next_seqno = refl;
  same_pvs = refl;
  has_area = made.has_area;
  fits = made.fits;
  whole = made.whole;
}

extend_next : (state : GroupState) (path : Path) (growth : Growth) (pvs : List (List ℕ)) (now : ℕ) (given : List Part) → IsGrowth growth
    → (o : Option Group) → state.group ≡ o → Takes (option_and_then (extend_asks state path growth pvs) o) given
    → first_refusal (option_map_or (λ (g : Group). extend_in_rows state path growth pvs now g given) o (Some (UnknownGroup path.vg) ∷ []))
    ≡ None
    → CommitsNext state (option_map_or (λ (g : Group). version_change state (longer_volume path.lv given g)) o (no_change state)) now
extend_next state path growth pvs now given planned None there takes none = absurd cc
extend_next state path growth pvs now given planned (Some group) there takes none =
    let back : ℕ × Lv → List (Option OpRefusal) =
    λ volume. extend_lv_rows state path.lv growth pvs group volume ++ lengthen_rows state path.lv now group given in
    let seen =
    named_on group path.lv back (visible_named group path.lv) refl
    (front_passes (named_rows group path.vg) (rows_on group path.lv back) none) in
    let asked : Takes (Some (volume_asks (named_rows group path.vg) state path.lv growth pvs group seen.0)) given =
    subst (λ (o : Option (ℕ × Lv)). Takes (option_map (volume_asks (named_rows group path.vg) state path.lv growth pvs group) o) given)
    seen.1 takes
    in
    let taken =
    asked
    (none_both (named_rows group path.vg) (extend_lv_rows state path.lv growth pvs group seen.0)
    (back_passes (named_rows group path.vg) (rows_on group path.lv back) none)
    (back_passes (extend_lv_rows state path.lv growth pvs group seen.0) (lengthen_rows state path.lv now group given) seen.2))
    in
    let front = extend_lv_rows state path.lv growth pvs group seen.0 in
    let rows =
    growth_passes state path.lv growth pvs group seen.0.0 seen.0.1
    (back_passes (growth_rows state path.lv growth pvs group seen.0)
    (space_row state group (more_for state group growth pvs seen.0.1) ∷ []) (back_passes front (lengthen_rows state path.lv now group given)
    seen.2))
    in
    let behind =
    lengthen_passes state path.lv now group given (front_passes front (lengthen_rows state path.lv now group given) seen.2) in
    record {
      old = group;
      there = there;
      next = longer_volume path.lv given group;
      zero = [];
      change_is = refl;
      same_id = refl;
      next_seqno = refl;
      same_pvs = refl;
      has_area = rows.has_area;
      fits = behind.fits;
      whole = λ state_is accepted tree time.
          longer_whole group path.lv given
          (subst (λ (o : Option (ℕ × Lv)). IsSomeAnd o (λ (v : ℕ × Lv). MayGrow group v.1 given)) (sym seen.1)
          (grows_by group accepted path.lv seen.0.0 seen.0.1 seen.1 state state_is there tree growth pvs given rows.apart taken.0
          (few_segments group (length given) behind.segments)))
          rows.seqno accepted tree;
    }

rename_lv_next : (state : GroupState) (vg old new : List ℕ) (now : ℕ) → volume_name_refusal new ≡ None → (o : Option Group)
    → state.group ≡ o → first_refusal (option_map_or (rename_in_rows state vg old new now) o (Some (UnknownGroup vg) ∷ [])) ≡ None
    → CommitsNext state (option_map_or (λ (g : Group). version_change state (renamed_volume old new g)) o (no_change state)) now
rename_lv_next state vg old new now valid None there none = absurd cc
rename_lv_next state vg old new now valid (Some group) there none =
    let seen =
    named_on group old (rename_lv_rows state old new now group) (visible_named group old) refl
    (front_passes (named_rows group vg) (rows_on group old (rename_lv_rows state old new now group)) none) in
    let rows = rename_passes state old new now group seen.0 seen.2 in
    record {
      old = group;
      there = there;
      next = renamed_volume old new group;
      zero = [];
      change_is = refl;
      same_id = refl;
      next_seqno = refl;
      same_pvs = refl;
      has_area = rows.has_area;
      fits = rows.fits;
      whole =
          λ state_is accepted tree time. volume_whole group old new (ap is_some seen.1) (name_free group new rows.free) valid
          (seqno_left group rows.seqno) accepted tree;
    }

-- an id that was drawn
pub drawn_is : (id : Option (List ℕ)) → IsSomeAnd id IsId → IsId (unwrap_or id [])
drawn_is None is = absurd is
drawn_is (Some own) is = is

-- such a line that no row refuses
pub commits_next : (state : GroupState) (number : ℕ) (id : Option (List ℕ)) (command : Command) (now : ℕ) (given : List Part)
    → IsPlanned id command → is_next command ≡ true
    → Takes (asks_of state (record { number = number; id = id; command = command })) given
    → refusal_of state (record { number = number; id = id; command = command }) now given ≡ None
    → CommitsNext state (change_of state (record { number = number; id = id; command = command }) now given) now
commits_next state number id (Vgrename vg new) now given planned is takes none = rename_next state vg new now planned state.group refl none
commits_next state number id (Lvcreate new) now given planned is takes none =
    create_next state (unwrap_or id []) new now given
    (creates state (unwrap_or id []) new now given (drawn_is id planned.0) planned.1 state.group refl takes none)
commits_next state number id (Lvextend path growth pvs) now given planned is takes none =
    extend_next state path growth pvs now given planned state.group refl takes none
commits_next state number id (Lvreduce path amount) now given planned is takes none =
    reduce_next state path amount now planned state.group refl none
commits_next state number id (Lvremove path) now given planned is takes none = remove_next state path now state.group refl none
commits_next state number id (Lvrename vg old new) now given planned is takes none =
    rename_lv_next state vg old new now planned state.group refl none
commits_next state number id command now given planned is takes none = absurd cc

-- ---- as a group to which no physical volume is added

pub append_nil : (l : List ℕ) → l ++ [] ≡ l
append_nil [] = refl
append_nil (x ∷ l) = ap (λ m. x ∷ m) (append_nil l)

pub extended_none : (state : GroupState) (next : Group) → extended next (added_of state []) ≡ next
unfolding extended
extended_none state next = refl

pub version_is : (state : GroupState) (zero : List Span) (next : Group)
    → record (change_with next state.disk_of (added_of state [])) { zero = zero } ≡ zeroing_change state zero next
unfolding extended
version_is state zero next =
    λ i. record {
      group = Some next;
      zero = zero;
      labels = [];
      taken = set.empty;
      cleared = set.empty;
      disk_of = append_nil state.disk_of i;
    }
