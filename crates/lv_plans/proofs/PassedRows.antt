-- What each row of a list says where none refuses, by its name: nothing else goes by the places of rows.
use Rattle.std.proofs.Common.{◌≡◌, ℕ, ◌+◌, List, length, None, ◌≢◌}
use Rattle.command_table.specs.declared.amount.Amount.{Amount}
use Rattle.command_table.specs.declared.amount.Growth.{Growth}
use Rattle.command_table.specs.declared.command.NewVolume.{NewVolume}
use Rattle.meta_model.specs.declared.group.Group.{Group}
use Rattle.meta_model.specs.declared.lv.Lv.{Lv}
use Rattle.volume_rules.specs.Extents.{extents_of}
use Rattle.extent_alloc.specs.declared.part.Part.{Part}
use Rattle.group_edits.specs.LongerVolume.{longer_volume}
use Rattle.group_edits.specs.RenamedVolume.{renamed_volume}
use Rattle.group_edits.specs.Removing.{without_volume}
use Rattle.group_plan.proofs.Rows.{none_holds, seqno_left}
use Rattle.group_plan.specs.Committing.{length_row, no_area_row, seqno_row}
use Rattle.group_plan.specs.Judging.{first_refusal, many_row}
use Rattle.group_plan.specs.Stripes.{stripe_row}
use Rattle.group_plan.specs.declared.state.GroupState.{GroupState}
use Rattle.lv_plans.specs.Allocating.{segments_row}
use Rattle.lv_plans.specs.Lvcreate.{add_rows, created_group, id_row, limit_rows, name_rows}
use Rattle.lv_plans.specs.Lvextend.{growth_rows, lengthen_rows, longer_row}
use Rattle.lv_plans.specs.Lvreduce.{reduce_lv_rows, reduced_group, shorter_row}
use Rattle.lv_plans.specs.Lvremove.{remove_lv_rows}
use Rattle.lv_plans.specs.Lvrename.{rename_lv_rows}
use Rattle.lv_plans.specs.Sizes.{kept_by}
use Rattle.lv_plans.specs.Volumes.{layered_row, locked_row, taken_row}

-- ---- lvrename

pub record RenamePasses (state : GroupState) (old new : List ℕ) (now : ℕ) (group : Group) (volume : ℕ × Lv) : Type 0 where
  pub free : taken_row group new ≡ None
  pub unlocked : locked_row group old volume.0 ≡ None
  pub has_area : no_area_row state ≡ None
  pub seqno : seqno_row group ≡ None
  pub fits : length_row state (renamed_volume old new group) now ≡ None

pub rename_passes : (state : GroupState) (old new : List ℕ) (now : ℕ) (group : Group) (volume : ℕ × Lv)
    → first_refusal (rename_lv_rows state old new now group volume) ≡ None → RenamePasses state old new now group volume
rename_passes state old new now group volume none =
    let rows = none_holds (rename_lv_rows state old new now group volume) none in
    record { free = rows.0; unlocked = rows.1.0; has_area = rows.1.1.0; seqno = rows.1.1.1.0; fits = rows.1.1.1.1.0 }

-- ---- lvremove

pub record RemovePasses (state : GroupState) (name : List ℕ) (now : ℕ) (group : Group) (volume : ℕ × Lv) : Type 0 where
  pub unlocked : locked_row group name volume.0 ≡ None
  pub has_area : no_area_row state ≡ None
  pub seqno : seqno_row group ≡ None
  pub fits : length_row state (without_volume group volume.0) now ≡ None

pub remove_passes : (state : GroupState) (name : List ℕ) (now : ℕ) (group : Group) (volume : ℕ × Lv)
    → first_refusal (remove_lv_rows state name now group volume) ≡ None → RemovePasses state name now group volume
remove_passes state name now group volume none =
    let rows = none_holds (remove_lv_rows state name now group volume) none in
    record { unlocked = rows.0; has_area = rows.1.0; seqno = rows.1.1.0; fits = rows.1.1.1.0 }

-- ---- lvreduce

pub record ReducePasses (state : GroupState) (name : List ℕ) (amount : Amount) (now : ℕ) (group : Group) (volume : ℕ × Lv) : Type 0 where
  pub unlocked : locked_row group name volume.0 ≡ None
  pub apart : layered_row name volume.1 ≡ None
  pub has_area : no_area_row state ≡ None
  pub shorter : shorter_row (kept_by group.extent_size amount volume.1) (extents_of volume.1) ≡ None
  pub seqno : seqno_row group ≡ None
  pub fits : length_row state (reduced_group name amount group volume.1) now ≡ None

pub reduce_passes : (state : GroupState) (name : List ℕ) (amount : Amount) (now : ℕ) (group : Group) (volume : ℕ × Lv)
    → first_refusal (reduce_lv_rows state name amount now group volume) ≡ None → ReducePasses state name amount now group volume
reduce_passes state name amount now group volume none =
    let rows = none_holds (reduce_lv_rows state name amount now group volume) none in
    record {
      unlocked = rows.0;
      apart = rows.1.0;
      has_area = rows.1.1.0;
      shorter = rows.1.1.1.0;
      seqno = rows.1.1.1.1.0;
      fits = rows.1.1.1.1.1.0;
    }

-- ---- lvextend

-- before the allocator's
pub record GrowthPasses (state : GroupState) (name : List ℕ) (growth : Growth) (group : Group) (number : ℕ) (lv : Lv) : Type 0 where
  pub unlocked : locked_row group name number ≡ None
  pub apart : layered_row name lv ≡ None
  pub has_area : no_area_row state ≡ None
  pub longer : longer_row group.extent_size lv growth ≡ None
  pub seqno : group.seqno ≢ 4294967295

pub growth_passes : (state : GroupState) (name : List ℕ) (growth : Growth) (pvs : List (List ℕ)) (group : Group) (number : ℕ) (lv : Lv)
    → first_refusal (growth_rows state name growth pvs group (number, lv)) ≡ None → GrowthPasses state name growth group number lv
growth_passes state name growth pvs group number lv none =
    let rows = none_holds (growth_rows state name growth pvs group (number, lv)) none in
    record {
      unlocked = rows.1.1.0;
      apart = rows.1.1.1.0;
      has_area = rows.1.1.1.1.0;
      longer = rows.1.1.1.1.1.0;
      seqno = seqno_left group rows.1.1.1.1.1.1.0;
    }

-- behind them
pub record LengthenPasses (state : GroupState) (name : List ℕ) (now : ℕ) (group : Group) (given : List Part) : Type 0 where
  pub segments : segments_row group (length given) ≡ None
  pub fits : length_row state (longer_volume name given group) now ≡ None

pub lengthen_passes : (state : GroupState) (name : List ℕ) (now : ℕ) (group : Group) (given : List Part)
    → first_refusal (lengthen_rows state name now group given) ≡ None → LengthenPasses state name now group given
lengthen_passes state name now group given none =
    let rows = none_holds (lengthen_rows state name now group given) none in record { segments = rows.0; fits = rows.1.0 }

-- ---- lvcreate

pub name_passes : (state : GroupState) (new : NewVolume) (group : Group) → first_refusal (name_rows state new group) ≡ None
    → taken_row group new.lv ≡ None
name_passes state new group none = let rows = none_holds (name_rows state new group) none in rows.1.1.0

pub record LimitsPass (state : GroupState) (id : List ℕ) (new : NewVolume) (group : Group) : Type 0 where
  pub has_area : no_area_row state ≡ None
  pub stripes : stripe_row group.extent_size new.stripes new.stripe_size ≡ None
  pub count : many_row 1024 group.max_lv (length group.lvs + 1) ≡ None
  pub seqno : seqno_row group ≡ None
  pub own_id : id_row state group id ≡ None

pub limits_pass : (state : GroupState) (id : List ℕ) (new : NewVolume) (group : Group)
    → first_refusal (limit_rows state id new group) ≡ None → LimitsPass state id new group
limits_pass state id new group none =
    let rows = none_holds (limit_rows state id new group) none in
    record { has_area = rows.0; stripes = rows.1.0; count = rows.1.1.0; seqno = rows.1.1.1.0; own_id = rows.1.1.1.1.0 }

pub record AddPasses (state : GroupState) (id : List ℕ) (new : NewVolume) (now : ℕ) (group : Group) (given : List Part) : Type 0 where
  pub segments : segments_row group (length given) ≡ None
  pub fits : length_row state (created_group id new now given group) now ≡ None

pub add_passes : (state : GroupState) (id : List ℕ) (new : NewVolume) (now : ℕ) (group : Group) (given : List Part)
    → first_refusal (add_rows state id new now group given) ≡ None → AddPasses state id new now group given
add_passes state id new now group given none =
    let rows = none_holds (add_rows state id new now group given) none in record { segments = rows.0; fits = rows.1.0 }
