-- What is known of an lvcreate that no row refuses.
use Rattle.std.proofs.Common.{◌≡◌, ◌<◌, ℕ, ◌^◌, ◌++◌, false, List, [], ◌∷◌, length, Option, Some, None, ap}
use Rattle.std.specs.Prelude.{option_map}
use Rattle.std.specs.Option.{option_map_or}
use Rattle.lvm_id.specs.LvmId.{IsId}
use Rattle.lvm_name.specs.Names.{is_among}
use Rattle.command_table.specs.declared.command.NewVolume.{NewVolume}
use Rattle.line_answers.specs.declared.op_refusal.OpRefusal.{OpRefusal}
use Rattle.line_answers.specs.declared.op_refusal.OpRefusal.TheVariants.{UnknownGroup}
use Rattle.meta_model.specs.Standing.{HasTree}
use Rattle.meta_model.specs.Tables.{names_of}
use Rattle.meta_model.specs.declared.group.Group.{Group}
use Rattle.volume_rules.specs.Rules.{IsAccepted}
use Rattle.extent_alloc.specs.declared.part.Part.{Part}
use Rattle.group_edits.proofs.New.{new_whole}
use Rattle.group_edits.proofs.Whole.{IsWhole}
use Rattle.group_edits.specs.NewVolume.{MayHave}
use Rattle.group_plan.proofs.Chained.{back_passes, front_passes}
use Rattle.group_plan.proofs.Rows.{seqno_left}
use Rattle.group_plan.specs.Committing.{length_row, no_area_row, no_change}
use Rattle.group_plan.specs.Judging.{first_refusal}
use Rattle.group_plan.specs.State.{IsState}
use Rattle.group_plan.specs.declared.state.GroupState.{GroupState}
use Rattle.lv_plans.proofs.Creating.{may_have}
use Rattle.lv_plans.proofs.Extending.{few_segments}
use Rattle.lv_plans.proofs.PassedRows.{add_passes, limits_pass, name_passes}
use Rattle.lv_plans.proofs.RowsOnVolume.{name_free}
use Rattle.lv_plans.specs.Allocating.{Takes, space_row}
use Rattle.lv_plans.specs.Lvcreate.{IsNewVolume, add_rows, create_asks, create_change, create_in_rows, created_group, kind_for, limit_rows}
use Rattle.lv_plans.specs.Lvcreate.{lvcreate_change, name_rows, new_lv_rows, want_for}

-- the group in force gets one more volume, which it may have
pub record Creates (state : GroupState) (id : List ℕ) (new : NewVolume) (now : ℕ) (given : List Part) : Type 0 where
  pub old : Group
  pub there : state.group ≡ Some old
  pub change_is : lvcreate_change state id new now given ≡ create_change state id new now old given
  pub free : is_among (names_of old.lvs) new.lv ≡ false
  pub has_area : no_area_row state ≡ None
  pub fits : length_row state (created_group id new now given old) now ≡ None
  pub may : IsState state → IsAccepted old → now < 2 ^ 48 → MayHave old id (kind_for new) given now
  pub whole : IsState state → IsAccepted old → HasTree old → now < 2 ^ 48 → IsWhole (created_group id new now given old)

pub creates : (state : GroupState) (id : List ℕ) (new : NewVolume) (now : ℕ) (given : List Part) → IsId id → IsNewVolume new
    → (o : Option Group) → state.group ≡ o → Takes (option_map (create_asks state id new) o) given
    → first_refusal (option_map_or (λ (g : Group). create_in_rows state id new now g given) o (Some (UnknownGroup new.vg) ∷ [])) ≡ None
    → Creates state id new now given
creates state id new now given is_id values None there takes none = absurd cc
creates state id new now given is_id values (Some group) there takes none =
    let names : List (Option OpRefusal) = name_rows state new group in
    let limits : List (Option OpRefusal) = limit_rows state id new group in
    let front : first_refusal (new_lv_rows state id new group) ≡ None =
    back_passes (new_lv_rows state id new group) (add_rows state id new now group given) none in
    let both : first_refusal (names ++ limits) ≡ None =
    back_passes (names ++ limits) (space_row state group (want_for state group new) ∷ []) front in
    let limited : first_refusal limits ≡ None = front_passes names limits both in
    let rows = limits_pass state id new group limited in
    let more =
    add_passes state id new now group given
    (front_passes (new_lv_rows state id new group) (add_rows state id new now group given) none) in
    let free : is_among (names_of group.lvs) new.lv ≡ false = name_free group new.lv (name_passes state new group (back_passes names limits both)) in
    let may : IsState state → IsAccepted group → now < 2 ^ 48 → MayHave group id (kind_for new) given now =
    λ is accepted time. may_have state is group there accepted id new now values time given limited (takes front).0
    (few_segments group (length given) more.segments)
    in
    record {
      old = group;
      there = there;
      change_is =
          ap (λ (o : Option Group). option_map_or (λ (g : Group). create_change state id new now g given) o (no_change state)) there;
      free = free;
      has_area = rows.has_area;
      fits = more.fits;
      may = may;
      whole =
          λ is accepted tree time. new_whole group new.lv id (kind_for new) given now (may is accepted time) accepted free values.named
          is_id (seqno_left group rows.seqno) tree;
    }
