-- What the rows of a vgreduce say of the physical volume that leaves, and what it commits.
use Rattle.std.proofs.Common.{◌≡◌, ◌<◌, ℕ, List, [], ◌∷◌, length, Option, Some, None, refl, sym, ap, subst, ◌∙◌, arith}
use Rattle.std.specs.Prelude.{◌==◌, option_and_then, All}
use Rattle.std.specs.List.{remove}
use Rattle.std.specs.Option.{option_map_or}
use Rattle.std.proofs.lemmas.List.{length-map}
use Rattle.std.proofs.lemmas.List.Quantifiers.{position-Some}
use Rattle.command_table.specs.Options.{number_named}
use Rattle.line_answers.specs.declared.op_refusal.OpRefusal.{OpRefusal}
use Rattle.line_answers.specs.declared.op_refusal.OpRefusal.TheVariants.{NotInGroup, UnknownGroup}
use Rattle.meta_model.specs.Standing.{HasTree}
use Rattle.meta_model.specs.declared.group.Group.{Group}
use Rattle.meta_model.specs.declared.pv.Pv.{Pv}
use Rattle.volume_rules.specs.Rules.{IsAccepted}
use Rattle.vg_found.specs.Disks.{disk_with}
use Rattle.group_edits.proofs.ReducedGroup.{reduced_whole}
use Rattle.group_edits.proofs.ReducedRules.{all_without}
use Rattle.group_edits.proofs.Whole.{IsWhole}
use Rattle.group_edits.specs.ReducedGroup.{reduced_group}
use Rattle.group_plan.proofs.Chained.{back_passes, front_passes, last_passes}
use Rattle.group_plan.proofs.StateFacts.{IsBelow, listed_are, listed_below}
use Rattle.group_plan.specs.Committing.{length_row_on, no_change}
use Rattle.group_plan.specs.Judging.{area_row, first_refusal, unknown_row}
use Rattle.group_plan.specs.Members.{number_on, pv_named}
use Rattle.group_plan.specs.State.{IsState}
use Rattle.group_plan.specs.declared.state.Change.{Change}
use Rattle.group_plan.specs.declared.state.GroupState.{GroupState}
use Rattle.vg_plans.proofs.PassedRows.{MayLeave, leaving_passes}
use Rattle.vg_plans.specs.Vgextend.{group_rows}
use Rattle.vg_plans.specs.Vgreduce.{leaving_change, leaving_rows, leaving_tests, reduce_change, reduce_rows, vgreduce_change, vgreduce_rows}

-- the disks of the others
pub rest_below : (state : GroupState) (group : Group) (number : ℕ) (rest : List ℕ) → IsState state → state.group ≡ Some group
    → rest ≡ remove state.disk_of number → All IsBelow rest
rest_below state group number rest is found same =
    subst (All IsBelow) (sym same) (all_without IsBelow state.disk_of number (listed_below state group is found))

-- ---- the next version

-- the change commits the next version of the group in force without one of its physical volumes, to the disks of the others, and
-- clears its disk
pub record LeavesNext (state : GroupState) (change : Change) (now : ℕ) : Type 0 where
  pub old : Group
  pub there : state.group ≡ Some old
  pub number : ℕ
  pub listed : number < length state.disk_of
  pub change_is : change ≡ leaving_change state old number
  pub may : MayLeave old number
  pub has_area : area_row state.areas (remove state.disk_of number) ≡ None
  pub fits : length_row_on state (remove state.disk_of number) (reduced_group old number) now ≡ None
  pub whole : IsState state → IsAccepted old → HasTree old → IsWhole (reduced_group old number)

-- the disk of each is listed
within_group : (state : GroupState) (group : Group) (number : ℕ) → IsState state → state.group ≡ Some group → number < length state.disk_of
    → number < length group.pvs
within_group state group number is found below =
    let same : length state.disk_of ≡ length group.pvs =
    ap length (listed_are state group is found) ∙ length-map group.pvs (λ (pv : List ℕ × Pv). disk_with state.disks pv.1.id) in
    omega (arith, same, below)

-- the number under which the group lists the disk with this number
listed_at : (state : GroupState) (disk : Option ℕ) (number : ℕ) → option_and_then (number_on state.disk_of) disk ≡ Some number
    → number < length state.disk_of
listed_at state None number is = absurd cc
listed_at state (Some disk) number is = (position-Some (λ (listed : ℕ). listed == disk) state.disk_of number 0 is).0

named_at : (state : GroupState) (name : List ℕ) (number : ℕ) → pv_named state name ≡ Some number → number < length state.disk_of
unfolding pv_named
named_at state name number is = listed_at state (number_named state.names name) number is

module _ (state : GroupState) (vg name : List ℕ) (now : ℕ) where
  -- the group lists it, and its rows pass
  listed_on : (group : Group) (o : Option ℕ) → pv_named state name ≡ o
      → first_refusal (option_map_or (leaving_rows state group name now) o (Some (NotInGroup name) ∷ [])) ≡ None
      → (number : ℕ) × (pv_named state name ≡ Some number) × (first_refusal (leaving_rows state group name now number) ≡ None)
  listed_on group None is none = absurd cc
  listed_on group (Some number) is none = (number, is, none)

  next_by : (o : Option Group) → state.group ≡ o
      → first_refusal (option_map_or (reduce_rows state vg name now) o (Some (UnknownGroup vg) ∷ [])) ≡ None
      → LeavesNext state (option_map_or (reduce_change state name) o (no_change state)) now
  next_by None there none = absurd cc
  next_by (Some group) there none =
      let back : List (Option OpRefusal) =
      option_map_or (leaving_rows state group name now) (pv_named state name) (Some (NotInGroup name) ∷ []) in
      let at =
      listed_on group (pv_named state name) refl
      (front_passes (unknown_row state (name ∷ []) ∷ []) back
      (front_passes (group_rows group vg) (unknown_row state (name ∷ []) ∷ back) none)) in
      let tests : List (Option OpRefusal) = leaving_tests state group name at.0 in
      let last : Option OpRefusal = length_row_on state (remove state.disk_of at.0) (reduced_group group at.0) now in
      let passes = leaving_passes state group name at.0 (back_passes tests (last ∷ []) at.2) in
      let may : MayLeave group at.0 = passes.may in
      record {
        old = group;
        there = there;
        number = at.0;
        listed = named_at state name at.0 at.1;
        change_is = ap (λ (o : Option ℕ). option_map_or (leaving_change state group) o (no_change state)) at.1;
        may = may;
        has_area = passes.has_area;
        fits = last_passes tests last at.2;
        whole =
            λ state_is accepted tree. reduced_whole group at.0
            (within_group state group at.0 state_is there (named_at state name at.0 at.1)) may.unused may.others may.seqno accepted
            tree;
      }

  -- so does a vgreduce that no row refuses
  pub leaves_next : first_refusal (vgreduce_rows state vg name now) ≡ None → LeavesNext state (vgreduce_change state name) now
  leaves_next none = next_by state.group refl none
