-- The lines that zero no sector.
use Rattle.std.proofs.Common.{◌≡◌, ◌≢◌, ℕ, false, List, [], Option, Some, None, Result, Ok, Err, refl, sym, subst}
use Rattle.std.specs.Prelude.{IfOk}
use Rattle.std.specs.Option.{option_map_or}
use Rattle.std.proofs.lemmas.Bool.{true≢false}
use Rattle.command_table.specs.declared.command.Command.{Command}
use Rattle.command_table.specs.declared.command.Command.TheVariants.{Lvcreate}
use Rattle.command_table.specs.declared.command.NewVolume.{NewVolume}
use Rattle.line_answers.specs.declared.op_refusal.OpRefusal.{OpRefusal}
use Rattle.lvm_script.specs.declared.line.Line.{Line}
use Rattle.meta_model.specs.declared.group.Group.{Group}
use Rattle.extent_alloc.specs.declared.part.Part.{Part}
use Rattle.vg_found.specs.declared.disk.Disk.{Disk}
use Rattle.group_plan.specs.Committing.{no_change}
use Rattle.group_plan.specs.Plans.{Plans}
use Rattle.group_plan.specs.Members.{pv_named}
use Rattle.group_plan.specs.Zeroing.{AreWithin}
use Rattle.group_plan.specs.declared.refusal.PlanRefusal.{PlanRefusal}
use Rattle.group_plan.specs.declared.state.Change.{Change}
use Rattle.group_plan.specs.declared.state.GroupState.{GroupState}
use Rattle.vg_plans.specs.Vgextend.{extend_by}
use Rattle.vg_plans.proofs.Restoring.{restore_holds}
use Rattle.vg_plans.specs.Vgcfgrestore.{vgcfgrestore_change}
use Rattle.vg_plans.specs.Vgreduce.{leaving_change, reduce_change}
use Rattle.lv_plans.specs.Allocating.{Asking, PlansWith}
use Rattle.lv_plans.proofs.GivenParts.{plans_within}
use Rattle.group_ops.proofs.NextVersions.{no_zero, by_kind}
use Rattle.group_ops.specs.Planning.{IsPlanned, asks_of, change_of, rows_of, zeroes}

extend_none : (state : GroupState) (pvs : List (List ℕ)) (o : Option Group) → (extend_by state o pvs).zero ≡ []
extend_none state pvs None = refl
extend_none state pvs (Some group) = refl

leaving_none : (state : GroupState) (group : Group) (o : Option ℕ)
    → (option_map_or (leaving_change state group) o (no_change state)).zero ≡ []
leaving_none state group None = refl
leaving_none state group (Some number) = refl

leave_none : (state : GroupState) (name : List ℕ) (o : Option Group)
    → (option_map_or (reduce_change state name) o (no_change state)).zero ≡ []
leave_none state name None = refl
leave_none state name (Some group) = leaving_none state group (pv_named state name)

restore_none : (state : GroupState) → (vgcfgrestore_change state).zero ≡ []
restore_none state = restore_holds state (λ change. change.zero ≡ []) refl (λ disks next. refl)

-- each command that can be planned, but lvcreate
pub none_zeroed : (state : GroupState) (number : ℕ) (id : Option (List ℕ)) (command : Command) (now : ℕ) (given : List Part)
    → IsPlanned id command → zeroes command ≡ false
    → (change_of state (record { number = number; id = id; command = command }) now given).zero ≡ []
none_zeroed state number id command now given planned other =
    by_kind (λ c. zeroes c ≡ false → (change_of state (record { number = number; id = id; command = c }) now given).zero ≡ [])
    (record {
      next = λ c is no other. no_zero state number id c now given is no;
      new_volume = λ new other. absurd (true≢false other);
      new_pv = λ pv copies other. refl;
      new_group = λ vg extent_size pvs other. refl;
      joining = λ vg pvs other. extend_none state pvs state.group;
      leaving = λ vg pv other. leave_none state pv state.group;
      removal = λ vg other. refl;
      restore = λ vg text other. restore_none state;
    }) id command planned other

-- a command that isn't lvcreate
pub adds_none : (command : Command) → ((new : NewVolume) → command ≢ Lvcreate new) → zeroes command ≡ false
adds_none (Lvcreate new) other = absurd (other new refl)
adds_none _ other = refl

-- ---- plans

-- and of one that zeroes nothing
plans_none : (disks : List Disk) (rows : List (Option OpRefusal)) (wanted : Change) (result : Result Change PlanRefusal)
    → Plans rows wanted result → wanted.zero ≡ [] → IfOk result (λ change. AreWithin disks change.zero)
plans_none disks rows wanted result plans none = plans_within disks rows wanted result plans (subst (AreWithin disks) (sym none) tt)

module _ (disks : List Disk) (rows : List Part → List (Option OpRefusal)) (wanted : List Part → Change)
    (none : (given : List Part) → (wanted given).zero ≡ []) where
  plans_none_with : (asking : Option Asking) (result : Result Change PlanRefusal) → PlansWith asking rows wanted result
      → IfOk result (λ change. AreWithin disks change.zero)
  plans_none_with None result plans = plans_none disks (rows []) (wanted []) result plans (none [])
  plans_none_with (Some asking) (Ok change) plans = plans_none disks (rows plans.0) (wanted plans.0) (Ok change) plans.2 (none plans.0)
  plans_none_with (Some asking) (Err refusal) plans = tt

-- so of the line of each command but lvcreate
pub zeroes_nothing : (state : GroupState) (line : Line) (now : ℕ) (result : Result Change PlanRefusal) → IsPlanned line.id line.command
    → zeroes line.command ≡ false → PlansWith (asks_of state line) (rows_of state line now) (change_of state line now) result
    → IfOk result (λ change. AreWithin state.disks change.zero)
zeroes_nothing state line now result planned other plans =
    plans_none_with state.disks (rows_of state line now) (change_of state line now)
    (λ given. none_zeroed state line.number line.id line.command now given planned other) (asks_of state line) result plans
