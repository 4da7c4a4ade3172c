-- The lines that clear no disk.
use Rattle.std.proofs.Common.{◌≡◌, ℕ, Bool, true, false, List, [], Option, Some, None, refl}
use Rattle.std.specs.Prelude.{unwrap_or}
use Rattle.std.specs.FinSet as set
use Rattle.std.specs.Option.{option_map_or}
use Rattle.std.proofs.lemmas.Bool.{true≢false}
use Rattle.command_table.specs.declared.command.Command.{Command}
use Rattle.command_table.specs.Commands.{CommandKind, Leaving, Removal, kind_of}
use Rattle.command_table.specs.declared.command.NewVolume.{NewVolume}
use Rattle.meta_model.specs.declared.group.Group.{Group}
use Rattle.extent_alloc.specs.declared.part.Part.{Part}
use Rattle.group_plan.specs.Committing.{no_change}
use Rattle.group_plan.specs.declared.state.Change.{Change}
use Rattle.group_plan.specs.declared.state.GroupState.{GroupState}
use Rattle.vg_plans.proofs.Restoring.{restore_holds}
use Rattle.vg_plans.specs.Vgextend.{extend_by}
use Rattle.lv_plans.specs.Lvcreate.{create_change}
use Rattle.group_ops.proofs.NextVersions.{next_holds, by_kind}
use Rattle.group_ops.specs.Planning.{IsPlanned, change_of}

-- the kinds of commands whose lines clear disks
abbrev kind_clears : CommandKind → Bool
kind_clears Leaving = true
kind_clears Removal = true
kind_clears _ = false

-- the commands
abbrev pub clears : Command → Bool
clears command = kind_clears (kind_of command)

-- the change clears no disk
abbrev pub ClearsNone : Change → Type 0
ClearsNone change = change.cleared ≡ set.empty

extend_clears : (state : GroupState) (pvs : List (List ℕ)) (o : Option Group) → ClearsNone (extend_by state o pvs)
extend_clears state pvs None = refl
extend_clears state pvs (Some group) = refl

create_clears : (state : GroupState) (id : List ℕ) (new : NewVolume) (now : ℕ) (given : List Part) (o : Option Group)
    → ClearsNone (option_map_or (λ (g : Group). create_change state id new now g given) o (no_change state))
create_clears state id new now given None = refl
create_clears state id new now given (Some group) = refl

-- each command that can be planned, but vgreduce and vgremove
pub none_cleared : (state : GroupState) (number : ℕ) (id : Option (List ℕ)) (command : Command) (now : ℕ) (given : List Part)
    → IsPlanned id command → clears command ≡ false
    → ClearsNone (change_of state (record { number = number; id = id; command = command }) now given)
none_cleared state number id command now given planned other =
    by_kind (λ c. clears c ≡ false → ClearsNone (change_of state (record { number = number; id = id; command = c }) now given))
    (record {
      next = λ c is no other. next_holds state ClearsNone refl (λ old there name lvs. refl) number id c now given is no;
      new_volume = λ new other. create_clears state (unwrap_or id []) new now given state.group;
      new_pv = λ pv copies other. refl;
      new_group = λ vg extent_size pvs other. refl;
      joining = λ vg pvs other. extend_clears state pvs state.group;
      leaving = λ vg pv other. absurd (true≢false other);
      removal = λ vg other. absurd (true≢false other);
      restore = λ vg text other. restore_holds state ClearsNone refl (λ disks next. refl);
    }) id command planned other
