use Rattle.std.proofs.Common.{◌≡◌, drop}
use Rattle.std.specs.Prelude.{find}
use Rattle.group_plan.specs.Members.{is_outside}
use Rattle.group_plan.proofs.members.judge_members.Given as goal

abbrev pub invariant-loop-name : goal.invariant-loop-name
invariant-loop-name l = find (is_outside l.state) (drop l.name-index l.names) ≡ find (is_outside l.state) l.names
