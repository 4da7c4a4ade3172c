-- The tests on the physical volume, and then the text without it.
use Rattle.std.proofs.Common.{ℕ, List, ap, ◌∙◌}
use Rattle.std.specs.List.{remove}
use Rattle.group_plan.proofs.StateFacts.{areas_take}
use Rattle.vg_plans.proofs.Leaving.{rest_below}
use Rattle.vg_plans.proofs.vgreduce.leave.Goals as goal

pub judge_leaving-requires-clause-disks : goal.judge_leaving-requires-clause-disks
judge_leaving-requires-clause-disks c =
    rest_below c.args.state.now c.args.group.now c.args.number c.in_ok-rest.rest c.requires.state c.requires.found
    (c.in_ok-rest.ensures ∙ ap (λ (l : List ℕ). remove l c.args.number) c.as_slice.ensures)

pub commit_version_on-requires-clause-disks : goal.commit_version_on-requires-clause-disks
commit_version_on-requires-clause-disks c =
    rest_below c.args.state.now c.args.group.now c.args.number c.in_ok-rest.rest c.requires.state c.requires.found
    (c.in_ok-rest.ensures ∙ ap (λ (l : List ℕ). remove l c.args.number) c.as_slice.ensures)

pub commit_version_on-requires-clause-areas : goal.commit_version_on-requires-clause-areas
commit_version_on-requires-clause-areas c = areas_take c.args.state.now c.requires.state
