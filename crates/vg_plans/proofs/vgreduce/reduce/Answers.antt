use Rattle.std.proofs.Common.{subst}
use Rattle.volume_rules.specs.Rules.{IsAccepted}
use Rattle.group_plan.proofs.PlacedGroup.{few_listed}
use Rattle.vg_plans.proofs.vgreduce.reduce.Goals as goal

pub pv_named-requires-clause-few : goal.pv_named-requires-clause-few
pv_named-requires-clause-few c =
    few_listed c.args.state.now c.requires.state c.args.group.now c.requires.found
    (subst IsAccepted c.group.ensures.group c.group.ensures.accepted)
