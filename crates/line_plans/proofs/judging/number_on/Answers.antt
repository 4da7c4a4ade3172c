use Rattle.volume_rules.specs.declared.rule.Rule.TheVariants.{Volumes}
use Rattle.line_plans.proofs.judging.number_on.Goals as goal

pub find_visible-requires : goal.find_visible-requires
find_visible-requires c = (c.group-group.ensures.accepted Volumes).lvs
