use Rattle.std.proofs.Common.{arith}
use Rattle.volume_rules.specs.declared.rule.Rule.TheVariants.{Within}
use Rattle.vg_check.proofs.Climbs.{climbs_tell}
use Rattle.vg_check.proofs.depth.climbs_at_most.Goals as goal

pub returns : goal.returns
returns c =
    climbs_tell c.args.group.now c.args.climb c.args.most c.climb_five.new.numbers c.named_are_at_most.result
    (c.requires.below Within (omega arith)) c.climb_five.ensures c.named_are_at_most.ensures
