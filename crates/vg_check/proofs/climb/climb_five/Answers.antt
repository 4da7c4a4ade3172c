use Rattle.std.proofs.Common.{arith}
use Rattle.volume_rules.specs.Rules.{LegsLieWithin}
use Rattle.volume_rules.specs.declared.rule.Rule.TheVariants.{Within}
use Rattle.vg_check.proofs.Climbs.{climbed_more, numbers_low}
use Rattle.vg_check.proofs.climb.climb_five.Goals as goal

pub grow-requires-clause-low : goal.grow-requires-clause-low
grow-requires-clause-low c =
    λ lv. numbers_low c.args.group.now c.args.climb c.loop-round._round c.loop-round.numbers lv (omega arith) c.loop-round.invariant
    c.loop-round-test.true

pub loop-round-preserved : goal.loop-round-preserved
loop-round-preserved c =
    let within : LegsLieWithin c.args.group.now = c.requires.below Within (omega arith) in
    climbed_more c.args.group.now c.args.climb c.loop-round._round c.loop-round.numbers c.grow.new.numbers c.settle.new.numbers within
    (omega arith) c.loop-round.invariant c.grow.ensures c.settle.ensures
