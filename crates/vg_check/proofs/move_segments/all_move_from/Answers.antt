use Rattle.std.proofs.Common.{rules}
use Rattle.vg_check.specs.Moves.{MovesFrom}
use Rattle.list_laws.proofs.Fronts.{all_more, all_done}
use Rattle.vg_check.proofs.move_segments.all_move_from.Goals as goal

pub loop-segment-preserved : goal.loop-segment-preserved
loop-segment-preserved c =
    all_more (MovesFrom c.args.source) c.args.segments.now c.loop-segment.segment-index c.segment-item.result c.loop-segment-test.true
    c.segment-item.is c.loop-segment.invariant (c.if-not-is_move_from.ensures.0 (search rules))

pub returns : goal.returns
returns c = (
  λ is. all_done (MovesFrom c.args.source) c.args.segments.now c.loop-segment.segment-index c.loop-segment-test.false
      c.loop-segment.invariant,
  λ all. search rules,
)
