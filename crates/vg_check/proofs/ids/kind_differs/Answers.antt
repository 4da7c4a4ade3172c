use Rattle.std.proofs.Common.{arith}
use Rattle.std.proofs.lemmas.Bool.{false≢true}
use Rattle.vg_check.proofs.BlockOfIds.{stand_part}
use Rattle.vg_check.proofs.ids.kind_differs.Goals as goal
use Rattle.vg_check.proofs.ids.kind_differs.Goals.{then-total-from, else-total-from}

pub returns-then-not-block_differs : goal.returns-then-not-block_differs
returns-then-not-block_differs c = (
  λ is. absurd (false≢true is),
  λ stand. c.if-not-block_differs.ensures.1
      (stand_part c.args.group.now c.args.kind _ c.loop-from.from c.if-total-from.to
      (elim c.if-total-from.branch [ then-total-from w ↦ omega arith | else-total-from w ↦ omega arith ]) stand),
)
