use Rattle.std.proofs.Common.{arith}
use Rattle.lvm_script.proofs.DrawnLines.{all_drawn, next_drawn}
use Rattle.lvm_script.proofs.script.draw_ids.Goals as goal

pub loop-line-preserved : goal.loop-line-preserved
loop-line-preserved g c =
    let next =
    next_drawn _ c.loop-line.lines c.args.lines.now c.loop-line.line-index c.line-item.result c.draw_id.new.self _ _
    c.loop-line.invariant.drawn c.loop-line.invariant.rest
    (omega arith) c.draw_id.ensures.line c.draw_id.ensures.drawn in
    record { drawn = next.0; rest = next.1 }

pub returns : goal.returns
returns g c =
    all_drawn _ c.loop-line.lines c.args.lines.now c.loop-line.line-index _ c.loop-line.invariant.drawn c.loop-line.invariant.rest
    (omega arith)
