use Rattle.std.proofs.Common.{List, arith, sym, subst, take, []}
use Rattle.disk_model.specs.Steps.{Step}
use Rattle.dev_shelf.specs.DiskRow.{steps_onto}
use Rattle.dev_shelf.specs.RowValues.{IsSeen}
use Rattle.dev_shelf.proofs.Recorded.{steps_more}
use Rattle.dev_shelf.proofs.mem_shelf.values.is_dropped_at.Goals as goal

pub loop-i-preserved : goal.loop-i-preserved
loop-i-preserved c =
    subst (λ (l : List Step). IsSeen c.see-seen.result l c.args.flush c.args.disk c.args.sector c.args.write)
    (sym (steps_more c.args.written.now.items c.args.steps.now.items c.loop-i.i c.index.result.now (omega (arith, c.args.steps.now.ok.0))
    c.index.ensures))
    (c.see-seen.ensures c.args.written.now.items (steps_onto c.args.written.now.items [] (take c.loop-i.i c.args.steps.now.items))
    c.loop-i.invariant)
