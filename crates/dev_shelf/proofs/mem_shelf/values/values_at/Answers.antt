use Rattle.std.proofs.Common.{List, arith, sym, ap, ◌∙◌}
use Rattle.disk_model.specs.Steps.{Step}
use Rattle.disk_model.specs.ValueList.{values}
use Rattle.dev_shelf.specs.DiskRow.{image_of}
use Rattle.dev_shelf.proofs.Recorded.{steps_more}
use Rattle.dev_shelf.proofs.RecordMoments.{record_more}
use Rattle.dev_shelf.proofs.mem_shelf.values.values_at.Goals as goal

pub loop-i-preserved : goal.loop-i-preserved
loop-i-preserved c =
    c.in_ok-all.ensures
    ∙ ap (λ (l : List Step). values (image_of c.args.row.now.opened.items) l c.args.disk c.args.sector)
    (sym (steps_more c.args.row.now.written.items c.args.row.now.steps.items c.loop-i.i c.index-in-loop-i.result.now
    (omega (arith, c.args.row.now.steps.ok.0)) c.index-in-loop-i.ensures))

pub values_on-requires-clause-follows : goal.values_on-requires-clause-follows
values_on-requires-clause-follows c =
    record_more c.args.row.now.written.items c.args.row.now.steps.items c.loop-i.i c.index-in-loop-i.result.now
    (omega (arith, c.args.row.now.steps.ok.0)) c.index-in-loop-i.ensures c.requires.good.follows
