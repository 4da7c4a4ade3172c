use Rattle.std.proofs.Common.{◌∙◌, arith}
use Rattle.std.specs.Cmp.Lexicographic.{bytes_decides}
use Rattle.std.proofs.lemmas.Bool.{false≢true}
use Rattle.meta_model.specs.declared.extent_span.ExtentSpan.{ExtentSpan}
use Rattle.vg_check.proofs.SortedIds.{differ_more}
use Rattle.vg_check.proofs.block.neighbours_differ.Goals as goal

pub loop-i-preserved : goal.loop-i-preserved
loop-i-preserved c =
    let none : ExtentSpan = record { on = 0; first = 0; count = 0 } in
    differ_more c.args.group.now c.args.kind c.args.block.now c.loop-i.i none c.id_at.result c.id_at-in-loop-i.result (omega arith)
    c.loop-i-test.true c.id_at.ensures c.id_at-in-loop-i.ensures
    (λ same. false≢true (c.if-eq.ensures ∙ (bytes_decides c.id_at.result c.id_at-in-loop-i.result).1 same)) c.loop-i.invariant
