use Rattle.std.proofs.Common.{◌+◌, sym, subst, refl}
use Rattle.std.proofs.lemmas.Bool.{false≢true}
use Rattle.meta_model.specs.declared.extent_span.ExtentSpan.{ExtentSpan}
use Rattle.vg_check.specs.Covers.{CoversTo}
use Rattle.vg_check.proofs.Covering.{covers_other, covers_more, covers_all, gap}
use Rattle.vg_check.proofs.covers.cover.Goals as goal
use Rattle.vg_check.proofs.covers.cover.Goals.{then-run-on+else-run-end, else-run-on}

pub returns-then-run-end : goal.returns-then-run-end
returns-then-run-end c =
    let none : ExtentSpan = record { on = 0; first = 0; count = 0 } in (
      λ is. absurd (false≢true is),
      λ all. absurd (gap c.args.runs.now c.args.on c.loop-run.run-index c.loop-run.end c.args.extents none c.loop-run-test.true
          c.requires.sortable c.requires.apart c.requires.within c.if-run-on.true c.if-run-end.true c.loop-run.invariant all),
    )

pub loop-run-preserved : goal.loop-run-preserved
loop-run-preserved c =
    let none : ExtentSpan = record { on = 0; first = 0; count = 0 } in
    elim c.if-run-on.branch [
      | then-run-on+else-run-end w ↦
          subst (CoversTo c.args.runs.now c.args.on (c.loop-run.run-index + 1)) (sym w.end-is)
          (covers_more c.args.runs.now c.args.on c.loop-run.run-index c.loop-run.end none c.loop-run-test.true w.if-run-on.true
          w.if-run-end.false c.loop-run.invariant)
      | else-run-on w ↦
          subst (CoversTo c.args.runs.now c.args.on (c.loop-run.run-index + 1)) (sym w.end-is)
          (covers_other c.args.runs.now c.args.on c.loop-run.run-index c.loop-run.end none c.loop-run-test.true w.if-run-on.false
          c.loop-run.invariant)
    ]

pub returns : goal.returns
returns c =
    covers_all c.args.runs.now c.args.on c.loop-run.run-index c.loop-run.end c.args.extents _ c.loop-run-test.false c.requires.within
    c.loop-run.invariant refl
