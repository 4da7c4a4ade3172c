use Rattle.std.proofs.Common.{rules, sym, ◌∙◌, arith}
use Rattle.std.proofs.lemmas.Bool.{false≢true}
use Rattle.meta_model.specs.declared.extent_span.ExtentSpan.{ExtentSpan}
use Rattle.vg_check.proofs.MarkedVolumes.{marked_more, told_at}
use Rattle.vg_check.proofs.moving.locked_are_marked.Goals as goal
use Rattle.vg_check.proofs.moving.locked_are_marked.Goals.{else-is_locked-via-then-is_locked+else-numbers-number-eq0}
use Rattle.vg_check.proofs.moving.locked_are_marked.Goals.{else-is_locked-via-else-is_locked}

pub returns-then-numbers-number-eq0 : goal.returns-then-numbers-number-eq0
returns-then-numbers-number-eq0 c =
    let none : ExtentSpan = record { on = 0; first = 0; count = 0 } in (
      λ is. absurd (false≢true is),
      λ marked. absurd
          (omega (
            arith,
            marked c.loop-number.number c.lv.result.now c.loop-number-test.true c.lv.ensures
                (sym c.is_locked.ensures ∙ c.if-is_locked.true),
            told_at c.args.numbers.now c.loop-number.number none c.loop-number-test.true,
          )),
    )

pub loop-number-preserved : goal.loop-number-preserved
loop-number-preserved c =
    let none : ExtentSpan = record { on = 0; first = 0; count = 0 } in
    marked_more c.args.group.now c.args.numbers.now c.loop-number.number c.lv.result.now c.lv.ensures
    (λ locked. elim c.else-is_locked.branch [
      | else-is_locked-via-then-is_locked+else-numbers-number-eq0 w ↦ omega
          (arith, told_at c.args.numbers.now c.loop-number.number none c.loop-number-test.true)
      | else-is_locked-via-else-is_locked w ↦ absurd (false≢true (sym w.if-is_locked.false ∙ c.is_locked.ensures ∙ locked))
    ])
    c.loop-number.invariant

pub returns : goal.returns
returns c = (λ is number lv lt. c.loop-number.invariant number lv (omega arith), λ marked. search rules)
