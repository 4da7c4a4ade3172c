use Rattle.std.proofs.Common.{◌≡◌, ◌<◌, List, ℕ, Option, get_or, length, subst}
use Rattle.std.specs.Prelude.{[]}
use Rattle.std.proofs.lemmas.Result.{err_from_is_err_and}
use Rattle.byte_streams.proofs.ItemsWritten.{next_written, stopped_at}
use Rattle.line_answers.specs.declared.answer.Answer.{Answer}
use Rattle.lvm_report.specs.AnswerLines.{answer_line}
use Rattle.lvm_report.proofs.answers.write_answers.Goals as goal

pub loop-number-preserved : goal.loop-number-preserved
loop-number-preserved g c =
    let i : ℕ = c.loop-number.number-index in
    let line : ℕ × Option Answer = c.loop-number-item.result in
    let within =
    subst (λ (lines : List (ℕ × Option Answer)). i < length lines) c.deref-number-items.ensures.value c.loop-number-test.true in
    let is =
    subst (λ (lines : List (ℕ × Option Answer)). line ≡ get_or lines i line) c.deref-number-items.ensures.value c.loop-number-item.is in
    next_written (answer_line c.args.names.now) _ _ _ _ _ _ [] c.args.answers.now.items i line within is c.loop-number.invariant
    c.in_ok-write_line.ensures

pub returns-in_err-write_line : goal.returns-in_err-write_line
returns-in_err-write_line g c =
    let p = err_from_is_err_and c.from_residual.result c.from_residual.ensures.1 in
    let i : ℕ = c.loop-number.number-index in
    let line : ℕ × Option Answer = c.loop-number-item.result in
    let within =
    subst (λ (lines : List (ℕ × Option Answer)). i < length lines) c.deref-number-items.ensures.value c.loop-number-test.true in
    let is =
    subst (λ (lines : List (ℕ × Option Answer)). line ≡ get_or lines i line) c.deref-number-items.ensures.value c.loop-number-item.is in
    rw p.1 (stopped_at (answer_line c.args.names.now) _ _ _ _ _ _ [] c.args.answers.now.items i line within is c.loop-number.invariant
    c.in_err-write_line.ensures)
