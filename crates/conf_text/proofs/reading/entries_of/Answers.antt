use Rattle.std.proofs.Common.{◌≡◌, ◌+◌, [], length, map, take, drop, get_or, ap, sym, subst, ◌∙◌, arith}
use Rattle.std.proofs.lemmas.List.{take_more, take_all, length-take}
use Rattle.conf_text.specs.Reader.{◌>>=◌, outcome, ended}
use Rattle.conf_text.specs.ReaderViews.{Fails, Gives, IsWordOf, reader_view}
use Rattle.conf_text.specs.Views.{entry_view}
use Rattle.conf_text.proofs.Going.{outcome-drop, outcome-end, fails_on}
use Rattle.conf_text.proofs.Standing.{Stands}
use Rattle.conf_text.proofs.Stepping.{Good}
use Rattle.conf_text.proofs.Told.{starts, word_stands}
use Rattle.conf_text.proofs.Upto.{Any}
use Rattle.conf_text.proofs.WordStepping.{step_good}
use Rattle.conf_text.proofs.reading.entries_of.Goals as goal

pub returns-in-Err : goal.returns-in-Err
returns-in-Err c =
    let l = c.loop-at in
    let text = c.args.text.now in
    subst (Fails c.in-Err.refusal) (sym (outcome-drop text l.at (reader_view l.reader) c.loop-at-test.true) ∙ l.invariant.1)
    (fails_on c.in-Err.refusal _ (λ s. outcome (l.at + 1) s (drop (l.at + 1) text)) c.in-Err.ensures)

pub step-requires-clause-word : goal.step-requires-clause-word
step-requires-clause-word c = word_stands (take c.loop-at.at c.args.text.now) (reader_view c.loop-at.reader) c.loop-at.invariant.0

pub loop-at-init : goal.loop-at-init
loop-at-init c = (subst (Stands Any []) (sym c.start-reader.ensures) starts, ap (λ r. outcome 0 r c.args.text.now) c.start-reader.ensures)

pub loop-at-preserved : goal.loop-at-preserved
loop-at-preserved c =
    let l = c.loop-at in
    let text = c.args.text.now in
    let next = reader_view c.step.new.self in
    let b = get_or text l.at 0 in
    let place : l.at ≡ length (take l.at text) = omega (arith, length-take l.at text, c.loop-at-test.true) in
    let good =
    subst (Good (take l.at text) b) c.in_default.ensures
    (step_good (take l.at text) b l.at (reader_view l.reader) place l.invariant.0) in (
      subst (λ x. Stands Any x next) (sym (take_more text l.at 0 c.loop-at-test.true)) good,
      sym (ap (λ x. x >>= λ s. outcome (l.at + 1) s (drop (l.at + 1) text)) c.in_default.ensures)
          ∙ sym (outcome-drop text l.at (reader_view l.reader) c.loop-at-test.true) ∙ l.invariant.1,
    )

pub end-requires : goal.end-requires
end-requires c =
    subst (λ x. IsWordOf c.loop-at.reader.mode x c.loop-at.reader.word.items) (take_all c.loop-at.at c.args.text.now c.loop-at-test.false)
    (word_stands (take c.loop-at.at c.args.text.now) (reader_view c.loop-at.reader) c.loop-at.invariant.0)

pub returns : goal.returns
returns c =
    let l = c.loop-at in
    let text = c.args.text.now in
    let same : l.at ≡ length text = omega (arith, c.loop-at-test.false, l.auto.at-end) in
    subst (Gives (λ es. map entry_view es.items) c.end.result)
    (ap (λ n. ended n (reader_view l.reader)) (sym same) ∙ sym (outcome-end text l.at (reader_view l.reader) c.loop-at-test.false)
    ∙ l.invariant.1) c.end.ensures
