use Rattle.std.proofs.Common.{ℕ, List, ap, sym, ◌∙◌, arith}
use Rattle.std.specs.Str.{bytes_eq}
use Rattle.line_answers.proofs.NamesFound.{found_at, none_left, passed_at}
use Rattle.line_answers.proofs.disk_names.place_of.Goals as goal

pub returns-then-eq-clause-place : goal.returns-then-eq-clause-place
returns-then-eq-clause-place c =
    sym (c.loop-place.invariant ∙ found_at c.args.names.now c.loop-place.place c.index-names-place.result c.loop-place-test.true
    c.index-names-place.is c.args.name.now
    (ap (λ (l : List ℕ). bytes_eq l c.args.name.now) (sym c.as_bytes.ensures.value) ∙ sym c.eq.ensures ∙ c.if-eq.true))

pub loop-place-preserved : goal.loop-place-preserved
loop-place-preserved c =
    c.loop-place.invariant ∙ passed_at c.args.names.now c.loop-place.place c.index-names-place.result c.loop-place-test.true
    c.index-names-place.is c.args.name.now
    (ap (λ (l : List ℕ). bytes_eq l c.args.name.now) (sym c.as_bytes.ensures.value) ∙ sym c.eq.ensures ∙ c.if-eq.false)

pub returns-clause-place : goal.returns-clause-place
returns-clause-place c = sym (c.loop-place.invariant ∙ none_left c.args.names.now c.loop-place.place c.args.name.now (omega arith))
