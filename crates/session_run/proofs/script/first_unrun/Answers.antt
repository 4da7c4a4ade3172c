use Rattle.std.proofs.Common.{◌∙◌, ◌<◌, ◌+◌, List, ℕ, length, ap, sym, subst, arith, eqb-true}
use Rattle.std.proofs.lemmas.Bool.{eqb-false}
use Rattle.session_run.specs.SessionScript.{unrun_line}
use Rattle.session_run.proofs.FrontLines.{Passed, at_end, at_start, counted, found, next_passed, shorter, within}
use Rattle.session_run.proofs.script.first_unrun.Goals as goal

pub loop-rest-init : goal.loop-rest-init
loop-rest-init c = at_start c.args.text.now

pub overflow_add-number : goal.overflow_add-number
overflow_add-number c =
    let ne = eqb-false (length c.loop-rest.rest.now) 0 (sym c.is_empty.ensures ∙ c.loop-rest-test.true) in
    let next = counted c.loop-rest.invariant (omega (arith, ne)) in
    omega (arith, next)

pub loop-rest-smaller : goal.loop-rest-smaller
loop-rest-smaller c =
    let ne = eqb-false (length c.loop-rest.rest.now) 0 (sym c.is_empty.ensures ∙ c.loop-rest-test.true) in
    subst (λ (after : List ℕ). length after < length c.loop-rest.rest.now) (sym c.cut.ensures.after)
    (shorter c.loop-rest.rest.now (omega (arith, ne)))

pub loop-rest-preserved : goal.loop-rest-preserved
loop-rest-preserved c =
    let ne = eqb-false (length c.loop-rest.rest.now) 0 (sym c.is_empty.ensures ∙ c.loop-rest-test.true) in
    subst (λ (after : List ℕ). Passed c.args.text.now after (c.loop-rest.number + 1)) (sym c.cut.ensures.after)
    (next_passed c.loop-rest.invariant (omega (arith, ne)) (ap unrun_line (sym c.cut.ensures.before) ∙ sym c.in-None.ensures))

pub overflow_sub-result : goal.overflow_sub-result
overflow_sub-result c = let most = within c.loop-rest.invariant in omega (arith, most)

pub returns-in-Some : goal.returns-in-Some
returns-in-Some c =
    let ne = eqb-false (length c.loop-rest.rest.now) 0 (sym c.is_empty.ensures ∙ c.loop-rest-test.true) in
    (found c.in-Some.place c.loop-rest.invariant (omega (arith, ne)) (ap unrun_line (sym c.cut.ensures.before) ∙ sym c.in-Some.ensures))

pub returns : goal.returns
returns c =
    at_end c.loop-rest.invariant
    (eqb-true (length c.loop-rest.rest.now) 0 (sym c.is_empty.ensures ∙ c.loop-rest-test.false))
