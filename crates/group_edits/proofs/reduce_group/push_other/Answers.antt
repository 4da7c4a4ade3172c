use Rattle.std.proofs.Common.{◌≡◌, ◌≢◌, ◌++◌, [], ◌∷◌, sym, ◌∙◌, arith}
use Rattle.meta_model.proofs.TableLemmas.{pushed}
use Rattle.group_edits.proofs.LastRows.{passed_over, put_last}
use Rattle.group_edits.proofs.reduce_group.push_other.Goals as goal

pub returns-then-place-number : goal.returns-then-place-number
returns-then-place-number c =
    let same : c.args.place ≡ c.args.number = omega (arith, c.if-place-number.true) in
    passed_over c.args.pvs.now c.args.rest.now c.args.place c.args.number same c.requires.front

pub returns : goal.returns
returns c =
    let other : c.args.place ≢ c.args.number = λ same. omega (arith, c.if-place-number.false, same) in
    let last = pushed _ _ _ _ _ c.push.ensures (sym c.is_err.ensures.value ∙ c.if-is_err.false) in
    put_last c.args.pvs.now c.args.rest.now c.push.new.self c.args.place c.args.number (c.get.result.0.now, c.get.result.1.now) other
    c.requires.front c.get.ensures
    (last ∙ (λ i. c.args.rest.now ++ (c.in_ok-name.ensures i, c.in_ok-pv.ensures i) ∷ []))
