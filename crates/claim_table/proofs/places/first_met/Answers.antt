use Rattle.std.proofs.Common.{sym, ap, ◌∙◌, arith}
use Rattle.claim_table.specs.declared.placed.Placed.{Placed}
use Rattle.claim_table.specs.Places.{is_past}
use Rattle.claim_table.proofs.PlaceOrder.{none_met, past_from}
use Rattle.claim_table.proofs.places.first_met.Goals as goal

pub returns-else-not-is_past-clause-none : goal.returns-else-not-is_past-clause-none
returns-else-not-is_past-clause-none c = none_met c.args.piece.now c.args.limit c.args.places.now.items c.loop-at.at c.loop-at.invariant
    (past_from c.args.piece.now c.args.limit c.args.places.now.items c.loop-at.at c.index.result.now c.requires.ascending (omega (arith, c.loop-at-test.true, c.len.ensures, c.requires.counted))
    (ap (λ (e : Placed). is_past c.args.piece.now e) (sym c.index.ensures) ∙ sym c.is_past.ensures ∙ c.if-not-is_past.false))

pub returns-after-loop-at-clause-none : goal.returns-after-loop-at-clause-none
returns-after-loop-at-clause-none c =
    none_met c.args.piece.now c.args.limit c.args.places.now.items c.loop-at.at c.loop-at.invariant
    (λ k d from within. absurd (omega (arith, c.loop-at-test.false, c.len.ensures, c.requires.counted)))
