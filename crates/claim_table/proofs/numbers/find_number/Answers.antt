use Rattle.std.proofs.Common.{sym, ap, ◌∙◌, arith}
use Rattle.std.proofs.lemmas.List.{get_or_default}
use Rattle.claim_table.specs.declared.claim.Claim.{Claim}
use Rattle.claim_table.specs.Steps.{no_claim}
use Rattle.claim_table.proofs.ByNumber.{found_at, found_nowhere}
use Rattle.claim_table.proofs.numbers.find_number.Goals as goal
use Rattle.claim_table.proofs.numbers.find_number.Goals.{else-at-len-via-then-at-len+else-index-number, else-at-len-via-else-at-len}

pub returns-then-index-number : goal.returns-then-index-number
returns-then-index-number c =
    sym (found_at c.args.claims.now.items c.args.number c.first_from-at.result c.index.result.now
    (omega (arith, c.if-at-len.true, c.len.ensures, c.requires.counted)) c.first_from-at.ensures.parts
    (ap (λ (d : Claim). d.number) (sym c.index.ensures) ∙ c.if-index-number.true))

pub returns-else-at-len : goal.returns-else-at-len
returns-else-at-len c =
    sym (found_nowhere c.args.claims.now.items c.args.number c.first_from-at.result no_claim c.requires.order c.first_from-at.ensures.within
    c.first_from-at.ensures.parts
    (elim c.else-at-len.branch [
      | else-at-len-via-then-at-len+else-index-number w ↦ λ lt same.
          w.if-index-number.false (ap (λ (d : Claim). d.number) (w.index.ensures
          ∙ get_or_default c.args.claims.now.items c.first_from-at.result w.index.result.now no_claim lt) ∙ same)
      | else-at-len-via-else-at-len w ↦ λ lt same. omega (arith, w.if-at-len.false, c.len.ensures, c.requires.counted, lt)
    ]))
