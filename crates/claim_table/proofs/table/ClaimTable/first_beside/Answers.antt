use Rattle.std.proofs.Common.{◌≡◌, ◌≤◌, false, length, get_or, refl, sym, subst, ◌∙◌, arith, true≢false}
use Rattle.std.specs.Prelude.{None, Some}
use Rattle.claim_table.specs.Claims.{Claims}
use Rattle.claim_table.specs.Conflict.{clash}
use Rattle.claim_table.proofs.Beside.{none_below}
use Rattle.claim_table.proofs.table.ClaimTable.first_beside.Goals as goal

pub first_freed-requires-clause-before : goal.first_freed-requires-clause-before
first_freed-requires-clause-before c k d lt =
    subst (λ (v : Claims). clash c.args.claim.now (get_or v.deferred k d) ≡ false) c.self.view_is
    (none_below c.self.inside.deferred.claims c.args.claim.now (Some c.in-Some.number) c.in-Some.ensures k d
    (omega (arith, lt, c.below.ensures.within)) (c.below.ensures.below k d lt))

pub returns-in-None-clause-before : goal.returns-in-None-clause-before
returns-in-None-clause-before c k d lt clashes =
    let within = subst (λ (v : Claims). c.args.end ≤ length v.deferred) (sym c.self.view_is) c.requires in
    let none =
    subst (λ (v : Claims). clash c.args.claim.now (get_or v.deferred k d) ≡ false) c.self.view_is
    (none_below c.self.inside.deferred.claims c.args.claim.now None c.in-None.ensures k d (omega (arith, lt, within)) refl) in
    absurd (true≢false (sym clashes ∙ none))
