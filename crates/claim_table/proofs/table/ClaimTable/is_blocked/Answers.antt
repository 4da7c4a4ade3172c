use Rattle.std.proofs.Common.{not, List, get_or, take, ap, subst, ◌∙◌}
use Rattle.std.specs.Prelude.{Some, filter}
use Rattle.std.proofs.lemmas.List.{get_or_default}
use Rattle.claim_table.specs.declared.claim.Claim.{Claim}
use Rattle.claim_table.specs.Claims.{Claims, is_free}
use Rattle.claim_table.specs.Places.{is_below}
use Rattle.claim_table.specs.Steps.{no_claim}
use Rattle.claim_table.proofs.ByNumber.{lower_numbers}
use Rattle.claim_table.proofs.FreePieces.{blocked_is}
use Rattle.claim_table.proofs.TableKept.{Rise}
use Rattle.claim_table.proofs.table.ClaimTable.is_blocked.Goals as goal

pub returns : goal.returns
returns c =
    let up = subst (λ (v : Claims). Rise v.deferred) c.self.view_is c.self.invariant.1 in
    let item = c.at-claim.ensures ∙ ap (λ (v : Claims). get_or v.deferred c.args.at no_claim) c.self.view_is in
    let earlier =
    lower_numbers c.args.self.now.deferred c.args.at c.at-claim.result up c.requires
    (item ∙ get_or_default c.args.self.now.deferred c.args.at no_claim c.at-claim.result c.requires) in
    let blocked =
    blocked_is c.args.self.now (filter (λ (d : Claim). is_below (Some c.at-claim.result.number) d.number) c.args.self.now.deferred)
    c.at-claim.result c.conflict.result c.is_some.result c.conflict.ensures.none c.conflict.ensures.some c.is_some.ensures in
    blocked ∙ ap (λ (l : List Claim). not (is_free c.args.self.now l c.at-claim.result)) earlier
    ∙ ap (λ (y : Claim). not (is_free c.args.self.now (take c.args.at c.args.self.now.deferred) y)) item
