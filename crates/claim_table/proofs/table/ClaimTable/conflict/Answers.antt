use Rattle.std.proofs.Common.{◌&&◌, nat_eq, subst, ◌∙◌}
use Rattle.std.specs.Prelude.{IsTrue, filter}
use Rattle.std.proofs.lemmas.Bool.{or_right}
use Rattle.claim_table.specs.declared.claim.Claim.{Claim}
use Rattle.claim_table.specs.declared.claim.By.TheVariants.{Piece}
use Rattle.claim_table.specs.Claims.{Claims, conflicts}
use Rattle.claim_table.specs.Conflict.{clash}
use Rattle.claim_table.specs.Places.{is_below}
use Rattle.claim_table.proofs.Indices.{any_filter}
use Rattle.claim_table.proofs.table.ClaimTable.conflict.Goals as goal

pub returns-in-Some-clash-2-clause-some : goal.returns-in-Some-clash-2-clause-some
returns-in-Some-clash-2-clause-some c =
    let number = c.in-Some-clash-2.number in
    let found =
    any_filter (λ (d : Claim). nat_eq d.number number && clash d c.args.claim.now) (λ (d : Claim). is_below c.args.limit d.number)
    c.self.inside.deferred.claims ∙ c.in-Some-clash-2.ensures.some in
    subst (λ (v : Claims). IsTrue (conflicts v (filter (λ d. is_below c.args.limit d.number) v.deferred) c.args.claim.now (Piece number)))
    c.self.view_is (or_right _ _ found)
