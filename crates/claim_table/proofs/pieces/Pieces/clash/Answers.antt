use Rattle.std.proofs.Common.{◌&&◌, nat_eq, subst}
use Rattle.std.specs.Prelude.{IfNone, IfSome, IsFalse, IsTrue}
use Rattle.std.specs.List.{list_any}
use Rattle.claim_table.specs.Conflict.{clash}
use Rattle.claim_table.specs.Places.{Kept, is_below}
use Rattle.claim_table.proofs.Indexed.{clash_none, clash_some}
use Rattle.claim_table.proofs.pieces.Pieces.clash.Goals as goal

pub returns-clause-some : goal.returns-clause-some
returns-clause-some c =
    let clashes =
    clash_some c.self.inside.claims.items c.self.inside.places.items c.self.inside.longest c.args.claim.now c.args.limit
    c.first_met.result c.self.invariant.0 c.first_met.ensures.some in
    subst (λ (k : Kept). IfSome c.first_met.result
    (λ number. IsTrue (list_any (λ d. is_below c.args.limit d.number && (nat_eq d.number number && clash d c.args.claim.now))
    k.claims))) c.self.view_is clashes

pub returns-clause-none : goal.returns-clause-none
returns-clause-none c =
    let clashes =
    clash_none c.self.inside.claims.items c.self.inside.places.items c.self.inside.longest c.args.claim.now c.args.limit
    c.first_met.result c.self.invariant.0 c.first_met.ensures.none in
    subst (λ (k : Kept). IfNone c.first_met.result
    (IsFalse (list_any (λ d. is_below c.args.limit d.number && clash d c.args.claim.now) k.claims))) c.self.view_is clashes
