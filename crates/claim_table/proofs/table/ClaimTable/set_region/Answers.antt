use Rattle.std.proofs.Common.{length, sym, ap, subst, ◌∙◌, arith, true≢false}
use Rattle.std.proofs.lemmas.List.{length-set}
use Rattle.claim_table.specs.Places.{Kept}
use Rattle.claim_table.specs.Steps.{no_claim}
use Rattle.claim_table.proofs.TableKept.{Rise, rise_region}
use Rattle.claim_table.proofs.table.ClaimTable.set_region.Goals as goal

pub invariant_of-self : goal.invariant_of-self
invariant_of-self c =
    let room = ap (λ (k : Kept). k.room) c.set_region.ensures in
    let long =
    ap (λ (k : Kept). length k.claims) c.set_region.ensures ∙ length-set c.self.inside.deferred.claims c.place_of-at.result _ in (
      c.self.invariant.0,
      subst (λ (k : Kept). Rise k.claims) (sym c.set_region.ensures)
          (rise_region c.self.inside.deferred.claims c.place_of-at.result c.args.region no_claim c.place_of-at.ensures.within
          c.self.invariant.1),
      c.self.invariant.2,
      omega (arith, long, c.self.invariant.3),
      omega (arith, room, c.self.invariant.4),
      c.self.invariant.5,
      λ calm. absurd (true≢false calm),
      c.self.invariant.7,
    )
