use Rattle.std.proofs.Common.{◌<◌, length, set, sym, subst, arith}
use Rattle.std.proofs.lemmas.List.{length-set}
use Rattle.claim_table.specs.declared.claim.Claim.{Claim}
use Rattle.claim_table.specs.Places.{IsIndexed, Kept}
use Rattle.claim_table.proofs.Indexed.{indexed_region}
use Rattle.claim_table.proofs.pieces.Pieces.set_region.Goals as goal

pub invariant_of-self : goal.invariant_of-self
invariant_of-self c =
    let within = subst (λ (k : Kept). c.args.at < length k.claims) (sym c.self.view_is) c.requires in
    let indexed =
    indexed_region c.self.inside.claims.items c.self.inside.places.items c.self.inside.longest c.args.at c.args.region _ within
    c.self.invariant.0 in (
      subst (λ (x : Claim). IsIndexed (set c.self.inside.claims.items c.args.at (record x { region = c.args.region }))
          c.self.inside.places.items c.self.inside.longest) (sym c.index_mut.ensures.value) indexed,
      c.self.invariant.1,
      c.self.invariant.2,
      omega (
        arith,
        length-set c.self.inside.claims.items c.args.at (record c.index_mut.result.now { region = c.args.region }),
        c.self.invariant.3,
      ),
      c.self.invariant.4,
    )
