use Rattle.std.proofs.Common.{◌<◌, ◌∷◌, length, sym, subst, arith}
use Rattle.std.specs.Prelude.{Contains}
use Rattle.std.specs.List.Sorted.{IsPermutation}
use Rattle.claim_table.specs.declared.placed.Placed.{Placed}
use Rattle.claim_table.specs.Places.{Kept}
use Rattle.claim_table.proofs.Indexed.{has_place, indexed_take}
use Rattle.claim_table.proofs.pieces.Pieces.take.Goals as goal

pub take_out-requires-clause-there : goal.take_out-requires-clause-there
take_out-requires-clause-there c =
    let within = subst (λ (k : Kept). c.args.at < length k.claims) (sym c.self.view_is) c.requires in
    subst (λ (e : Placed). Contains c.self.inside.places.items e) (sym c.claim_place.ensures)
    (has_place c.self.inside.claims.items c.self.inside.places.items c.self.inside.longest c.take_at-claim.result c.args.at
    c.self.invariant.0 within (c.take_at-claim.ensures.value c.take_at-claim.result))

pub invariant_of-self : goal.invariant_of-self
invariant_of-self c =
    let within = subst (λ (k : Kept). c.args.at < length k.claims) (sym c.self.view_is) c.requires in
    let moved =
    subst (λ (e : Placed). IsPermutation c.self.inside.places.items (e ∷ c.take_out.new.kept.items)) c.claim_place.ensures
    c.take_out.ensures.items in (
      rw c.take_at-claim.ensures.items (indexed_take c.self.inside.claims.items c.self.inside.places.items c.take_out.new.kept.items
          c.self.inside.longest c.take_at-claim.result c.args.at c.self.invariant.0 within (c.take_at-claim.ensures.value c.take_at-claim.result) moved
          c.take_out.ensures.ascending),
      omega (arith, c.self.invariant.1, c.take_at-claim.ensures.length, c.take_at-claim.ensures.capacity),
      omega (arith, c.self.invariant.2, c.take_out.ensures.length, c.take_out.ensures.capacity),
      c.take_at-claim.ensures.counted,
      c.take_out.ensures.counted,
    )
