use Rattle.std.proofs.Common.{◌<◌, ◌∷◌, sym, subst, arith}
use Rattle.std.specs.List.Sorted.{IsPermutation}
use Rattle.std.proofs.lemmas.List.Edits.{length-insert}
use Rattle.claim_table.specs.declared.placed.Placed.{Placed}
use Rattle.claim_table.specs.Places.{Kept}
use Rattle.claim_table.proofs.Indexed.{indexed_put}
use Rattle.claim_table.proofs.pieces.Pieces.put.Goals as goal

pub invariant_of-self : goal.invariant_of-self
invariant_of-self c =
    let some = subst (λ (k : Kept). 0 < k.room) (sym c.self.view_is) c.requires in
    let moved =
    subst (λ (e : Placed). IsPermutation (e ∷ c.self.inside.places.items) c.put_in.new.kept.items) c.claim_place.ensures
    c.put_in.ensures.items in (
      rw (c.in-Ok.ensures.items, c.max-self-inside.ensures)
          (indexed_put c.self.inside.claims.items c.self.inside.places.items c.put_in.new.kept.items c.self.inside.longest c.args.claim
          c.first_from-at.result c.self.invariant.0 c.first_from-at.ensures.within c.first_from-at.ensures.parts moved c.put_in.ensures.ascending),
      omega (arith, some, c.self.invariant.1, c.in-Ok.ensures.len, c.in-Ok.ensures.capacity),
      omega (arith, some, c.self.invariant.2, c.put_in.ensures.length, c.put_in.ensures.capacity),
      rw c.in-Ok.ensures.items (omega (arith, length-insert c.self.inside.claims.items c.first_from-at.result c.args.claim, c.in-Ok.ensures.len, c.self.invariant.3)),
      c.put_in.ensures.counted,
    )
