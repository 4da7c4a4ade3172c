use Rattle.std.proofs.Common.{◌≡◌, ◌<◌, ◌+◌, ◌^◌, ℕ, max, Option, SomeIff, List, [], length, sym, ap, subst, arith}
use Rattle.claim_table.specs.declared.claim.Claim.{Claim}
use Rattle.claim_table.specs.Places.{Kept}
use Rattle.claim_table.specs.Regions.{AreRegionsOf}
use Rattle.claim_table.specs.Watched.{IsWatched}
use Rattle.claim_table.proofs.TableKept.{Rise, claims_of}
use Rattle.claim_table.proofs.Watched.{watch_spare}
use Rattle.claim_table.proofs.table.ClaimTable.reserve.Goals as goal

pub invariant_of-self-2 : goal.invariant_of-self-2
invariant_of-self-2 c =
    let started = c.in_ok-reserve-2.ensures.ok in
    let deferred = c.in_ok-reserve-3.ensures.ok in
    let long : length c.reserve-3.new.self.claims ≡ length c.self.inside.deferred.claims = ap (λ (k : Kept). length k.claims) deferred in
    let room : c.reserve-2.new.self.room ≡ max c.in_ok-room.room c.self.inside.started.room = ap (λ (k : Kept). k.room) started in
    let left : c.reserve-3.new.self.room ≡ max c.max-spare.result c.self.inside.deferred.room = ap (λ (k : Kept). k.room) deferred in
    let sum = subst (λ (o : Option ℕ). SomeIff o (c.len.result + c.max-spare.result < 2 ^ 64) (c.len.result + c.max-spare.result))
    c.in_ok-room.ensures.ok_part c.checked_add-room.ensures in (
      subst (λ (k : Kept). AreRegionsOf k.claims c.reserve.new.self.items) (sym started)
          (subst (λ (l : List ℕ). AreRegionsOf c.self.inside.started.claims l) (sym c.reserve.ensures.items) c.self.invariant.0),
      subst (λ (k : Kept). Rise k.claims) (sym deferred) c.self.invariant.1,
      omega (arith, room, sum.1, c.self.invariant.2, c.in_ok-reserve.ensures.ok, c.reserve.ensures.len, c.reserve.ensures.capacity),
      omega (arith, room, sum.1, long, c.len.ensures),
      omega (arith, left),
      c.self.invariant.5,
      λ calm. subst (λ (k : Kept). IsWatched (claims_of k.claims c.reserve-3.new.self.claims c.self.inside.closed
          c.self.inside.suspended.items c.max-spare.result) c.reserve-4.new.self.items [] c.reserve-3.new.self.claims) (sym started)
          (subst (λ (k : Kept). IsWatched (claims_of c.self.inside.started.claims k.claims c.self.inside.closed
          c.self.inside.suspended.items c.max-spare.result) c.reserve-4.new.self.items [] k.claims) (sym deferred)
          (subst (λ (l : List Claim). IsWatched (claims_of c.self.inside.started.claims c.self.inside.deferred.claims c.self.inside.closed
          c.self.inside.suspended.items c.max-spare.result) l [] c.self.inside.deferred.claims) (sym c.reserve-4.ensures.items)
          (watch_spare c.self.inside.started.claims c.self.inside.deferred.claims c.self.inside.closed c.self.inside.suspended.items
          c.self.inside.spare c.self.inside.left.items (c.self.invariant.6 calm) c.max-spare.result))),
      rw c.reserve.ensures.items (omega (arith, c.reserve.ensures.len, c.self.invariant.7)),
    )
