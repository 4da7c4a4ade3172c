use Rattle.std.proofs.Common.{ℕ, List, [], sym, subst, arith}
use Rattle.claim_table.specs.Watched.{IsWatched}
use Rattle.claim_table.proofs.TableKept.{claims_of}
use Rattle.claim_table.proofs.Watched.{watch_suspended}
use Rattle.claim_table.proofs.table.ClaimTable.suspend.Goals as goal

pub invariant_of-self : goal.invariant_of-self
invariant_of-self c = (
  c.self.invariant.0,
  c.self.invariant.1,
  c.self.invariant.2,
  c.self.invariant.3,
  c.self.invariant.4,
  omega (arith, c.self.invariant.5, c.push_reserved.ensures.capacity),
  λ calm. subst (λ (l : List ℕ). IsWatched (claims_of c.self.inside.started.claims c.self.inside.deferred.claims c.self.inside.closed l
      c.self.inside.spare) c.self.inside.left.items [] c.self.inside.deferred.claims) (sym c.push_reserved.ensures.items)
      (watch_suspended c.self.inside.started.claims c.self.inside.deferred.claims c.self.inside.closed c.self.inside.suspended.items
      c.self.inside.spare c.self.inside.left.items (c.self.invariant.6 calm) c.args.volume),
  c.self.invariant.7,
)
