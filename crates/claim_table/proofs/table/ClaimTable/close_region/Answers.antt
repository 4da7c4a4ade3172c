use Rattle.std.proofs.Common.{◌≡◌, ℕ, None, Option, [], subst, ap, ◌∙◌}
use Rattle.claim_table.specs.Claims.{Claims}
use Rattle.claim_table.specs.Watched.{IsWatched}
use Rattle.claim_table.proofs.TableKept.{claims_of}
use Rattle.claim_table.proofs.Watched.{watch_closed}
use Rattle.claim_table.proofs.table.ClaimTable.close_region.Goals as goal

pub invariant_of-self : goal.invariant_of-self
invariant_of-self c =
    let none : c.self.inside.closed ≡ None = ap (λ (v : Claims). v.closed) c.self.view_is ∙ c.requires in (
      c.self.invariant.0,
      c.self.invariant.1,
      c.self.invariant.2,
      c.self.invariant.3,
      c.self.invariant.4,
      c.self.invariant.5,
      λ calm. watch_closed c.self.inside.started.claims c.self.inside.deferred.claims c.self.inside.suspended.items c.self.inside.spare
          c.args.region c.self.inside.left.items
          (subst (λ (o : Option ℕ). IsWatched (claims_of c.self.inside.started.claims c.self.inside.deferred.claims o
          c.self.inside.suspended.items c.self.inside.spare) c.self.inside.left.items [] c.self.inside.deferred.claims) none
          (c.self.invariant.6 calm)),
      c.self.invariant.7,
    )
