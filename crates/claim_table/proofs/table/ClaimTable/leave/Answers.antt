use Rattle.std.proofs.Common.{◌≡◌, ◌<◌, ◌||◌, true, List, [], ◌∷◌, ◌++◌, get_or, length, sym, ap, subst, ◌∙◌, arith}
use Rattle.std.specs.List.{list_any}
use Rattle.std.proofs.lemmas.List.{get_or_default}
use Rattle.std.proofs.lemmas.List.Edits.{length-remove}
use Rattle.std.proofs.lemmas.List.Quantifiers.{all_pairs_remove}
use Rattle.claim_table.specs.declared.claim.Claim.{Claim}
use Rattle.claim_table.specs.Claims.{Claims}
use Rattle.claim_table.specs.Places.{Kept}
use Rattle.claim_table.specs.Regions.{AreRegionsOf}
use Rattle.claim_table.specs.Steps.{after_leave, has_number, no_claim}
use Rattle.claim_table.specs.Watched.{IsWatched}
use Rattle.claim_table.proofs.ByNumber.{found_any, is_deferred, leave_deferred, leave_started}
use Rattle.claim_table.proofs.RegionsKept.{has_region_of, regions_leave}
use Rattle.claim_table.proofs.TableKept.{Rise, claims_of}
use Rattle.claim_table.proofs.Watched.{watch_gone, watch_left}
use Rattle.claim_table.proofs.table.ClaimTable.leave.Goals as goal

pub forget_region-requires-clause-there : goal.forget_region-requires-clause-there
forget_region-requires-clause-there c r is =
    let within = (found_any c.self.inside.started.claims c.args.number c.in-Some.at (sym c.in-Some.ensures)).2 in
    has_region_of c.self.inside.started.claims c.self.inside.regions.items c.take-claim.result c.in-Some.at r c.self.invariant.0 within
    (c.take-claim.ensures.claim ∙ get_or_default c.self.inside.started.claims c.in-Some.at no_claim c.take-claim.result within) is

pub invariant_of-self : goal.invariant_of-self
invariant_of-self c =
    let within = (found_any c.self.inside.started.claims c.args.number c.in-Some.at (sym c.in-Some.ensures)).2 in
    let here = c.take-claim.ensures.claim ∙ get_or_default c.self.inside.started.claims c.in-Some.at no_claim c.take-claim.result within in
    let regions =
    regions_leave c.self.inside.started.claims c.self.inside.regions.items c.forget_region.new.regions.items c.take-claim.result
    c.in-Some.at c.self.invariant.0 within here c.forget_region.ensures.items c.forget_region.ensures.ascending in
    let room = ap (λ (k : Kept). k.room) c.take-claim.ensures.after in (
      subst (λ (k : Kept). AreRegionsOf k.claims c.forget_region.new.regions.items) (sym c.take-claim.ensures.after) regions,
      c.self.invariant.1,
      omega (arith, room, c.self.invariant.2, c.forget_region.ensures.length, c.forget_region.ensures.capacity),
      omega (arith, room, c.self.invariant.3),
      c.self.invariant.4,
      c.self.invariant.5,
      λ calm.
          let note = c.note_left.ensures calm in
          subst (λ (l : List Claim). IsWatched (claims_of c.take-claim.new.self.claims c.self.inside.deferred.claims c.self.inside.closed
          c.self.inside.suspended.items c.self.inside.spare) l [] c.self.inside.deferred.claims) (sym note.1)
          (subst (λ (k : Kept). IsWatched (claims_of k.claims c.self.inside.deferred.claims c.self.inside.closed
          c.self.inside.suspended.items c.self.inside.spare) (c.self.inside.left.items ++ c.take-claim.result ∷ [])
          [] c.self.inside.deferred.claims) (sym c.take-claim.ensures.after)
          (watch_left c.self.inside.started.claims c.self.inside.deferred.claims c.self.inside.closed c.self.inside.suspended.items
          c.self.inside.spare c.self.inside.left.items (c.self.invariant.6 note.0) c.in-Some.at c.take-claim.result (sym here))),
      c.forget_region.ensures.counted,
    )

pub place_of-at-requires : goal.place_of-at-requires
place_of-at-requires c =
    is_deferred (claims_of c.self.inside.started.claims c.self.inside.deferred.claims c.self.inside.closed c.self.inside.suspended.items
    c.self.inside.spare) c.args.number
    (subst (λ (v : Claims). (list_any (has_number c.args.number) v.started || list_any (has_number c.args.number) v.deferred) ≡ true)
    (sym c.self.view_is) c.requires) (sym c.in-None.ensures)

pub invariant_of-self-in-None : goal.invariant_of-self-in-None
invariant_of-self-in-None c =
    let room = ap (λ (k : Kept). k.room) c.take-claim-in-None.ensures.after in
    let long = ap (λ (k : Kept). length k.claims) c.take-claim-in-None.ensures.after in
    let less = length-remove c.self.inside.deferred.claims c.place_of-at.result c.place_of-at.ensures.within in (
      c.self.invariant.0,
      subst (λ (k : Kept). Rise k.claims) (sym c.take-claim-in-None.ensures.after)
          (all_pairs_remove (λ (a b : Claim). a.number < b.number) c.self.inside.deferred.claims c.place_of-at.result
          c.place_of-at.ensures.within c.self.invariant.1),
      c.self.invariant.2,
      omega (arith, long, less, c.self.invariant.3),
      omega (arith, room, c.self.invariant.4),
      c.self.invariant.5,
      λ calm.
          let note = c.note_left-in-None.ensures calm in
          let x : Claim = c.take-claim-in-None.result in
          let here : x ≡ get_or c.self.inside.deferred.claims c.place_of-at.result x =
          c.take-claim-in-None.ensures.claim
          ∙ get_or_default c.self.inside.deferred.claims c.place_of-at.result no_claim x c.place_of-at.ensures.within in
          subst (λ (l : List Claim). IsWatched (claims_of c.self.inside.started.claims c.take-claim-in-None.new.self.claims
          c.self.inside.closed c.self.inside.suspended.items c.self.inside.spare) l [] c.take-claim-in-None.new.self.claims) (sym note.1)
          (subst (λ (k : Kept). IsWatched (claims_of c.self.inside.started.claims k.claims c.self.inside.closed
          c.self.inside.suspended.items c.self.inside.spare) (c.self.inside.left.items ++ x ∷ []) [] k.claims)
          (sym c.take-claim-in-None.ensures.after)
          (watch_gone c.self.inside.started.claims c.self.inside.deferred.claims c.self.inside.closed c.self.inside.suspended.items
          c.self.inside.spare c.self.inside.left.items (c.self.invariant.6 note.0) c.place_of-at.result x c.place_of-at.ensures.within
          (sym here))),
      c.self.invariant.7,
    )

pub returns-in-Some : goal.returns-in-Some
returns-in-Some c =
    ap (λ (k : Kept). claims_of k.claims c.self.inside.deferred.claims c.self.inside.closed c.self.inside.suspended.items
    c.self.inside.spare) c.take-claim.ensures.after
    ∙ leave_started (claims_of c.self.inside.started.claims c.self.inside.deferred.claims c.self.inside.closed c.self.inside.suspended.items
    c.self.inside.spare) c.args.number c.in-Some.at (sym c.in-Some.ensures)
    ∙ ap (λ (v : Claims). after_leave v c.args.number) c.self.view_is

pub returns-in-None : goal.returns-in-None
returns-in-None c =
    ap (λ (k : Kept). claims_of c.self.inside.started.claims k.claims c.self.inside.closed c.self.inside.suspended.items
    c.self.inside.spare) c.take-claim-in-None.ensures.after
    ∙ leave_deferred (claims_of c.self.inside.started.claims c.self.inside.deferred.claims c.self.inside.closed
    c.self.inside.suspended.items c.self.inside.spare) c.args.number c.place_of-at.result (sym c.in-None.ensures)
    c.place_of-at.ensures.place
    ∙ ap (λ (v : Claims). after_leave v c.args.number) c.self.view_is
