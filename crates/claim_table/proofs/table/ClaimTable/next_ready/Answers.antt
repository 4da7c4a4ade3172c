use Rattle.std.proofs.Common.{◌≡◌, ◌<◌, ℕ, List, [], length, get_or, sym, ap, subst, ◌∙◌, arith}
use Rattle.std.specs.Prelude.{Some, slice_get}
use Rattle.std.specs.Option.{option_map}
use Rattle.std.proofs.lemmas.List.{get_or_default}
use Rattle.std.proofs.lemmas.List.Edits.{length-remove}
use Rattle.std.proofs.lemmas.List.Quantifiers.{all_pairs_remove}
use Rattle.claim_table.specs.declared.claim.Claim.{Claim}
use Rattle.claim_table.specs.Claims.{Claims, ready_at}
use Rattle.claim_table.specs.Places.{Kept}
use Rattle.claim_table.specs.Regions.{AreRegionsOf}
use Rattle.claim_table.specs.Steps.{no_claim, place_by_number, put_by_number}
use Rattle.claim_table.specs.Watched.{IsWatched}
use Rattle.claim_table.proofs.FreePieces.{ready_some}
use Rattle.claim_table.proofs.RegionsKept.{regions_start}
use Rattle.claim_table.proofs.TableKept.{Rise, claims_of}
use Rattle.claim_table.proofs.Watched.{none_ready, watch_started}
use Rattle.claim_table.proofs.table.ClaimTable.next_ready.Goals as goal

pub invariant_of-self : goal.invariant_of-self
invariant_of-self c =
    let now : Claims = claims_of c.self.inside.started.claims c.self.inside.deferred.claims c.self.inside.closed
    c.self.inside.suspended.items c.self.inside.spare in
    let none : ready_at now ≡ length c.self.inside.deferred.claims =
    ap (λ (v : Claims). ready_at v) c.self.view_is ∙ sym c.first_ready-at.ensures.place ∙ c.if-at-len.true ∙ c.len.ensures in (
      c.self.invariant.0,
      c.self.invariant.1,
      c.self.invariant.2,
      c.self.invariant.3,
      c.self.invariant.4,
      c.self.invariant.5,
      λ calm. subst (λ (l : List Claim). IsWatched now l [] c.self.inside.deferred.claims) (sym c.clear.ensures.items)
          (none_ready now [] c.self.inside.deferred.claims none),
      c.self.invariant.7,
    )

pub invariant_of-self-2 : goal.invariant_of-self-2
invariant_of-self-2 c =
    let same = ap (λ (v : Claims). length v.deferred) c.self.view_is in
    let within : c.first_ready-at.result < length c.self.inside.deferred.claims =
    omega (arith, same, c.len.ensures, c.if-at-len.false, c.first_ready-at.ensures.within) in
    let room = ap (λ (k : Kept). k.room) c.put.ensures in
    let left = ap (λ (k : Kept). k.room) c.take-claim.ensures.after in
    let long = ap (λ (k : Kept). length k.claims) c.take-claim.ensures.after in
    let less = length-remove c.self.inside.deferred.claims c.first_ready-at.result within in
    let regions =
    regions_start c.self.inside.started.claims c.self.inside.regions.items c.note_region.new.regions.items c.take-claim.result
    (place_by_number c.self.inside.started.claims c.take-claim.result.number) c.self.invariant.0 c.note_region.ensures.items
    c.note_region.ensures.ascending in (
      subst (λ (k : Kept). AreRegionsOf k.claims c.note_region.new.regions.items) (sym c.put.ensures) regions,
      subst (λ (k : Kept). Rise k.claims) (sym c.take-claim.ensures.after)
          (all_pairs_remove (λ (a b : Claim). a.number < b.number) c.self.inside.deferred.claims c.first_ready-at.result within
          c.self.invariant.1),
      omega (arith, room, within, c.self.invariant.2, c.self.invariant.3, c.note_region.ensures.length, c.note_region.ensures.capacity),
      omega (arith, room, within, long, less, c.self.invariant.3),
      omega (arith, left, c.self.invariant.4),
      c.self.invariant.5,
      λ calm.
          let x : Claim = c.take-claim.result in
          let here : x ≡ get_or c.self.inside.deferred.claims c.first_ready-at.result x =
          c.take-claim.ensures.claim ∙ get_or_default c.self.inside.deferred.claims c.first_ready-at.result no_claim x within in
          subst (λ (k : Kept). IsWatched (claims_of k.claims c.take-claim.new.self.claims c.self.inside.closed
          c.self.inside.suspended.items c.self.inside.spare) c.self.inside.left.items [] c.take-claim.new.self.claims) (sym c.put.ensures)
          (subst (λ (k : Kept). IsWatched (claims_of (put_by_number c.self.inside.started.claims x) k.claims c.self.inside.closed
          c.self.inside.suspended.items c.self.inside.spare) c.self.inside.left.items [] k.claims) (sym c.take-claim.ensures.after)
          (watch_started c.self.inside.started.claims c.self.inside.deferred.claims c.self.inside.closed c.self.inside.suspended.items
          c.self.inside.spare c.self.inside.left.items (c.self.invariant.6 calm) c.first_ready-at.result
          (place_by_number c.self.inside.started.claims x.number) x within (sym here))),
      c.note_region.ensures.counted,
    )

pub returns-clause-number : goal.returns-clause-number
returns-clause-number c =
    let same = ap (λ (v : Claims). length v.deferred) c.self.view_is in
    let within : c.first_ready-at.result < length c.args.self.now.deferred =
    omega (arith, same, c.len.ensures, c.if-at-len.false, c.first_ready-at.ensures.within) in
    let item = c.take-claim.ensures.claim ∙ ap (λ (v : Claims). get_or v.deferred c.first_ready-at.result no_claim) c.self.view_is in
    subst (λ (n : ℕ). Some c.take-claim.result.number ≡ option_map (λ (d : Claim). d.number) (slice_get c.args.self.now.deferred n))
    c.first_ready-at.ensures.place
    (sym (ready_some c.args.self.now.deferred c.first_ready-at.result c.take-claim.result within item))
