use Rattle.std.proofs.Common.{◌≡◌, ◌<◌, ◌-◌, false, List, [], ◌∷◌, ◌++◌, length, sym, ap, subst, ◌∙◌, arith}
use Rattle.std.specs.Prelude.{All, IsTrue}
use Rattle.std.proofs.lemmas.List.Edits.{length-insert}
use Rattle.claim_table.specs.declared.claim.Claim.{Claim}
use Rattle.claim_table.specs.Claims.{Claims, conflicts, is_free}
use Rattle.claim_table.specs.Places.{Kept}
use Rattle.claim_table.specs.Regions.{AreRegionsOf}
use Rattle.claim_table.specs.Steps.{place_by_number, put_by_number}
use Rattle.claim_table.specs.Watched.{IsWatched}
use Rattle.claim_table.proofs.ByNumber.{put_last}
use Rattle.claim_table.proofs.FreePieces.{conflict_blocks}
use Rattle.claim_table.proofs.Indices.{filter_all}
use Rattle.claim_table.proofs.RegionsKept.{regions_start}
use Rattle.claim_table.proofs.TableKept.{Rise, claims_of, place_within, rise_put}
use Rattle.claim_table.proofs.Watched.{watch_deferred, watch_more}
use Rattle.claim_table.proofs.table.ClaimTable.enter.Goals as goal

pub invariant_of-self : goal.invariant_of-self
invariant_of-self c =
    let claim : Claim = record { number = c.args.number; piece = c.args.piece; region = c.args.region } in
    let some = subst (λ (v : Claims). 0 < v.spare) (sym c.self.view_is) c.requires.spare in
    let room = ap (λ (k : Kept). k.room) c.put.ensures in
    let regions =
    regions_start c.self.inside.started.claims c.self.inside.regions.items c.note_region.new.regions.items claim
    (place_by_number c.self.inside.started.claims c.args.number) c.self.invariant.0 c.note_region.ensures.items
    c.note_region.ensures.ascending in (
      subst (λ (k : Kept). AreRegionsOf k.claims c.note_region.new.regions.items) (sym c.put.ensures) regions,
      c.self.invariant.1,
      omega (arith, some, room, c.self.invariant.2, c.self.invariant.3, c.note_region.ensures.length, c.note_region.ensures.capacity),
      omega (arith, some, room, c.self.invariant.3),
      omega (arith, some, c.self.invariant.4),
      c.self.invariant.5,
      λ calm. subst (λ (k : Kept). IsWatched (claims_of k.claims c.self.inside.deferred.claims c.self.inside.closed
          c.self.inside.suspended.items (c.self.inside.spare - 1)) c.self.inside.left.items [] c.self.inside.deferred.claims)
          (sym c.put.ensures)
          (watch_more c.self.inside.started.claims c.self.inside.deferred.claims c.self.inside.closed c.self.inside.suspended.items
          c.self.inside.spare c.self.inside.left.items (c.self.invariant.6 calm)
          (place_by_number c.self.inside.started.claims c.args.number) claim (c.self.inside.spare - 1)),
      c.note_region.ensures.counted,
    )

pub invariant_of-self-in-Some : goal.invariant_of-self-in-Some
invariant_of-self-in-Some c =
    let claim : Claim = record { number = c.args.number; piece = c.args.piece; region = c.args.region } in
    let some = subst (λ (v : Claims). 0 < v.spare) (sym c.self.view_is) c.requires.spare in
    let all = subst (λ (v : Claims). All (λ (d : Claim). d.number < c.args.number) v.deferred) (sym c.self.view_is) c.requires.deferred in
    let room = ap (λ (k : Kept). k.room) c.put-in-Some.ensures in
    let long =
    ap (λ (k : Kept). length k.claims) c.put-in-Some.ensures
    ∙ length-insert c.self.inside.deferred.claims (place_by_number c.self.inside.deferred.claims c.args.number) claim
    (place_within c.self.inside.deferred.claims c.args.number) in (
      c.self.invariant.0,
      subst (λ (k : Kept). Rise k.claims) (sym c.put-in-Some.ensures) (rise_put c.self.inside.deferred.claims claim all c.self.invariant.1),
      c.self.invariant.2,
      omega (arith, some, long, c.self.invariant.3),
      omega (arith, some, room, c.self.invariant.4),
      c.self.invariant.5,
      λ calm.
          let blocked : is_free c.args.self.now c.args.self.now.deferred claim ≡ false =
          conflict_blocks c.args.self.now c.args.self.now.deferred claim c.in-Some.by
          (subst (λ (l : List Claim). IsTrue (conflicts c.args.self.now l claim c.in-Some.by)) (filter_all c.args.self.now.deferred)
          c.in-Some.ensures.some) in
          let last : put_by_number c.self.inside.deferred.claims claim ≡ c.self.inside.deferred.claims ++ claim ∷ [] =
          put_last c.self.inside.deferred.claims claim all in
          subst (λ (k : Kept). IsWatched (claims_of c.self.inside.started.claims k.claims c.self.inside.closed
          c.self.inside.suspended.items (c.self.inside.spare - 1)) c.self.inside.left.items [] k.claims) (sym c.put-in-Some.ensures)
          (subst (λ (l : List Claim). IsWatched (claims_of c.self.inside.started.claims l c.self.inside.closed
          c.self.inside.suspended.items (c.self.inside.spare - 1)) c.self.inside.left.items [] l) (sym last)
          (watch_deferred c.self.inside.started.claims c.self.inside.deferred.claims c.self.inside.closed c.self.inside.suspended.items
          c.self.inside.spare c.self.inside.left.items (c.self.invariant.6 calm) claim (c.self.inside.spare - 1)
          (subst (λ (v : Claims). is_free v v.deferred claim ≡ false) (sym c.self.view_is) blocked))),
      c.self.invariant.7,
    )

pub returns-in-None-clause-answer : goal.returns-in-None-clause-answer
returns-in-None-clause-answer c =
    subst (λ (l : List Claim). IsTrue (is_free c.args.self.now l
    (record { number = c.args.number; piece = c.args.piece; region = c.args.region }))) (filter_all c.args.self.now.deferred)
    c.in-None.ensures.none

pub returns-in-None-clause-after : goal.returns-in-None-clause-after
returns-in-None-clause-after c =
    let claim : Claim = record { number = c.args.number; piece = c.args.piece; region = c.args.region } in
    let all = subst (λ (v : Claims). All (λ (d : Claim). d.number < c.args.number) v.started) (sym c.self.view_is) c.requires.started in
    ap (λ (k : Kept). claims_of k.claims c.self.inside.deferred.claims c.self.inside.closed c.self.inside.suspended.items
    (c.self.inside.spare - 1)) c.put.ensures
    ∙ ap (λ (l : List Claim). claims_of l c.self.inside.deferred.claims c.self.inside.closed c.self.inside.suspended.items
    (c.self.inside.spare - 1)) (put_last c.self.inside.started.claims claim all)
    ∙ ap (λ (v : Claims). claims_of (v.started ++ claim ∷ []) v.deferred v.closed v.suspended (v.spare - 1)) c.self.view_is

pub returns-in-Some-clause-answer : goal.returns-in-Some-clause-answer
returns-in-Some-clause-answer c =
    subst (λ (l : List Claim). IsTrue (conflicts c.args.self.now l
    (record { number = c.args.number; piece = c.args.piece; region = c.args.region }) c.in-Some.by))
    (filter_all c.args.self.now.deferred) c.in-Some.ensures.some

pub returns-in-Some-clause-after : goal.returns-in-Some-clause-after
returns-in-Some-clause-after c =
    let claim : Claim = record { number = c.args.number; piece = c.args.piece; region = c.args.region } in
    let all = subst (λ (v : Claims). All (λ (d : Claim). d.number < c.args.number) v.deferred) (sym c.self.view_is) c.requires.deferred in
    ap (λ (k : Kept). claims_of c.self.inside.started.claims k.claims c.self.inside.closed c.self.inside.suspended.items
    (c.self.inside.spare - 1)) c.put-in-Some.ensures
    ∙ ap (λ (l : List Claim). claims_of c.self.inside.started.claims l c.self.inside.closed c.self.inside.suspended.items
    (c.self.inside.spare - 1)) (put_last c.self.inside.deferred.claims claim all)
    ∙ ap (λ (v : Claims). claims_of v.started (v.deferred ++ claim ∷ []) v.closed v.suspended (v.spare - 1)) c.self.view_is
