-- Acts that tell and enter nothing keep what is tracked.
use Rattle.std.proofs.Common.{◌≡◌, ◌<◌, ℕ, Bool, true, false, nat_eq, List, Contains, Option, None, Some, refl, sym, ap, subst, ◌∙◌, arith}
use Rattle.std.proofs.Common.{cond, slice_get}
use Rattle.std.specs.Option.{option_map_or}
use Rattle.std.proofs.lemmas.Bool.{eqb-true}
use Rattle.sector_base.specs.declared.places.Piece.{Piece}
use Rattle.line_answers.specs.declared.answer.Answer.{Answer}
use Rattle.disk_model.specs.State.{State}
use Rattle.disk_model.specs.Steps.{Record}
use Rattle.claim_table.specs.declared.claim.Entry.{Entry}
use Rattle.flush_plan.specs.Plans.{Plan}
use Rattle.flush_plan.specs.Steps.{after_forgot}
use Rattle.flush_waits.specs.declared.ticket.Waiter.{Waiter}
use Rattle.flush_waits.specs.declared.ticket.Waiter.TheVariants as waiter
use Rattle.flush_waits.specs.declared.ticket.Waiting.{Waiting}
use Rattle.flush_waits.specs.Waits.{disk_waits}
use Rattle.piece_table.specs.declared.live.LivePiece.{LivePiece}
use Rattle.piece_table.specs.declared.live.Owner.{Owner}
use Rattle.piece_table.specs.declared.live.Stage.TheVariants.{Started, Taken, Waiting as Unsubmitted}
use Rattle.piece_table.specs.Pieces.{flying_in, flying_of, live_at}
use Rattle.volume_history.specs.Chronicles.{ChronicleEntry, Origin}
use Rattle.volume_history.specs.Placed.{Place, volumes_of}
use Rattle.world_acts.specs.declared.state.Core.{Core}
use Rattle.world_acts.specs.Acts.{Allowed, Awaits, Enters, Grows, Holds, LineFails, Marks, Readies, Releases, Starts, Wakes, World, after}
use Rattle.world_acts.specs.Acts.{core_released, released_at}
use Rattle.world_acts.specs.Counts.{awaited_at, is_piece}
use Rattle.world_acts.specs.Orderly.{AreOwned, IsOrderly}
use Rattle.world_acts.specs.Steps.{after_released, grown}
use Rattle.world_acts.proofs.Known.{owner_flies}
use Rattle.world_acts.proofs.LinesKept.{hit}
use Rattle.world_acts.proofs.PiecesKept.{awaiting_taken}
use Rattle.world_acts.proofs.Releasing.{FirstGone, first_gone}
use Rattle.world_acts.proofs.Tables.{Changes, appended, other_at, removed}
use Rattle.world_history.specs.Contents.{origin_with}
use Rattle.world_history.specs.Shown.{IsSoFar, places_keyed}
use Rattle.world_places.specs.Changes.{IsTold}
use Rattle.world_places.specs.Lives.{Written}
use Rattle.world_places.specs.Tracked.{Scene, Tracked}
use Rattle.world_tracks.specs.Lives.{lives_in, scene_of}
use Rattle.world_tracks.specs.Tracks.{AreTracked, PlaceLaws}
use Rattle.world_tracks.proofs.ActWaits.{first_is, next_free, startable, stage_change}
use Rattle.world_tracks.proofs.LivesLess.{owner_of}
use Rattle.world_tracks.proofs.LivesStay.{AreSeen, HaveLines, lives_same, seen_of}
use Rattle.world_tracks.proofs.QuietWaits.{of_piece}
use Rattle.world_tracks.proofs.SpareTracked.{tracked_spare}

-- ---- scenes

-- the history is within what was told
pub scene_told : (o : Origin) (told : Record) (c : Core) (es : List ChronicleEntry) (notes : List Written)
    → IsSoFar (origin_with o told) es
    → IsTold (scene_of (origin_with o told) c es notes)
scene_told o told c es notes s = record { first = s.first; upto = s.upto }

-- the same pieces are in flight
pub lives_kept : (c d : Core) → d.volumes ≡ c.volumes → d.pieces.owners ≡ c.pieces.owners → AreSeen c d c.pieces.owners
    → HaveLines c d c.pieces.owners
    → lives_in d d.pieces.owners ≡ lives_in c c.pieces.owners
lives_kept c d volumes owners seen lines =
    ap (λ (os : List (ℕ × Owner)). lives_in d os) owners ∙ lives_same c d c.pieces.owners volumes seen lines

-- so what is tracked with another plan is tracked in a core that has it
pub tracked_planned : (o : Origin) (told : Record) (c d : Core) (es : List ChronicleEntry) (notes : List Written) (plan : Plan)
    → lives_in d d.pieces.owners ≡ lives_in c c.pieces.owners
    → d.waits.plan ≡ plan
    → ((key x : ℕ) (p : Place) → slice_get (places_keyed (volumes_of o.version) key) x ≡ Some p
    → Tracked (record (scene_of (origin_with o told) c es notes) { plan = plan }) key x p)
    → AreTracked o told d es notes
tracked_planned o told c d es notes plan lives is t key x p at =
    subst (λ (g : Scene). Tracked g key x p) (sym same) (t key x p at)
  where
    same : scene_of (origin_with o told) d es notes ≡ record (scene_of (origin_with o told) c es notes) { plan = plan }
    same =
        λ i. record {
          origin = origin_with o told;
          entries = es;
          lives = lives i;
          written = notes;
          plan = is i;
        }

pub tracked_same : (o : Origin) (told : Record) (c d : Core) (es : List ChronicleEntry) (notes : List Written) → d.volumes ≡ c.volumes
    → d.pieces.owners ≡ c.pieces.owners
    → d.waits.plan ≡ c.waits.plan
    → AreSeen c d c.pieces.owners
    → HaveLines c d c.pieces.owners
    → AreTracked o told c es notes
    → AreTracked o told d es notes
tracked_same o told c d es notes volumes owners plan seen lines t =
    tracked_planned o told c d es notes c.waits.plan (lives_kept c d volumes owners seen lines) plan t

-- ---- pieces that change

-- none of which an operation is in flight is an owner's
pub none_owns : {lives : List (ℕ × LivePiece)} {owners : List (ℕ × Owner)} (number : ℕ) → AreOwned lives owners
    → flying_in lives number ≡ 0
    → (tag : ℕ) (owner : Owner) → Contains owners (tag, owner)
    → number ≡ owner.piece
    → ⊥
none_owns {lives} {owners} number owned none tag owner has is =
    let flies : 0 < flying_in lives owner.piece = owner_flies tag owner owned (owner_of owners tag owner owned.single has) in
    let same : flying_in lives number ≡ flying_in lives owner.piece = ap (λ (n : ℕ). flying_in lives n) is in
    omega (arith, flies, same, none)

-- a piece changes, and is seen the same, or isn't an owner's
pub seen_changed : (c d : Core) (owners : List (ℕ × Owner)) {number : ℕ} {old new : Option LivePiece}
    → Changes number old new c.pieces.lives d.pieces.lives
    → ((tag : ℕ) (owner : Owner) → Contains owners (tag, owner) → number ≡ owner.piece → seen_of new ≡ seen_of old)
    → AreSeen c d owners
seen_changed c d owners {number} {old} {new} change same tag owner owned = by (nat_eq number owner.piece) refl
  where
    by : (b : Bool) → nat_eq number owner.piece ≡ b
        → seen_of (live_at d.pieces.lives owner.piece) ≡ seen_of (live_at c.pieces.lives owner.piece)
    by true its =
        let e : number ≡ owner.piece = eqb-true number owner.piece its in
        ap seen_of (change.found owner.piece
        ∙ ap (λ (b : Bool). cond b new (live_at c.pieces.lives owner.piece)) its)
        ∙ same tag owner owned e ∙ ap seen_of (sym change.was ∙ ap (λ (n : ℕ). live_at c.pieces.lives n) e)
    by false other = ap seen_of (other_at change owner.piece other)

-- lines that were begun are the same
pub lines_same : (c d : Core) (owners : List (ℕ × Owner)) → d.lines.begun ≡ c.lines.begun → HaveLines c d owners
lines_same c d owners same tag owner l owned at = ap (λ ls. slice_get ls l.line) same

-- ---- acts

module _ (b : Origin) (told : Record) (w : World) (es : List ChronicleEntry) (notes : List Written)
    (t : AreTracked b told w.core es notes) where
  -- acts that leave pieces and plan alone
  pub awaits_tracked : (line pv : ℕ) → AreTracked b told (after w (Awaits line pv)).core es notes
  awaits_tracked line pv =
      tracked_same b told w.core (after w (Awaits line pv)).core es notes refl refl refl (λ tag owner owned. refl)
      (λ tag owner l owned at. refl) t

  pub line_fails_tracked : (line : ℕ) (why : Answer) → AreTracked b told (after w (LineFails line why)).core es notes
  line_fails_tracked line why =
      tracked_same b told w.core (after w (LineFails line why)).core es notes refl refl refl (λ tag owner owned. refl)
      (λ tag owner l owned at. refl) t

  pub holds_tracked : (line : ℕ) → AreTracked b told (after w (Holds line)).core es notes
  holds_tracked line =
      tracked_same b told w.core (after w (Holds line)).core es notes refl refl refl (λ tag owner owned. refl)
      (λ tag owner l owned at. refl) t

  pub wakes_tracked : AreTracked b told (after w Wakes).core es notes
  wakes_tracked =
      tracked_same b told w.core (after w Wakes).core es notes refl refl refl (λ tag owner owned. refl)
      (λ tag owner l owned at. refl) t

  pub marks_tracked : (pv : ℕ) → AreTracked b told (after w (Marks pv)).core es notes
  marks_tracked pv =
      tracked_same b told w.core (after w (Marks pv)).core es notes refl refl refl (λ tag owner owned. refl)
      (λ tag owner l owned at. refl) t

  pub readies_tracked : (now : State) → AreTracked b told (after w (Readies now)).core es notes
  readies_tracked now = t

  -- more is spare
  pub grows_tracked : (v : World) → Allowed w (Grows v) → AreTracked b told v.core es notes
  grows_tracked v may =
      subst (λ (c : Core). AreTracked b told c es notes) (sym may.core)
      (tracked_planned b told w.core (grown w.core v.core) es notes (grown w.core v.core).waits.plan
      (lives_kept w.core (grown w.core v.core) refl refl (λ tag owner owned. refl) (λ tag owner l owned at. refl)) refl
      (λ key x p at. tracked_spare (scene_of (origin_with b told) w.core es notes) w.core.waits.plan.last v.core.waits.plan.spare
      w.core.waits.plan.spare_flushes key x p (t key x p at)))

  module _ (o : IsOrderly w) where
    -- a piece enters, under a new number
    pub enters_tracked : (line : ℕ) (piece : Piece) (sectors : List (List ℕ)) (ticket : Option (Unit {0})) (entry : Entry)
        → AreTracked b told (after w (Enters line piece sectors ticket entry)).core es notes
    enters_tracked line piece sectors ticket entry =
        let d : Core = (after w (Enters line piece sectors ticket entry)).core in
        let new : LivePiece = record { line = line; piece = piece; stage = Unsubmitted sectors; ticket = ticket } in
        let none : live_at w.core.pieces.lives w.core.pieces.next ≡ None = next_free w o in
        let change : Changes w.core.pieces.next None (Some new) w.core.pieces.lives d.pieces.lives =
        appended w.core.pieces.lives w.core.pieces.next new o.tidy.pieces.single none in
        tracked_same b told w.core d es notes refl refl refl
        (seen_changed w.core d w.core.pieces.owners change
        (λ tag owner owned is. absurd (none_owns w.core.pieces.next o.tidy.owners
        (ap (λ (x : Option LivePiece). option_map_or (λ (l : LivePiece). flying_of l.stage) x 0) none) tag owner owned is)))
        (lines_same w.core d w.core.pieces.owners refl) t

    -- one starts, and nothing of it is submitted
    pub starts_tracked : (number : ℕ) → Allowed w (Starts number) → AreTracked b told (after w (Starts number)).core es notes
    starts_tracked number may =
        let d : Core = (after w (Starts number)).core in
        let x = startable w number o may in
        tracked_same b told w.core d es notes refl refl refl
        (seen_changed w.core d w.core.pieces.owners
        (stage_change w.core.pieces number x.piece.live (Started 0 None) o.tidy.pieces.single x.piece.at) (λ tag owner owned is. refl))
        (lines_same w.core d w.core.pieces.owners refl) t

    -- ---- what was served first is released

    module _ (laws : PlaceLaws) (s : IsSoFar (origin_with b told) es) where
      -- a piece leaves, whose write lasts or whose line has failed: it has taken place, so no operation of it is in flight
      piece_released : (pv number : ℕ) (it : Waiting) → slice_get (disk_waits w.core.waits pv).served 0 ≡ Some it
          → it.waiter ≡ waiter.Piece number
          → AreTracked b told (after_released w.core (waiter.Piece number) pv) es notes
      piece_released pv number it first who =
          let c : Core = w.core in
          let d : Core = after_released c (waiter.Piece number) pv in
          let p = first_is (disk_waits c.waits pv).served it first in
          let gone : FirstGone c.waits pv it = first_gone c.waits pv it p.0 p.1 in
          let one : ◌≡◌ {A = ℕ} (hit (is_piece number it)) 1 = ap hit (of_piece it number who) in
          let some : 0 < awaited_at c.pieces.lives number =
          omega (arith, o.tidy.counts.awaited number, gone.counted (is_piece number), one) in
          let taken = awaiting_taken c.pieces.lives number some in
          let l : LivePiece = record { line = taken.1.line; piece = taken.1.piece; stage = Taken taken.0; ticket = taken.1.ticket } in
          tracked_planned b told c d es notes (after_forgot c.waits.plan number pv)
          (lives_kept c d refl refl
          (seen_changed c d c.pieces.owners (removed c.pieces.lives number l o.tidy.pieces.single taken.1.at)
          (λ tag owner owned is. absurd (none_owns number o.tidy.owners
          (ap (λ (x : Option LivePiece). option_map_or (λ (m : LivePiece). flying_of m.stage) x 0) taken.1.at) tag owner owned is)))
          (lines_same c d c.pieces.owners refl)) refl
          (λ key x place at. laws.forgot (scene_of (origin_with b told) c es notes) key x place number pv
          (scene_told b told c es notes s) (t key x place at))

      pub releases_tracked : (pv : ℕ) → AreTracked b told (after w (Releases pv)).core es notes
      releases_tracked pv = by (released_at w.core pv) refl
        where
          of : (it : Waiting) (who : Waiter) → it.waiter ≡ who → released_at w.core pv ≡ Some it
              → AreTracked b told (after_released w.core who pv) es notes
          of it (waiter.Line line) who at =
              tracked_same b told w.core (after_released w.core (waiter.Line line) pv) es notes refl refl refl
              (λ tag owner owned. refl) (λ tag owner l owned is. refl) t
          of it (waiter.Piece number) who at = piece_released pv number it at who

          by : (x : Option Waiting) → released_at w.core pv ≡ x → AreTracked b told (core_released w.core pv x) es notes
          by None at = t
          by (Some it) at = of it it.waiter refl at
