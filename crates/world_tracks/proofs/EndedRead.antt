-- The read of a piece has completed, and it takes place, or fails: each sector is tracked as before.
use Rattle.std.proofs.Common.{◌&&◌, ◌∙◌, ◌∷◌, ◌≡◌, ℕ, Bool, List, Option, Some, ap, false, inl, refl, slice_get, subst, sym, true}
use Rattle.sector_base.specs.declared.spans.Span.{Span}
use Rattle.lvm_script.specs.declared.line.Line.{Line}
use Rattle.disk_model.specs.Operations.{work_of}
use Rattle.disk_model.specs.State.{State}
use Rattle.disk_model.specs.Steps.{Completed, Record, Step, step_on}
use Rattle.disk_model.specs.declared.ops.Done.{Done}
use Rattle.disk_model.specs.declared.ops.Op.TheVariants.{Read as ReadOp}
use Rattle.flush_plan.specs.Plans.{Plan}
use Rattle.volume_history.specs.Candidates.{is_write, writes_line}
use Rattle.volume_history.specs.Chronicles.{ChronicleEntry, Failed, Origin, Took, piece_covers}
use Rattle.volume_history.specs.Placed.{Place, volumes_of}
use Rattle.world_places.specs.Changes.{IsIdle, IsTold, stepped}
use Rattle.world_places.specs.Lives.{Live, Written}
use Rattle.world_places.specs.Tracked.{Scene, Tracked}
use Rattle.world_acts.specs.Acts.{World}
use Rattle.world_acts.specs.declared.state.Core.{Core}
use Rattle.world_history.specs.Contents.{origin_with}
use Rattle.world_history.specs.Shown.{Shows, places_keyed}
use Rattle.world_history.proofs.Contents.EndedWorld.{WasRead, was_read}
use Rattle.world_tracks.specs.Lives.{lives_in, scene_of}
use Rattle.world_tracks.specs.Tracks.{AreTracked, PlaceLaws}
use Rattle.world_tracks.proofs.EndedFacts.{EndedBy}
use Rattle.world_tracks.proofs.EndedLives.{real_settled}
use Rattle.world_tracks.proofs.LivesLess.{legs_less, without}

-- the entries of a world are told
pub scene_told : (b : Origin) (told : Record) (c : Core) (es : List ChronicleEntry) (notes : List Written)
    → Shows (origin_with b told) es → IsTold (scene_of (origin_with b told) c es notes)
scene_told b told c es notes s = record { first = s.so_far.first; upto = s.so_far.upto }

-- a scene is that of a core with its pieces in flight and its plan
pub arrives : {o : Origin} {es : List ChronicleEntry} {notes : List Written} {key x : ℕ} {place : Place} (lives : List Live) (plan : Plan)
    (d : Core) → lives_in d d.pieces.owners ≡ lives → d.waits.plan ≡ plan
    → Tracked (record { origin = o; entries = es; lives = lives; written = notes; plan = plan }) key x place
    → Tracked (scene_of o d es notes) key x place
arrives {o} {es} {notes} {key} {x} {place} lives plan d same planned h =
    subst (λ (ls : List Live). Tracked (record { origin = o; entries = es; lives = ls; written = notes; plan = d.waits.plan }) key x place)
    (sym same)
    (subst (λ (p : Plan). Tracked (record { origin = o; entries = es; lives = lives; written = notes; plan = p }) key x place)
    (sym planned) h)

module _ (laws : PlaceLaws) (b : Origin) {w : World} {es : List ChronicleEntry} {told : Record} {done : Done} {now : State} {number : ℕ}
    (x : EndedBy w es told done now number) (shows : Shows (origin_with b told) es) (notes : List Written)
    (tracked : AreTracked b told w.core es notes) (fresh : List Bool) (span : Span) (sectors : List (List ℕ))
    (op : done.op ≡ ReadOp span sectors) where
  abbrev step : Step
  step = Completed done.tag (work_of done.op) done.well fresh

  abbrev g : Scene
  g = scene_of (origin_with b told) w.core es notes

  abbrev left : List Live
  left = lives_in w.core (without done.tag w.core.pieces.owners)

  -- the completion brings nothing
  ended : (key y : ℕ) (p : Place) → slice_get (places_keyed (volumes_of b.version) key) y ≡ Some p
      → Tracked (stepped g step g.lives g.plan) key y p
  ended key y p at = laws.steps g key y p step (scene_told b told w.core es notes shows) refl (tracked key y p at)

  -- the piece took place: its line writes nothing
  pub read_tracked : (d : Core) → lives_in d d.pieces.owners ≡ lives_in w.core (without done.tag w.core.pieces.owners)
      → d.waits.plan ≡ w.core.waits.plan
      → AreTracked b (step_on (Completed done.tag (work_of done.op) done.well fresh) told) d
      (Took now.steps x.piece.live.line x.piece.live.piece ∷ es) notes
  read_tracked d lives plan key y p at =
      let e : ChronicleEntry = Took now.steps x.piece.live.line x.piece.live.piece in
      let read : WasRead x.piece span = was_read x.piece span (ap work_of op) in
      let other : is_write key y e es ≡ false =
      ap (λ (l : Option (Line × Option ℕ)). piece_covers x.piece.live.piece key y && writes_line l) x.piece.begun
      ∙ ap (λ (c : Bool). piece_covers x.piece.live.piece key y && c) read.reading
      ∙ and_false (piece_covers x.piece.live.piece key y) in
      arrives left w.core.waits.plan d lives plan
      (laws.took (stepped g step g.lives g.plan) key y p now.steps x.piece.live.line x.piece.live.piece left notes x.unanswered other
      (real_settled w.core w.core.pieces.owners done.tag x.owner x.piece.live x.single x.at x.there es key y e (λ n. refl))
      (legs_less w.core w.core.pieces.owners done.tag x.owner x.single x.at IsIdle key y p) (λ v kept on. inl kept) (ended key y p at))
    where
      and_false : (c : Bool) → (c && false) ≡ false
      and_false true = refl
      and_false false = refl

  -- or failed
  pub unread_tracked : (d : Core) → lives_in d d.pieces.owners ≡ lives_in w.core (without done.tag w.core.pieces.owners)
      → d.waits.plan ≡ w.core.waits.plan
      → AreTracked b (step_on (Completed done.tag (work_of done.op) done.well fresh) told) d
      (Failed now.steps x.piece.live.line x.piece.live.piece ∷ es) notes
  unread_tracked d lives plan key y p at =
      let e : ChronicleEntry = Failed now.steps x.piece.live.line x.piece.live.piece in
      arrives left w.core.waits.plan d lives plan
      (laws.failed (stepped g step g.lives g.plan) key y p now.steps x.piece.live.line x.piece.live.piece left
      (real_settled w.core w.core.pieces.owners done.tag x.owner x.piece.live x.single x.at x.there es key y e (λ n. refl))
      (legs_less w.core w.core.pieces.owners done.tag x.owner x.single x.at IsIdle key y p) (ended key y p at))
