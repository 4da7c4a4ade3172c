-- The write of a piece has completed badly, and it fails: each sector is tracked as before.
use Rattle.std.proofs.Common.{◌∷◌, ◌≡◌, ℕ, Bool, List, Some, false, inr, refl, slice_get, subst, sym}
use Rattle.disk_model.specs.Operations.{work_of}
use Rattle.disk_model.specs.State.{State}
use Rattle.disk_model.specs.Steps.{Completed, Record, Step, step_on}
use Rattle.disk_model.specs.declared.ops.Done.{Done}
use Rattle.volume_history.specs.Chronicles.{ChronicleEntry, Failed, Origin}
use Rattle.volume_history.specs.Placed.{Place, volumes_of}
use Rattle.world_places.specs.Changes.{IsIdle, stepped}
use Rattle.world_places.specs.Lives.{Bad, Live, Written}
use Rattle.world_places.specs.Tracked.{Scene, Tracked}
use Rattle.world_acts.specs.Acts.{World}
use Rattle.world_acts.specs.declared.state.Core.{Core}
use Rattle.world_history.specs.Contents.{origin_with}
use Rattle.world_history.specs.Shown.{Shows, places_keyed}
use Rattle.world_tracks.specs.Lives.{lives_in, scene_of}
use Rattle.world_tracks.specs.Tracks.{AreTracked, PlaceLaws}
use Rattle.world_tracks.proofs.EndedFacts.{EndedBy}
use Rattle.world_tracks.proofs.EndedLives.{legs_ended, legs_gone, real_ended, real_gone, with_ended}
use Rattle.world_tracks.proofs.EndedRead.{arrives, scene_told}
use Rattle.world_tracks.proofs.LivesLess.{without}

module _ (laws : PlaceLaws) (b : Origin) {w : World} {es : List ChronicleEntry} {told : Record} {done : Done} {now : State} {number : ℕ}
    (x : EndedBy w es told done now number) (shows : Shows (origin_with b told) es) (notes : List Written)
    (tracked : AreTracked b told w.core es notes) (fresh : List Bool) (bad : done.well ≡ false) where
  abbrev step : Step
  step = Completed done.tag (work_of done.op) done.well fresh

  abbrev g : Scene
  g = scene_of (origin_with b told) w.core es notes

  abbrev left : List Live
  left = lives_in w.core (without done.tag w.core.pieces.owners)

  -- its leg is bad then
  abbrev lost : List Live
  lost = with_ended w.core w.core.pieces.owners done.tag x.owner.piece x.piece.live Bad

  ended : (key y : ℕ) (p : Place) → slice_get (places_keyed (volumes_of b.version) key) y ≡ Some p
      → Tracked (stepped g step lost g.plan) key y p
  ended key y p at =
      subst (λ (c : Bool). Tracked (stepped g (Completed done.tag (work_of done.op) c fresh) lost g.plan) key y p) (sym bad)
      (laws.bad g key y p lost done.tag (work_of done.op) fresh (scene_told b told w.core es notes shows)
      (real_ended w.core w.core.pieces.owners done.tag x.owner x.piece.live x.single x.at x.there es key y Bad)
      (legs_ended w.core w.core.pieces.owners done.tag x.owner x.piece.live x.single x.at x.there IsIdle Bad key y p (inr refl))
      (tracked key y p at))

  -- and the piece fails
  pub lost_tracked : (d : Core) → lives_in d d.pieces.owners ≡ lives_in w.core (without done.tag w.core.pieces.owners)
      → d.waits.plan ≡ w.core.waits.plan
      → AreTracked b (step_on (Completed done.tag (work_of done.op) done.well fresh) told) d
      (Failed now.steps x.piece.live.line x.piece.live.piece ∷ es) notes
  lost_tracked d lives plan key y p at =
      let e : ChronicleEntry = Failed now.steps x.piece.live.line x.piece.live.piece in
      arrives left w.core.waits.plan d lives plan
      (laws.failed (stepped g step lost g.plan) key y p now.steps x.piece.live.line x.piece.live.piece left
      (real_gone w.core w.core.pieces.owners done.tag x.owner x.piece.live x.single x.at x.there es key y e (λ n. refl) Bad)
      (legs_gone w.core w.core.pieces.owners done.tag x.owner x.piece.live x.single x.at x.there IsIdle Bad key y p) (ended key y p at))
