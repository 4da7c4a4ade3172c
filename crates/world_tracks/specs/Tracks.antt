-- Each sector of a volume is tracked at its place, as long as a session's lines run.
use Rattle.std.specs.Prelude.{◌≡◌, ℕ, List, Some, slice_get}
use Rattle.disk_model.specs.Steps.{Record}
use Rattle.volume_history.specs.Chronicles.{ChronicleEntry, Origin}
use Rattle.volume_history.specs.Placed.{Place, volumes_of}
use Rattle.world_places.specs.Laws.{AnswersKeep, BadWritesKeep, BeginningsKeep, FailedFlushesKeep, FailuresKeep, FlushesDoneKeep}
use Rattle.world_places.specs.Laws.{FlushesKeep}
use Rattle.world_places.specs.Laws.{ForgettingKeeps, LivesKeep, OksKeep, OpeningTracks, OtherTakesKeep, OtherWritesKeep, StepsKeep}
use Rattle.world_places.specs.Laws.{TakesKeep}
use Rattle.world_places.specs.Laws.{WritesDoneKeep, WritesKeep}
use Rattle.world_places.specs.Lives.{Written}
use Rattle.world_places.specs.Tracked.{Tracked}
use Rattle.world_acts.specs.declared.state.Core.{Core}
use Rattle.world_history.specs.Contents.{origin_with}
use Rattle.world_history.specs.Shown.{places_keyed}
use Rattle.world_tracks.specs.Lives.{scene_of}

-- the laws of places that acts go by
pub record PlaceLaws : Type 0 where
  pub steps : StepsKeep
  pub flushes : FlushesKeep
  pub flushed : FlushesDoneKeep
  pub lost : FailedFlushesKeep
  pub submitted : WritesKeep
  pub written : WritesDoneKeep
  pub bad : BadWritesKeep
  pub other : OtherWritesKeep
  pub lives : LivesKeep
  pub forgot : ForgettingKeeps
  pub begun : BeginningsKeep
  pub failed : FailuresKeep
  pub took : OtherTakesKeep
  pub takes : TakesKeep
  pub answered : AnswersKeep
  pub ok : OksKeep
  pub opening : OpeningTracks

-- of what was told, with these notes
abbrev pub AreTracked : Origin → Record → Core → List ChronicleEntry → List Written → Type 0
AreTracked o told c es notes =
    (key x : ℕ) (p : Place) → slice_get (places_keyed (volumes_of o.version) key) x ≡ Some p
    → Tracked (scene_of (origin_with o told) c es notes) key x p
