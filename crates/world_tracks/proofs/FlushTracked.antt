-- What is tracked stays so where a flush ends, well or badly.
use Rattle.std.proofs.Common.{Bool, true, false, List, refl, sym, subst}
use Rattle.disk_model.specs.Operations.{work_of}
use Rattle.disk_model.specs.State.{State}
use Rattle.disk_model.specs.Steps.{Completed, Flushing, Record, Work as DiskWork, step_on}
use Rattle.disk_model.specs.declared.ops.Done.{Done}
use Rattle.flush_plan.specs.Steps.{after_flushed, after_lost}
use Rattle.volume_history.specs.Chronicles.{ChronicleEntry, Origin}
use Rattle.world_acts.specs.declared.state.Core.{Core}
use Rattle.world_acts.specs.Acts.{Allowed, EndsFlush, World, after}
use Rattle.world_acts.specs.Orderly.{IsOrderly}
use Rattle.world_acts.specs.Steps.{after_flushed as core_flushed}
use Rattle.world_history.specs.Contents.{origin_with}
use Rattle.world_history.specs.Shown.{IsSoFar}
use Rattle.world_history.proofs.EndedFlush.{WasFlush, was_flush}
use Rattle.world_places.specs.Lives.{Written}
use Rattle.world_tracks.specs.Lives.{scene_of}
use Rattle.world_tracks.specs.Tracks.{AreTracked, PlaceLaws}
use Rattle.world_tracks.proofs.QuietTracked.{lives_kept, scene_told, tracked_planned}

module _ {w : World} {es : List ChronicleEntry} (laws : PlaceLaws) (b : Origin) (told : Record) (notes : List Written) (o : IsOrderly w)
    (s : IsSoFar (origin_with b told) es) (t : AreTracked b told w.core es notes) where
  pub ends_flush_tracked : (done : Done) (now : State) (may : Allowed w (EndsFlush done now))
      → AreTracked b (step_on (Completed done.tag (work_of done.op) done.well may.0.told.0) told) (after w (EndsFlush done now)).core es
      notes
  ends_flush_tracked done now may =
      subst (λ (work : DiskWork). AreTracked b (step_on (Completed done.tag work done.well may.0.told.0) told)
      (after w (EndsFlush done now)).core es notes) (sym f.does) (by done.well)
    where
      f : WasFlush w done
      f = was_flush w done now o may

      by : (well : Bool) → AreTracked b (step_on (Completed done.tag (Flushing f.pv) well may.0.told.0) told)
          (core_flushed w.core done.tag well) es notes
      by true =
          let d : Core = core_flushed w.core done.tag true in
          tracked_planned b (step_on (Completed done.tag (Flushing f.pv) true may.0.told.0) told) w.core d es notes
          (after_flushed w.core.waits.plan done.tag)
          (lives_kept w.core d refl refl (λ tag owner owned. refl) (λ tag owner l owned at. refl)) refl
          (λ key x p at. laws.flushed (scene_of (origin_with b told) w.core es notes) key x p done.tag f.pv may.0.told.0
          (scene_told b told w.core es notes s) f.flies f.its f.within (t key x p at))
      by false =
          let d : Core = core_flushed w.core done.tag false in
          tracked_planned b (step_on (Completed done.tag (Flushing f.pv) false may.0.told.0) told) w.core d es notes
          (after_lost w.core.waits.plan done.tag)
          (lives_kept w.core d refl refl (λ tag owner owned. refl) (λ tag owner l owned at. refl)) refl
          (λ key x p at. laws.lost (scene_of (origin_with b told) w.core es notes) key x p done.tag f.pv may.0.told.0
          (scene_told b told w.core es notes s) f.flies (t key x p at))
