-- Now is consistent in a world whose sectors are tracked, and with it every moment from the hand-in on.
use Rattle.std.proofs.Common.{◌≤◌, ℕ, List, length}
use Rattle.disk_model.specs.Steps.{Image}
use Rattle.volume_history.specs.Candidates.{IsConsistentMoment, IsConsistentNow}
use Rattle.volume_history.specs.Chronicles.{ChronicleEntry, Origin}
use Rattle.world_acts.specs.Acts.{World}
use Rattle.world_acts.specs.Orderly.{IsOrderly}
use Rattle.world_history.specs.Contents.{HasContents, origin_with}
use Rattle.world_history.specs.Told.{IsTold}
use Rattle.world_places.specs.Lives.{Written}
use Rattle.world_tracks.specs.Moments.{HasBase, HasMoments}
use Rattle.world_tracks.specs.Tracks.{AreTracked}
use Rattle.world_tracks.proofs.ConsistentNow.{MomentLaws, consistent_now}
use Rattle.world_tracks.proofs.LivesAre.{are_live}
use Rattle.world_tracks.proofs.PastMoments.{every_moment}

module _ (laws : MomentLaws) (b : Origin) (base : Image) (has : HasBase b base) {start : ℕ} {coming : ℕ → ℕ → ℕ} {w : World}
    {es : List ChronicleEntry} (o : IsOrderly w) (t : IsTold start coming w es) (c : HasContents b w es) (notes : List Written)
    (tracked : AreTracked b c.told w.core es notes) (h : HasMoments b base c.told es) where
  -- now, also while a line is under preparation
  pub now_in_world : IsConsistentNow (record { origin = origin_with b c.told; entries = es })
  now_in_world =
      consistent_now laws b base c.told w.core es notes has c.holds.shows t.committed h.lines
      (are_live o t (origin_with b c.told) notes) tracked h.beside

  -- and every moment
  pub moments_in_world : (m : ℕ) → b.first ≤ m → m ≤ length c.told.steps
      → IsConsistentMoment (record { origin = origin_with b c.told; entries = es }) m
  moments_in_world m from by = every_moment b c.told es c.holds.shows.so_far.upto now_in_world h.past m from by
