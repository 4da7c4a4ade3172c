-- What is kept between the acts of a session's lines: what the disks show, and how each sector of a volume is tracked.
use Rattle.std.specs.Prelude.{◌≡◌, ℕ, Bool, List, Some, length, slice_get}
use Rattle.disk_model.specs.Durability.{OnlyLeaves}
use Rattle.disk_model.specs.Steps.{Record}
use Rattle.volume_history.specs.Chronicles.{ChronicleEntry, Origin}
use Rattle.volume_history.specs.Placed.{Place, volumes_of}
use Rattle.world_places.specs.Lives.{Written}
use Rattle.world_acts.specs.Acts.{World}
use Rattle.io_core.specs.Rest.{just, no_one}
use Rattle.world_history.specs.Contents.{HasContents}
use Rattle.world_history.specs.Shown.{now_of, places_keyed}
use Rattle.world_tracks.specs.Notes.{AreOnDisks, AreWaited}
use Rattle.world_tracks.specs.Tracks.{AreTracked}

-- beside its contents: notes of all writes that took place, each on a disk, with which each sector is tracked, and which open lines wait
-- for, but those lines that are exempt
pub record HasTracksWith (but : ℕ → Bool) (o : Origin) (w : World) (es : List ChronicleEntry) : Type 0 where
  pub contents : HasContents o w es
  pub notes : List Written
  pub tracked : AreTracked o contents.told w.core es notes
  pub waited : AreWaited w.core but notes
  pub lie : AreOnDisks (length w.shelf.sizes) notes

-- no line is exempt
abbrev pub HasTracks : Origin → World → List ChronicleEntry → Type 0
HasTracks o w es = HasTracksWith no_one o w es

-- this one is, while it is prepared
abbrev pub HasTracksBut : ℕ → Origin → World → List ChronicleEntry → Type 0
HasTracksBut line o w es = HasTracksWith (just line) o w es

-- each sector of a volume has one possible value, which a read gives
abbrev pub HaveOneValue : Origin → Record → Type 0
HaveOneValue o told =
    (key x : ℕ) (p : Place) → slice_get (places_keyed (volumes_of o.version) key) x ≡ Some p
    → OnlyLeaves told p.disk p.sector (λ value. value ≡ now_of told p.disk p.sector)
