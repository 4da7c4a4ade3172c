-- The machine that disks show.
use Rattle.std.specs.Prelude.{◌≡◌, ◌≤◌, ◌<◌, ℕ, zero, suc, ◌+◌, IfSome, List, [], ◌∷◌, length, Option, Some, option_map, slice_get}
use Rattle.sector_base.specs.declared.places.Piece.{Piece}
use Rattle.sector_base.specs.declared.spans.Span.{Span}
use Rattle.disk_model.specs.Steps.{Image, Record, now_after}
use Rattle.line_table.specs.Machine.{PlainState}
use Rattle.vg_scan.specs.Versions.{Version}
use Rattle.volume_history.specs.Chronicles.{AreUpto, ChronicleEntry, Origin, in_force}
use Rattle.volume_history.specs.Legal.{IsLegalHistory}
use Rattle.volume_history.specs.Placed.{Place, PlacedVolume, group_name, volumes_of}
use Rattle.volume_history.specs.Replay.{opening_volumes, plain_state}
use Rattle.volume_view.specs.View.{DisksDiffer}
use Rattle.world_acts.specs.declared.volumes.Volumes.{Volumes}
use Rattle.world_acts.specs.Volumes.{rows_at_opening}

-- the volumes of a version have the keys 0, 1, .. and hold what the image shows at their places
abbrev pub shown_state : Option Version → Image → PlainState
shown_state version image = record {
  group = group_name version;
  volumes = opening_volumes image 0 (volumes_of version);
  next_key = length (volumes_of version);
}

-- the places of the volume with this key
abbrev pub places_keyed : List PlacedVolume → ℕ → List Place
places_keyed [] key = []
places_keyed (v ∷ vs) zero = v.places
places_keyed (v ∷ vs) (suc key) = places_keyed vs key

-- the volumes of a world are those of this version, on its disks, which differ
pub record AreOfVersion (volumes : Volumes) (version : Option Version) : Type 0 where
  pub group : volumes.group ≡ option_map (λ (v : Version). v.group) version
  pub disks : IfSome version (λ (v : Version). v.disk_of ≡ volumes.disk_of)
  pub differ : IfSome version (λ (v : Version). DisksDiffer v.group v.disk_of)
  pub rows : volumes.rows.items ≡ rows_at_opening volumes.group

-- what a read gives now
abbrev pub now_of : Record → Image
now_of told = now_after told.opened told.steps

-- the entries are those of a legal history so far, whose group is still that of its start
pub record IsSoFar (o : Origin) (es : List ChronicleEntry) : Type 0 where
  pub legal : IsLegalHistory (record { origin = o; entries = es })
  pub first : o.first ≤ length o.told.steps
  pub upto : AreUpto (length o.told.steps) es
  pub force : in_force o es ≡ o.version

-- and the machine has what the disks show
pub record Shows (o : Origin) (es : List ChronicleEntry) : Type 0 where
  pub so_far : IsSoFar o es
  pub machine : plain_state o es ≡ shown_state o.version (now_of o.told)

-- the sectors of the piece stand side by side in the span, on one disk
pub record StandsIn (version : Option Version) (piece : Piece) (span : Span) : Type 0 where
  pub key : piece.volume < length (volumes_of version)
  pub inside : piece.first + piece.count ≤ length (places_keyed (volumes_of version) piece.volume)
  pub there :
      (i : ℕ) → i < piece.count
      → slice_get (places_keyed (volumes_of version) piece.volume) (piece.first + i)
      ≡ Some (record { disk = span.pv; sector = span.first + i })
  pub many : span.count ≡ piece.count
