-- Tracked sectors hold the places of all volumes.
use Rattle.std.proofs.Common.{◌≡◌, ℕ, suc, ◌+◌, List, [], ◌∷◌, Some, slice_get, refl, sym, subst, arith}
use Rattle.std.proofs.lemmas.List.{length-map}
use Rattle.std.proofs.lemmas.Option.{slice_get-get_or}
use Rattle.disk_model.specs.Steps.{Image, Record}
use Rattle.line_table.specs.Machine.{PlainState}
use Rattle.volume_history.specs.Candidates.{place_at}
use Rattle.volume_history.specs.Chronicles.{ChronicleEntry, Origin}
use Rattle.volume_history.specs.Parts.{Primaries}
use Rattle.volume_history.specs.Placed.{Place, PlacedVolume, no_place, volumes_of}
use Rattle.volume_history.specs.Replay.{opening_volumes, plain_state}
use Rattle.world_acts.specs.declared.state.Core.{Core}
use Rattle.world_history.specs.Contents.{origin_with}
use Rattle.world_history.specs.Shown.{Shows, now_of, places_keyed}
use Rattle.world_places.specs.Laws.{VolumesHold}
use Rattle.world_places.specs.Lives.{Written}
use Rattle.world_places.specs.Tracked.{AreLive, Scene, Tracked}
use Rattle.world_places.specs.Volumes.{AllTracked}
use Rattle.world_tracks.specs.Lives.{scene_of}
use Rattle.world_tracks.specs.Tracks.{AreTracked}

-- the volumes whose keys begin with this one are tracked where each of their sectors is
all_from : (g : Scene) (image : Image) (from : ℕ) (vs : List PlacedVolume)
    → ((key x : ℕ) (p : Place) → slice_get (places_keyed vs key) x ≡ Some p → Tracked g (from + key) x p)
    → AllTracked g vs (opening_volumes image from vs)
all_from g image from [] each = tt
all_from g image from (v ∷ vs) each = (
  refl,
  sym (length-map v.places (λ (p : Place). image p.disk p.sector)),
  λ x lt. subst (λ (k : ℕ). Tracked g k x (place_at v.places x)) (let e : from + 0 ≡ from = omega arith in e)
      (each 0 x (place_at v.places x) (slice_get-get_or v.places x no_place lt)),
  all_from g image (from + 1) vs
      (λ key x p at. subst (λ (k : ℕ). Tracked g k x p) (let e : from + suc key ≡ from + 1 + key = omega arith in e)
      (each (suc key) x p at)),
)

-- each sector of the machine's volumes has its place
pub all_places : VolumesHold → (o : Origin) (told : Record) (c : Core) (es : List ChronicleEntry) (notes : List Written)
    → Shows (origin_with o told) es → ((key x : ℕ) → AreLive (scene_of (origin_with o told) c es notes) key x)
    → AreTracked o told c es notes
    → Primaries (origin_with o told) es (volumes_of o.version) (plain_state (origin_with o told) es).volumes
all_places hold o told c es notes shows live tracked =
    let g : Scene = scene_of (origin_with o told) c es notes in
    subst (λ (s : PlainState). Primaries (origin_with o told) es (volumes_of o.version) s.volumes) (sym shows.machine)
    (hold g (volumes_of o.version) (opening_volumes (now_of told) 0 (volumes_of o.version)) live
    (all_from g (now_of told) 0 (volumes_of o.version)
    (λ key x p at. subst (λ (k : ℕ). Tracked g k x p) (let e : key ≡ 0 + key = omega arith in e) (tracked key x p at))))
