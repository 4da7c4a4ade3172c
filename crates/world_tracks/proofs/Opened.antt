-- A world is opened: each sector of a volume is tracked, with no notes, where it has one possible value.
use Rattle.std.proofs.Common.{◌≡◌, ℕ, List, [], Option, Some, option_map, slice_get, slice_index_or, refl, sym, ap, subst, ◌∙◌}
use Rattle.std.proofs.lemmas.Option.{get_or_from_slice_get, none-some, slice_get-map}
use Rattle.list_laws.proofs.Members.{in_list}
use Rattle.disk_model.specs.Durability.{OnlyLeaves}
use Rattle.disk_model.specs.Steps.{Image}
use Rattle.line_table.specs.Machine.{PlainState, sector_of}
use Rattle.piece_table.specs.Pieces.{Pieces, live_at}
use Rattle.vg_found.specs.declared.found.Found.{Found}
use Rattle.vg_scan.specs.Versions.{Version}
use Rattle.volume_history.specs.Chronicles.{Origin}
use Rattle.volume_history.specs.Placed.{Place, values_on, volumes_of}
use Rattle.world_places.specs.Changes.{AreIdle}
use Rattle.world_places.specs.Lives.{Live}
use Rattle.world_acts.specs.Acts.{World}
use Rattle.io_core.specs.Rest.{no_one}
use Rattle.io_core.specs.Worlds.{IsOpenedOn}
use Rattle.world_history.specs.Contents.{HasContents, origin_with}
use Rattle.world_history.specs.Shown.{now_of, places_keyed, shown_state}
use Rattle.world_history.proofs.Contents.Values.{sectors_keyed}
use Rattle.world_tracks.specs.Kept.{HasTracks, HaveOneValue}
use Rattle.world_tracks.specs.Lives.{lives_in, scene_of}
use Rattle.world_tracks.specs.Notes.{AreWaited}
use Rattle.world_tracks.specs.Tracks.{AreTracked, PlaceLaws}

-- the machine that an image shows has in each sector what the image has at its place
shown_sector : (version : Option Version) (image : Image) (key x : ℕ) (p : Place)
    → slice_get (places_keyed (volumes_of version) key) x ≡ Some p
    → sector_of (shown_state version image) key x ≡ image p.disk p.sector
shown_sector version image key x p at =
    let places : List Place = places_keyed (volumes_of version) key in
    ap (λ (l : List (List ℕ)). slice_index_or l x []) (sectors_keyed image (volumes_of version) key)
    ∙ get_or_from_slice_get (values_on image places) x (image p.disk p.sector) []
    (slice_get-map (λ (q : Place). image q.disk q.sector) places x ∙ ap (option_map (λ (q : Place). image q.disk q.sector)) at)

-- no piece writes where none is in flight
none_write : (key x : ℕ) (p : Place) → AreIdle [] key x p
none_write key x p l leg is = absurd (in_list [] l is.live)

module _ (laws : PlaceLaws) (o : Origin) (w : World) (found : Found) (disks : ℕ) (opened : IsOpenedOn found disks w.core)
    (c : HasContents o w []) where
  -- no piece is in flight
  none_flies : lives_in w.core w.core.pieces.owners ≡ []
  none_flies = ap (λ (p : Pieces). lives_in w.core p.owners) opened.pieces

  -- each sector is tracked: what may be left there is what the machine has
  tracks : HaveOneValue o c.told → AreTracked o c.told w.core [] []
  tracks one key x p at =
      let shown : sector_of (shown_state o.version (now_of c.told)) key x ≡ now_of c.told p.disk p.sector =
      shown_sector o.version (now_of c.told) key x p at in
      laws.opening (scene_of (origin_with o c.told) w.core [] []) key x p refl
      (subst (λ (l : List Live). AreIdle l key x p) (sym none_flies) (none_write key x p))
      (subst (λ (value : List ℕ). OnlyLeaves c.told p.disk p.sector (λ v. v ≡ value))
      (sym (ap (λ (s : PlainState). sector_of s key x) c.holds.shows.machine ∙ shown)) (one key x p at))

  -- nothing waits, as nothing is under way or noted
  waits : AreWaited w.core no_one []
  waits = record {
    tickets = λ number l at free. absurd (none-some l (ap (λ (p : Pieces). live_at p.lives number) (sym opened.pieces) ∙ at));
    noted = λ x has. absurd (in_list [] x has);
    own = λ x has p at through. absurd (in_list [] x has);
    others = λ x has n p free at flushes volume before. absurd (in_list [] x has);
  }

  -- so all is kept at the opening, with no notes
  pub opened_tracks : HaveOneValue o c.told → HasTracks o w []
  opened_tracks one = record {
    contents = c;
    notes = [];
    tracked = tracks one;
    waited = waits;
    lie = λ x has. absurd (in_list [] x has);
  }
