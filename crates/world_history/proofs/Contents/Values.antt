-- What stands in a piece of a volume.
use Rattle.std.proofs.Common.{◌≡◌, ◌≤◌, ◌<◌, ℕ, zero, suc, ◌+◌, Bool, if◌then◌else◌, List, [], ◌∷◌, length}
use Rattle.std.proofs.Common.{take, drop, slice_get, slice_index_or, Some, option_map, refl, sym, ap, subst, ◌∙◌, arith}
use Rattle.std.proofs.lemmas.Bool.{eq-eqb, ne_eqb}
use Rattle.std.proofs.lemmas.List.{get_or-drop, get_or-take, length-drop, length-map, length-take-le}
use Rattle.std.proofs.lemmas.Option.{get_or_from_slice_get, slice_get-map}
use Rattle.sector_base.specs.declared.places.Piece.{Piece}
use Rattle.disk_model.specs.Steps.{Image}
use Rattle.line_table.specs.Machine.{sectors_of}
use Rattle.volume_history.specs.Placed.{Place, PlacedVolume, values_on}
use Rattle.volume_history.specs.Replay.{opening_volumes}
use Rattle.world_history.specs.Shown.{places_keyed}

-- the volume with a key has what its places show, where the keys begin with this one
sectors_from : (image : Image) (from : ℕ) (vs : List PlacedVolume) (key : ℕ)
    → sectors_of (opening_volumes image from vs) (from + key) ≡ values_on image (places_keyed vs key)
sectors_from image from [] key = refl
sectors_from image from (v ∷ vs) zero =
    ap (λ (b : Bool). if b then values_on image v.places else sectors_of (opening_volumes image (from + 1) vs) (from + 0))
    (eq-eqb from (from + 0) (omega arith))
sectors_from image from (v ∷ vs) (suc key) =
    ap (λ (b : Bool). if b then values_on image v.places else sectors_of (opening_volumes image (from + 1) vs) (from + suc key))
    (ne_eqb from (from + suc key) (λ same. omega (arith, same)))
    ∙ subst (λ (n : ℕ). sectors_of (opening_volumes image (from + 1) vs) n ≡ values_on image (places_keyed vs key)) (omega arith)
    (sectors_from image (from + 1) vs key)

pub sectors_keyed : (image : Image) (vs : List PlacedVolume) (key : ℕ)
    → sectors_of (opening_volumes image 0 vs) key ≡ values_on image (places_keyed vs key)
sectors_keyed image vs key =
    subst (λ (n : ℕ). sectors_of (opening_volumes image 0 vs) n ≡ values_on image (places_keyed vs key)) (omega arith)
    (sectors_from image 0 vs key)

module _ (vs : List PlacedVolume) (piece : Piece) (inside : piece.first + piece.count ≤ length (places_keyed vs piece.volume))
    (image : Image) where
  abbrev places : List Place
  places = places_keyed vs piece.volume

  pub shown_length : length (take piece.count (drop piece.first (values_on image (places_keyed vs piece.volume)))) ≡ piece.count
  shown_length =
      length-take-le piece.count (drop piece.first (values_on image places))
      (omega (
        arith,
        length-drop piece.first (values_on image places),
        length-map places (λ (p : Place). image p.disk p.sector),
        inside,
      ))

  shown_there : (i : ℕ) → i < piece.count
      → slice_index_or (take piece.count (drop piece.first (values_on image places))) i []
      ≡ slice_index_or (values_on image places) (piece.first + i) []
  shown_there i lt =
      get_or-take piece.count (drop piece.first (values_on image places)) i [] lt
      ∙ get_or-drop piece.first (values_on image places) i []

  -- each sector is the machine's
  pub shown_each : (i : ℕ) → i < piece.count
      → slice_index_or (take piece.count (drop piece.first (values_on image (places_keyed vs piece.volume)))) i []
      ≡ slice_index_or (sectors_of (opening_volumes image 0 vs) piece.volume) (piece.first + i) []
  shown_each i lt =
      shown_there i lt
      ∙ ap (λ (l : List (List ℕ)). slice_index_or l (piece.first + i) []) (sym (sectors_keyed image vs piece.volume))

  -- and is what the image has at its place
  pub shown_place : (i : ℕ) (p : Place) → i < piece.count → slice_get (places_keyed vs piece.volume) (piece.first + i) ≡ Some p
      → slice_index_or (take piece.count (drop piece.first (values_on image (places_keyed vs piece.volume)))) i [] ≡ image p.disk p.sector
  shown_place i p lt at =
      shown_there i lt
      ∙ get_or_from_slice_get (values_on image places) (piece.first + i) (image p.disk p.sector) []
      (slice_get-map (λ (q : Place). image q.disk q.sector) places (piece.first + i)
      ∙ ap (option_map (λ (q : Place). image q.disk q.sector)) at)
