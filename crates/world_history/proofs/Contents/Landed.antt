-- Where two images differ at most in a piece, the machine that the one shows is the other's with the piece written.
use Rattle.std.proofs.Common.{◌≡◌, ◌≤◌, ◌<◌, ℕ, zero, suc, ◌+◌, ◌==◌, Bool, true, false, if◌then◌else◌, List, [], ◌∷◌, ◌++◌, length}
use Rattle.std.proofs.Common.{take, drop, slice_get, Option, Some, refl, sym, ap, subst, ◌∙◌, arith}
use Rattle.std.proofs.lemmas.Bool.{eqb-true, eq-eqb, both_ways}
use Rattle.std.proofs.lemmas.Option.{none-some, same_Some}
use Rattle.sector_base.specs.declared.places.Piece.{Piece}
use Rattle.disk_model.specs.Steps.{Image}
use Rattle.line_table.specs.Machine.{PlainVolume, PlainState, Wrote, plain_after, put_at, with_key}
use Rattle.vg_scan.specs.Versions.{Version}
use Rattle.volume_history.specs.Placed.{Place, PlacedVolume, group_name, values_on, volumes_of}
use Rattle.volume_history.specs.Replay.{opening_volumes}
use Rattle.world_history.specs.Shown.{places_keyed, shown_state}

-- the places of the volume that stands there
places_there : (vs : List PlacedVolume) (key : ℕ) (v : PlacedVolume) → slice_get vs key ≡ Some v → places_keyed vs key ≡ v.places
places_there [] key v is = absurd (none-some v is)
places_there (w ∷ vs) zero v is = ap (λ (u : PlacedVolume). u.places) (same_Some w v is)
places_there (w ∷ vs) (suc key) v is = places_there vs key v is

module _ (old new : Image) where
  -- the new image is as the old one at this place
  abbrev Same : Place → Type 0
  Same p = new p.disk p.sector ≡ old p.disk p.sector

  values_same : (ps : List Place) → ((x : ℕ) (p : Place) → slice_get ps x ≡ Some p → Same p) → values_on new ps ≡ values_on old ps
  values_same [] each = refl
  values_same (p ∷ ps) each =
      ap (λ (a : List ℕ). a ∷ values_on new ps) (each 0 p refl)
      ∙ ap (λ (l : List (List ℕ)). old p.disk p.sector ∷ l) (values_same ps (λ x. each (suc x)))

  -- the first of them may differ
  front_put : (count : ℕ) (ps : List Place) → ((x : ℕ) (p : Place) → slice_get ps x ≡ Some p → count ≤ x → Same p) → count ≤ length ps
      → values_on new ps ≡ put_at 0 (take count (values_on new ps)) (values_on old ps)
  front_put zero ps each le = values_same ps (λ x p at. each x p at (omega arith))
  front_put (suc count) [] each le = absurd (omega (arith, le))
  front_put (suc count) (p ∷ ps) each le =
      let values : List (List ℕ) = take count (values_on new ps) in
      let more : suc (0 + length values) ≡ 0 + suc (length values) = omega arith in
      ap (λ (l : List (List ℕ)). new p.disk p.sector ∷ l)
      (front_put count ps (λ x q at far. each (suc x) q at (omega (arith, far))) (omega (arith, le)))
      ∙ ap (λ (n : ℕ). (new p.disk p.sector ∷ values) ++ drop n (old p.disk p.sector ∷ values_on old ps)) more

  -- those from the first on may differ, so many
  values_put : (first count : ℕ) (ps : List Place)
      → ((x : ℕ) (p : Place) → slice_get ps x ≡ Some p → (first ≤ x → x < first + count → ⊥) → Same p) → first + count ≤ length ps
      → values_on new ps ≡ put_at first (take count (drop first (values_on new ps))) (values_on old ps)
  values_put zero count ps each le =
      front_put count ps (λ x p at far. each x p at (λ low high. omega (arith, far, high))) (omega (arith, le))
  values_put (suc first) count [] each le = absurd (omega (arith, le))
  values_put (suc first) count (p ∷ ps) each le =
      let values : List (List ℕ) = take count (drop first (values_on new ps)) in
      let olds : List (List ℕ) = values_on old ps in
      let more : suc (first + length values) ≡ suc first + length values = omega arith in
      ap (λ (a : List ℕ). a ∷ values_on new ps) (each 0 p refl (λ low high. omega (arith, low)))
      ∙ ap (λ (l : List (List ℕ)). old p.disk p.sector ∷ l)
      (values_put first count ps (λ x q at far. each (suc x) q at (λ low high. far (omega (arith, low)) (omega (arith, high))))
      (omega (arith, le)))
      ∙ ap (λ (n : ℕ). (old p.disk p.sector ∷ take first olds) ++ values ++ drop n (old p.disk p.sector ∷ olds)) more

  module _ (key first : ℕ) (values : List (List ℕ)) where
    abbrev put : PlainVolume → PlainVolume
    put v = record v { sectors = put_at first values v.sectors }

    -- the sectors of a volume, which has the key or not
    abbrev after_put : Bool → List (List ℕ) → List (List ℕ)
    after_put b sectors = if b then put_at first values sectors else sectors

    volume_put : (b : Bool) (v : PlainVolume) (sectors : List (List ℕ)) → sectors ≡ after_put b v.sectors
        → ◌≡◌ {A = PlainVolume} (record v { sectors = sectors }) (if b then put v else v)
    volume_put true v sectors is = ap {B = PlainVolume} (λ (l : List (List ℕ)). record v { sectors = l }) is
    volume_put false v sectors is = ap {B = PlainVolume} (λ (l : List (List ℕ)). record v { sectors = l }) is

    -- the volumes whose keys begin with this one
    volumes_put : (from : ℕ) (vs : List PlacedVolume)
        → ((k : ℕ) (v : PlacedVolume) → slice_get vs k ≡ Some v
        → values_on new v.places ≡ after_put (from + k == key) (values_on old v.places))
        → opening_volumes new from vs ≡ with_key key put (opening_volumes old from vs)
    volumes_put from [] each = refl
    volumes_put from (v ∷ vs) each =
        let w : PlainVolume = record { key = from; name = v.name; sectors = values_on old v.places } in
        ap (λ (u : PlainVolume). u ∷ opening_volumes new (from + 1) vs)
        (volume_put (from == key) w (values_on new v.places)
        (subst (λ (n : ℕ). values_on new v.places ≡ after_put (n == key) (values_on old v.places)) (omega arith) (each 0 v refl)))
        ∙ ap (λ (l : List PlainVolume). (if from == key then put w else w) ∷ l)
        (volumes_put (from + 1) vs (λ k u at. subst (λ (n : ℕ). values_on new u.places ≡ after_put (n == key) (values_on old u.places))
        (omega arith) (each (suc k) u at)))

module _ (vs : List PlacedVolume) (piece : Piece) (old new : Image)
    (others : (key x : ℕ) (p : Place) → slice_get (places_keyed vs key) x ≡ Some p
    → (key ≡ piece.volume → piece.first ≤ x → x < piece.first + piece.count → ⊥) → new p.disk p.sector ≡ old p.disk p.sector)
    (inside : piece.first + piece.count ≤ length (places_keyed vs piece.volume)) where
  -- what the new image shows in the piece
  abbrev pub values_new : List (List ℕ)
  values_new = take piece.count (drop piece.first (values_on new (places_keyed vs piece.volume)))

  volume_landed : (key : ℕ) (v : PlacedVolume) → slice_get vs key ≡ Some v → (b : Bool) → (key == piece.volume) ≡ b
      → values_on new v.places ≡ after_put old new piece.volume piece.first values_new b (values_on old v.places)
  volume_landed key v at true is =
      let own : places_keyed vs piece.volume ≡ v.places =
      sym (ap (places_keyed vs) (eqb-true key piece.volume is)) ∙ places_there vs key v at in
      subst (λ (ps : List Place). values_on new ps ≡ put_at piece.first values_new (values_on old ps)) own
      (values_put old new piece.first piece.count (places_keyed vs piece.volume)
      (λ x p there far. others piece.volume x p there (λ same. far)) inside)
  volume_landed key v at false is =
      values_same old new v.places
      (λ x p there. others key x p (ap (λ (ps : List Place). slice_get ps x) (places_there vs key v at) ∙ there)
      (λ same low high. both_ways (key == piece.volume) is (eq-eqb key piece.volume same)))

  -- the piece's volume has the new image's values in the piece, and all else stays
  pub landed : opening_volumes new 0 vs
      ≡ with_key piece.volume (λ (v : PlainVolume). record v { sectors = put_at piece.first values_new v.sectors })
      (opening_volumes old 0 vs)
  landed =
      volumes_put old new piece.volume piece.first values_new 0 vs
      (λ k v at. volume_landed k v at (0 + k == piece.volume) (ap (λ (n : ℕ). n == piece.volume) (omega arith)))

-- so the machine that the new image shows is the old one's after a write of the piece
pub landed_state : (version : Option Version) (piece : Piece) (old new : Image)
    (others : (key x : ℕ) (p : Place) → slice_get (places_keyed (volumes_of version) key) x ≡ Some p
    → (key ≡ piece.volume → piece.first ≤ x → x < piece.first + piece.count → ⊥) → new p.disk p.sector ≡ old p.disk p.sector)
    (inside : piece.first + piece.count ≤ length (places_keyed (volumes_of version) piece.volume))
    → shown_state version new
    ≡ plain_after (shown_state version old)
    (Wrote piece.volume piece.first (values_new (volumes_of version) piece old new others inside))
landed_state version piece old new others inside =
    ap {B = PlainState} (λ (l : List PlainVolume). record {
      group = group_name version;
      volumes = l;
      next_key = length (volumes_of version);
    }) (landed (volumes_of version) piece old new others inside)
