-- A placed piece stands in its span.
use Rattle.std.proofs.Common.{◌≡◌, ◌≤◌, ◌<◌, ℕ, zero, suc, ◌+◌, true, false, nat_lt, List, [], ◌∷◌, length, Option, None, Some}
use Rattle.std.proofs.Common.{refl, sym, ap, subst, ◌∙◌, arith}
use Rattle.std.specs.Prelude.{IfSome, option_map}
use Rattle.std.specs.Option.{option_and_then, option_map_or}
use Rattle.sector_base.specs.declared.places.At.{At}
use Rattle.sector_base.specs.declared.places.Piece.{Piece}
use Rattle.list_laws.proofs.Bools.{lt_true, true_lt}
use Rattle.meta_model.specs.declared.group.Group.{Group}
use Rattle.volume_rules.specs.Rules.{IsAccepted}
use Rattle.volume_view.specs.Places.{primary}
use Rattle.seg_place.specs.Sectors.{sectors_of}
use Rattle.vg_scan.specs.Versions.{Version}
use Rattle.volume_history.specs.Placed.{PlacedVolume, volumes_of}
use Rattle.world_acts.specs.declared.volumes.Volumes.{Volumes}
use Rattle.world_acts.specs.Volumes.{AreLaidOut, IsPlaced, StandsAt, has_sector, lv_of, on_disk, place_of, span_at, span_of}
use Rattle.world_history.proofs.Contents.Inside.{primary_inside}
use Rattle.world_history.proofs.Contents.Keyed.{has_keyed, place_keyed}
use Rattle.world_history.specs.Shown.{AreOfVersion, StandsIn, places_keyed}

-- a sector that has a place is one of its volume
placed_is_had : (volumes : Volumes) → IfSome volumes.group IsAccepted → (key x : ℕ) (at : At) → place_of volumes key x ≡ Some at
    → has_sector volumes key x ≡ true
placed_is_had volumes accepted key x at is = by volumes.group accepted is where
  at_place : (group : Group) → IsAccepted group → (lv : ℕ) (o : Option At) → primary group lv x ≡ o
      → option_map (on_disk volumes) o ≡ Some at → nat_lt x (sectors_of group lv) ≡ true
  at_place group accepted lv None found made = absurd cc
  at_place group accepted lv (Some a) found made = lt_true x (sectors_of group lv) (primary_inside group lv x a accepted found)

  at_number : (group : Group) → IsAccepted group → (o : Option ℕ)
      → option_and_then (λ lv. option_map (on_disk volumes) (primary group lv x)) o ≡ Some at
      → option_map_or (λ lv. nat_lt x (sectors_of group lv)) o false ≡ true
  at_number group accepted None made = absurd cc
  at_number group accepted (Some lv) made = at_place group accepted lv (primary group lv x) refl made

  by : (o : Option Group) → IfSome o IsAccepted
      → option_and_then (λ (g : Group). option_and_then (λ lv. option_map (on_disk volumes) (primary g lv x)) (lv_of volumes key)) o
      ≡ Some at
      → option_map_or (λ (g : Group). option_map_or (λ lv. nat_lt x (sectors_of g lv)) (lv_of volumes key) false) o false ≡ true
  by None accepted made = absurd cc
  by (Some group) accepted made = at_number group accepted (lv_of volumes key) made

-- a key for which there are places is one of a volume
key_within : (vs : List PlacedVolume) (key x : ℕ) → x < length (places_keyed vs key) → key < length vs
key_within [] key x lt = absurd (omega (arith, lt))
key_within (v ∷ vs) zero x lt = omega arith
key_within (v ∷ vs) (suc key) x lt = let rest : key < length vs = key_within vs key x lt in omega (arith, rest)

module _ (volumes : Volumes) (sizes : List ℕ) (version : Option Version) (laid : AreLaidOut volumes sizes)
    (of : AreOfVersion volumes version) (piece : Piece) (at : At) (stands : StandsAt volumes sizes piece at) where
  has : (i : ℕ) → i < piece.count → has_sector volumes piece.volume (piece.first + i) ≡ true
  has i lt =
      placed_is_had volumes laid.accepted piece.volume (piece.first + i) (record { pv = at.pv; sector = at.sector + i }) (stands.each i lt)

  within : (i : ℕ) → i < piece.count → piece.first + i < length (places_keyed (volumes_of version) piece.volume)
  within i lt =
      true_lt (piece.first + i) (length (places_keyed (volumes_of version) piece.volume))
      (sym (has_keyed volumes sizes version laid of piece.volume (piece.first + i)) ∙ has i lt)

  -- in the span from its place on
  from_place : StandsIn version piece (span_at piece.count (Some at))
  from_place = record {
    key = key_within (volumes_of version) piece.volume (piece.first + 0) (within 0 stands.some);
    inside = by piece.count stands.some within;
    there = λ i lt.
        place_keyed volumes sizes version laid of piece.volume (piece.first + i) (record { pv = at.pv; sector = at.sector + i }) (has i lt)
        (stands.each i lt);
    many = refl;
  } where
    by : (count : ℕ) → 0 < count
        → ((i : ℕ) → i < count → piece.first + i < length (places_keyed (volumes_of version) piece.volume))
        → piece.first + count ≤ length (places_keyed (volumes_of version) piece.volume)
    by zero some each = absurd (omega (arith, some))
    by (suc n) some each = let last = each n (omega arith) in omega (arith, last)

  -- which is its span
  place_first : place_of volumes piece.volume piece.first ≡ Some at
  place_first =
      ap (place_of volumes piece.volume) (let e : piece.first ≡ piece.first + 0 = omega arith in e)
      ∙ stands.each 0 stands.some
      ∙ ap (λ (n : ℕ). Some (record { pv = at.pv; sector = n })) (let e : at.sector + 0 ≡ at.sector = omega arith in e)

pub stands_in : (volumes : Volumes) (sizes : List ℕ) (version : Option Version) → AreLaidOut volumes sizes → AreOfVersion volumes version
    → (piece : Piece) → IsPlaced volumes sizes piece → StandsIn version piece (span_of volumes piece)
stands_in volumes sizes version laid of piece placed =
    subst (λ (o : Option At). StandsIn version piece (span_at piece.count o))
    (sym (place_first volumes sizes version laid of piece placed.0 placed.1))
    (from_place volumes sizes version laid of piece placed.0 placed.1)
