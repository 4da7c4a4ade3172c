-- Places of which each belongs to one sector.
use Rattle.std.specs.Prelude.{◌≡◌, ℕ, List, Some, slice_get}
use Rattle.volume_history.specs.Placed.{Place, PlacedVolume}

-- no two sectors of the volumes have one place
abbrev pub AreApart : List PlacedVolume → Type 0
AreApart vs =
    (i j x y : ℕ) (v w : PlacedVolume) (place : Place) → slice_get vs i ≡ Some v → slice_get vs j ≡ Some w
    → slice_get v.places x ≡ Some place → slice_get w.places y ≡ Some place
    → (i ≡ j) × (x ≡ y)

-- no sector of the volumes has this place
abbrev pub LiesBeside : List PlacedVolume → Place → Type 0
LiesBeside vs place = (i x : ℕ) (v : PlacedVolume) → slice_get vs i ≡ Some v → slice_get v.places x ≡ Some place → ⊥
