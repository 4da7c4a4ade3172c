-- The copies of a sector of a volume: where any legs that have it lead, not only those that are read.
use Rattle.std.specs.Prelude.{◌≡◌, ℕ, ◌+◌, Some, List, [], ◌∷◌, slice_get}
use Rattle.sector_base.specs.declared.places.At.{At}
use Rattle.meta_model.specs.declared.group.Group.{Group}
use Rattle.meta_model.specs.declared.pv.Pv.{Pv}
use Rattle.meta_model.specs.declared.segment.On.TheVariants as on
use Rattle.volume_view.specs.InSegments.{HasSectorInLeg, Met, Spot, leg_spot, met}

-- a sector of a volume stands, by this leg of this segment, at this spot one level below
pub record StandsAt (group : Group) (lv sector segment leg : ℕ) (spot : Spot) : Type 0 where
  pub in_segment : Met
  pub meets : met group lv sector ≡ Some in_segment
  pub number : in_segment.number ≡ segment
  pub in_leg : HasSectorInLeg in_segment.segment.kind in_segment.at leg
  pub there : leg_spot group.extent_size in_segment leg ≡ Some spot

-- a sector of a volume, as a spot
abbrev pub sector_of : ℕ → ℕ → Spot
sector_of lv sector = record { on = on.Lv lv; sector = sector }

-- legs lead down from a spot to another: by the numbers of their segments and their own, the lowest first
abbrev pub Leads : Group → List (ℕ × ℕ) → Spot → Spot → Type 0
Leads group [] from to = from ≡ to
Leads group (leg ∷ legs) from to =
    (lv : ℕ) × (sector : ℕ) × Leads group legs from (sector_of lv sector) × StandsAt group lv sector leg.0 leg.1 to

-- the sector at a spot has a copy at a sector of a physical volume, by these legs
pub record HasCopyAt (group : Group) (from : Spot) (legs : List (ℕ × ℕ)) (at : At) : Type 0 where
  pub into : ℕ
  pub lead : Leads group legs from (record { on = on.Pv at.pv; sector = into })
  pub pv : List ℕ × Pv
  pub is_pv : slice_get group.pvs at.pv ≡ Some pv
  pub at_is : at.sector ≡ pv.1.pe_start + into
