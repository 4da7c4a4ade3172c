-- What the code computes, as the definitions of places have it.
use Rattle.std.specs.Prelude.{◌≡◌, ℕ, Some}
use Rattle.meta_model.specs.declared.group.Group.{Group}
use Rattle.seg_place.specs.declared.met_segment.MetSegment.{MetSegment}
use Rattle.seg_place.specs.declared.region.MirrorAt as region
use Rattle.seg_place.specs.declared.spot.Spot as spot
use Rattle.volume_view.specs.InSegments.{Met, Spot, met}
use Rattle.volume_view.specs.Places.{MirrorAt}

-- a segment that has a sector, as the definition of places has it
abbrev pub seen : MetSegment → Met
seen m = record { lv = m.lv; number = m.number; segment = m.segment.now; at = m.at }

-- it is the one of its volume that has some sector
abbrev pub IsMet : Group → Met → Type 0
IsMet group m = (sector : ℕ) × (met group m.lv sector ≡ Some m)

-- a sector of what a leg lies on, as that definition has it
abbrev pub as_spot : spot.Spot → Spot
as_spot s = record { on = s.on; sector = s.sector }

-- a region of a mirror segment, as that definition has it
abbrev pub as_mirror : region.MirrorAt → MirrorAt
as_mirror m = record { lv = m.lv; segment = m.segment; region = m.region }
