-- The places of a sector of a logical volume on physical volumes: down through the legs of segments.
use Rattle.std.specs.Prelude.{ℕ, zero, suc, ◌+◌, ◌*◌, ◌==◌, if◌then◌else◌, Option, None, List, [], ◌∷◌, find, filter_map, map, slice_get}
use Rattle.std.specs.Prelude.{option_map, unwrap_or}
use Rattle.std.specs.Option.{option_and_then}
use Rattle.std.specs.List.{enumerate_from}
use Rattle.sector_base.specs.declared.places.At.{At}
use Rattle.meta_model.specs.declared.group.Group.{Group}
use Rattle.meta_model.specs.declared.pv.Pv.{Pv}
use Rattle.meta_model.specs.declared.segment.Leg.{Leg}
use Rattle.meta_model.specs.declared.segment.On.{On}
use Rattle.meta_model.specs.declared.segment.On.TheVariants as on
use Rattle.meta_model.specs.Runs.{legs_of}
use Rattle.volume_rules.specs.Moving.{has_pvmove, leads_to_pvmove}
use Rattle.volume_view.specs.InSegments.{Met, Spot, is_mirror, met, offset_in, primary_leg, primary_spot, region_of}

-- a region of a mirror segment: the number of the volume, of the segment there and of the region there
pub record MirrorAt : Type 0 where
  pub lv : ℕ
  pub segment : ℕ
  pub region : ℕ

-- the places of a sector: the one that is read, those of the other legs of a mirror segment, and its region
pub record Places : Type 0 where
  pub primary : At
  pub others : List At
  pub mirror : Option MirrorAt

-- down by the legs that are read to a sector of a physical volume, through at most so many logical volumes
abbrev pub down : Group → On → ℕ → ℕ → Option At
down group (on.Pv pv) steps sector =
    option_map (λ (p : List ℕ × Pv). record { pv = pv; sector = p.1.pe_start + sector }) (slice_get group.pvs pv)
down group (on.Lv lv) zero sector = None
down group (on.Lv lv) (suc steps) sector =
    option_and_then (λ (m : Met). option_and_then (λ (s : Spot). down group s.on steps s.sector) (primary_spot group.extent_size m))
    (met group lv sector)

-- the segments that this way meets, the uppermost first
abbrev pub way : Group → On → ℕ → ℕ → List Met
way group (on.Pv pv) steps sector = []
way group (on.Lv lv) zero sector = []
way group (on.Lv lv) (suc steps) sector =
    unwrap_or
    (option_map (λ (m : Met). m ∷ unwrap_or (option_map (λ (s : Spot). way group s.on steps s.sector) (primary_spot group.extent_size m))
    []) (met group lv sector))
    []

-- what a segment on the way says of a sector: its volume, its number and the region
abbrev pub mark : Met → ℕ × ℕ × Option ℕ
mark m = (m.lv, m.number, region_of m.segment.count m.segment.kind m.at)

-- the segment whose legs are the places: in a moving volume that of the move, in any other the first mirror on the way
unfoldable pub deciding : Group → ℕ → ℕ → Option Met
deciding group lv sector =
    if leads_to_pvmove group 4 lv
    then find (λ (m : Met). has_pvmove group m.lv) (way group (on.Lv lv) 5 sector)
    else find (λ (m : Met). is_mirror m.segment.kind) (way group (on.Lv lv) 5 sector)

-- the places to which the legs of the segment lead that aren't read
abbrev pub others_of : Group → Met → List At
others_of group m =
    filter_map
    (λ (leg : ℕ × Leg).
    if leg.0 == primary_leg m.segment.count m.segment.kind m.at
    then None
    else down group leg.1.on 5 (leg.1.first * group.extent_size + offset_in m.segment.kind m.at))
    (enumerate_from 0 (legs_of m.segment.kind))

-- the region of the sector in the segment; there is none in a finished move
abbrev pub mirror_of : Met → Option MirrorAt
mirror_of m = option_map (λ (k : ℕ). record { lv = m.lv; segment = m.number; region = k }) (region_of m.segment.count m.segment.kind m.at)

-- the place of a sector of a volume that is read: its primary place
unfoldable pub primary : Group → ℕ → ℕ → Option At
primary group lv sector = down group (on.Lv lv) 5 sector

-- by the segment that decides, if any: the places of the other legs; there are none in a finished move
abbrev pub others_at : Group → Option Met → List At
others_at group o = unwrap_or (option_and_then (λ (m : Met). option_map (λ (k : MirrorAt). others_of group m) (mirror_of m)) o) []

-- all places of a sector of a volume
unfoldable pub places : Group → ℕ → ℕ → Option Places
places group lv sector =
    option_map
    (λ (at : At).
    record {
      primary = at;
      mirror = option_and_then mirror_of (deciding group lv sector);
      others = others_at group (deciding group lv sector);
    })
    (primary group lv sector)

-- so many sectors on, on the same physical volume
abbrev pub at_on : ℕ → At → At
at_on count at = record { pv = at.pv; sector = at.sector + count }

-- all places so many sectors on, in the same region
abbrev pub places_on : ℕ → Places → Places
places_on count p = record { primary = at_on count p.primary; others = map (at_on count) p.others; mirror = p.mirror }
