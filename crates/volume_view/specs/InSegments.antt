-- Where a sector of a logical volume stands in one of its segments and in the legs of that, as lvm2's targets linear,
-- striped and mirror have it.
use Rattle.std.specs.Prelude.{◌≡◌, ℕ, ◌+◌, ◌-◌, ◌*◌, ◌/◌, ◌%◌, Bool, true, false, ◌&&◌, ◌==◌, nat_le, nat_lt, if◌then◌else◌, Option, None}
use Rattle.std.specs.Prelude.{Some, List, [], ◌∷◌, length, slice_get, option_map}
use Rattle.std.specs.Option.{option_and_then}
use Rattle.meta_model.specs.declared.group.Group.{Group}
use Rattle.meta_model.specs.declared.lv.Lv.{Lv}
use Rattle.meta_model.specs.declared.segment.Segment.{Segment}
use Rattle.meta_model.specs.declared.segment.SegKind.{SegKind}
use Rattle.meta_model.specs.declared.segment.SegKind.TheVariants.{Striped, Mirror}
use Rattle.meta_model.specs.declared.segment.Leg.{Leg}
use Rattle.meta_model.specs.declared.segment.On.{On}
use Rattle.meta_model.specs.Runs.{legs_of}

-- a sector of what a leg lies on, counted from the first extent there
pub record Spot : Type 0 where
  pub on : On
  pub sector : ℕ

-- a segment that has a sector: its volume, its number there, the segment, and how far into it the sector stands
pub record Met : Type 0 where
  pub lv : ℕ
  pub number : ℕ
  pub segment : Segment
  pub at : ℕ

-- whether the sector of the volume stands in the segment
abbrev pub has_sector : ℕ → ℕ → Segment → Bool
has_sector extent_size sector segment =
    nat_le (segment.start * extent_size) sector && nat_lt sector ((segment.start + segment.count) * extent_size)

-- the first of these segments, numbered from here on, that has the sector
abbrev pub segment_from : ℕ → ℕ → ℕ → List Segment → Option (ℕ × Segment)
segment_from extent_size sector number [] = None
segment_from extent_size sector number (segment ∷ segments) =
    if has_sector extent_size sector segment then Some (number, segment) else segment_from extent_size sector (number + 1) segments

-- the segment of the volume that has the sector
unfoldable pub met : Group → ℕ → ℕ → Option Met
met group lv sector =
    option_and_then
    (λ (volume : List ℕ × Lv).
    option_map
    (λ (found : ℕ × Segment). record { lv = lv; number = found.0; segment = found.1; at = sector - found.1.start * group.extent_size })
    (segment_from group.extent_size sector 0 volume.1.segments))
    (slice_get group.lvs lv)

-- the number of the leg that has sector L, by the size of a stripe and the number of legs; one leg has all
abbrev pub stripe_leg : ℕ → ℕ → ℕ → ℕ
stripe_leg stripe legs l = if legs == 1 then 0 else l / stripe % legs

-- how far into that leg it stands
abbrev pub stripe_offset : ℕ → ℕ → ℕ → ℕ
stripe_offset stripe legs l = if legs == 1 then l else l / stripe / legs * stripe + l % stripe

-- whether a mirror of so many extents is a segment of a move that is finished: all its extents were moved
abbrev pub is_finished : ℕ → Option ℕ → Bool
is_finished count None = false
is_finished count (Some moved) = moved == count

-- how far into a leg sector L of the segment stands
abbrev pub offset_in : SegKind → ℕ → ℕ
offset_in (Striped stripe legs) l = stripe_offset stripe (length legs) l
offset_in (Mirror region moved legs) l = l

-- the number of the leg that is read for sector L: of a mirror the first, of a finished move the second
abbrev pub primary_leg : ℕ → SegKind → ℕ → ℕ
primary_leg count (Striped stripe legs) l = stripe_leg stripe (length legs) l
primary_leg count (Mirror region moved legs) l = if is_finished count moved then 1 else 0

-- where a leg has the sector that is so far into it
abbrev pub spot_in : ℕ → ℕ → Leg → Spot
spot_in extent_size offset leg = record { on = leg.on; sector = leg.first * extent_size + offset }

-- where the leg of the segment with this number has the sector
unfoldable pub leg_spot : ℕ → Met → ℕ → Option Spot
leg_spot extent_size met leg =
    option_map (spot_in extent_size (offset_in met.segment.kind met.at)) (slice_get (legs_of met.segment.kind) leg)

-- where the leg that is read has it
abbrev pub primary_spot : ℕ → Met → Option Spot
primary_spot extent_size met = leg_spot extent_size met (primary_leg met.segment.count met.segment.kind met.at)

-- whether the segment is a mirror
abbrev pub is_mirror : SegKind → Bool
is_mirror (Striped stripe legs) = false
is_mirror (Mirror region moved legs) = true

-- the region of the segment in which sector L stands, where it is a mirror and no finished move
abbrev pub region_of : ℕ → SegKind → ℕ → Option ℕ
region_of count (Striped stripe legs) l = None
region_of count (Mirror region moved legs) l = if is_finished count moved then None else Some (l / region)

-- the leg with this number has sector L of the segment: of a striped one only the leg of its stripe
abbrev pub HasSectorInLeg : SegKind → ℕ → ℕ → Type 0
HasSectorInLeg (Striped stripe legs) l leg = leg ≡ stripe_leg stripe (length legs) l
HasSectorInLeg (Mirror region moved legs) l leg = Unit {0}
