-- What the legs on a physical volume cover of it: a list of runs of extents, in the order of the text.
use Rattle.std.specs.Prelude.{ℕ, ◌+◌, ◌*◌, ◌≤◌, Bool, false, ◌&&◌, cond, nat_eq, nat_le, nat_lt, List, [], ◌∷◌, length, All, sum_by}
use Rattle.std.specs.List.{flat_map}
use Rattle.meta_model.specs.Runs.{legs_of}
use Rattle.meta_model.specs.declared.lv.Lv.{Lv}
use Rattle.meta_model.specs.declared.extent_span.ExtentSpan.{ExtentSpan}
use Rattle.meta_model.specs.declared.segment.Leg.{Leg}
use Rattle.meta_model.specs.declared.segment.On.{On}
use Rattle.meta_model.specs.declared.segment.On.TheVariants as on
use Rattle.meta_model.specs.declared.segment.Segment.{Segment}
use Rattle.volume_rules.specs.Extents.{leg_share}

-- whether it is the physical volume with this number
abbrev pub is_on : ℕ → On → Bool
is_on pv (on.Pv number) = nat_eq number pv
is_on pv (on.Lv number) = false

-- the run of a leg with so many extents, where it lies on the volume
abbrev pub leg_on : ℕ → ℕ → Leg → List ExtentSpan
leg_on pv share leg = cond (is_on pv leg.on) (record { on = 2 * pv; first = leg.first; count = share } ∷ []) []

-- the runs of the legs of a segment on the volume
abbrev pub segment_on : ℕ → Segment → List ExtentSpan
segment_on pv segment = flat_map (leg_on pv (leg_share segment.count segment.kind)) (legs_of segment.kind)

-- the runs of the legs of a logical volume on the volume
abbrev pub lv_on : ℕ → List ℕ × Lv → List ExtentSpan
lv_on pv lv = flat_map (segment_on pv) lv.1.segments

-- the runs of all legs on the volume
abbrev pub lvs_on : ℕ → List (List ℕ × Lv) → List ExtentSpan
lvs_on pv lvs = flat_map (lv_on pv) lvs

-- whether the extent is one of the run's
abbrev pub is_in : ℕ → ExtentSpan → Bool
is_in extent run = nat_le run.first extent && nat_lt extent (run.first + run.count)

-- how many extents they have
abbrev pub extents_in : List ExtentSpan → ℕ
extents_in runs = sum_by (λ (run : ExtentSpan). run.count) runs

-- each segment has a leg, so that its extents can be divided among them
abbrev pub HasLeg : Segment → Type 0
HasLeg segment = 1 ≤ length (legs_of segment.kind)

-- each segment of each volume has a leg
abbrev pub EachHasLeg : List (List ℕ × Lv) → Type 0
EachHasLeg lvs = All (λ lv. All HasLeg lv.1.segments) lvs
