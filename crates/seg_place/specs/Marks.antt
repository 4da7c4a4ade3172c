-- Marks of the volumes from which legs lead down to the PVMOVE volume.
use Rattle.std.specs.Prelude.{ℕ, Bool, false, ◌||◌, List, slice_get, unwrap_or}
use Rattle.std.specs.List.{list_any}
use Rattle.meta_model.specs.declared.group.Group.{Group}
use Rattle.meta_model.specs.declared.segment.Leg.{Leg}
use Rattle.meta_model.specs.declared.segment.On.{On}
use Rattle.meta_model.specs.declared.segment.On.TheVariants as on
use Rattle.meta_model.specs.declared.segment.Segment.{Segment}
use Rattle.meta_model.specs.Runs.{legs_of}
use Rattle.volume_rules.specs.Moving.{has_pvmove, named_by}

-- whether the volume with this number is marked
abbrev pub is_marked : List Bool → ℕ → Bool
is_marked marks lv = unwrap_or (slice_get marks lv) false

-- whether a leg lies on a marked volume
abbrev pub lies_on_marked : List Bool → On → Bool
lies_on_marked marks (on.Pv pv) = false
lies_on_marked marks (on.Lv lv) = is_marked marks lv

-- whether one of these legs does
abbrev pub legs_on_marked : List Bool → List Leg → Bool
legs_on_marked marks legs = list_any (λ (leg : Leg). lies_on_marked marks leg.on) legs

-- whether a leg of one of these segments does
abbrev pub segments_on_marked : List Bool → List Segment → Bool
segments_on_marked marks segments = list_any (λ (segment : Segment). legs_on_marked marks (legs_of segment.kind)) segments

-- the volume has PVMOVE, or its legs name a marked one
abbrev pub is_above : Group → List Bool → ℕ → Bool
is_above group marks lv = has_pvmove group lv || list_any (is_marked marks) (named_by group lv)
