-- Logical volumes whose legs lie on volumes by their new numbers.
use Rattle.std.specs.Prelude.{ℕ, List, map}
use Rattle.meta_model.specs.declared.lv.Lv.{Lv}
use Rattle.meta_model.specs.declared.segment.Leg.{Leg}
use Rattle.meta_model.specs.declared.segment.On.{On}
use Rattle.meta_model.specs.declared.segment.SegKind.{SegKind}
use Rattle.meta_model.specs.declared.segment.SegKind.TheVariants.{Mirror, Striped}
use Rattle.meta_model.specs.declared.segment.Segment.{Segment}

-- a leg, where the function gives what it lies on by its new number
abbrev pub renumbered_leg : (On → On) → Leg → Leg
renumbered_leg number leg = record leg { on = number leg.on }

-- legs in their order
abbrev pub renumbered_legs : (On → On) → List Leg → List Leg
renumbered_legs number legs = map (renumbered_leg number) legs

-- the same of a segment's kind
abbrev pub renumbered_kind : (On → On) → SegKind → SegKind
renumbered_kind number (Striped stripe legs) = Striped stripe (renumbered_legs number legs)
renumbered_kind number (Mirror region moved legs) = Mirror region moved (renumbered_legs number legs)

-- the same of a segment
abbrev pub renumbered_segment : (On → On) → Segment → Segment
renumbered_segment number segment = record segment { kind = renumbered_kind number segment.kind }

-- the same of a volume
abbrev pub renumbered_lv : (On → On) → Lv → Lv
renumbered_lv number lv = record lv { segments = map (renumbered_segment number) lv.segments }

-- the same of a row of the table of volumes
abbrev pub renumbered_row : (On → On) → List ℕ × Lv → List ℕ × Lv
renumbered_row number row = (row.0, renumbered_lv number row.1)
