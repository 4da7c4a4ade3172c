-- How much room a table of logical volumes keeps.
use Rattle.std.specs.Prelude.{ℕ, ◌+◌, List, length, sum_by}
use Rattle.meta_model.specs.declared.lv.Lv.{Lv}
use Rattle.meta_model.specs.declared.segment.Leg.{Leg}
use Rattle.meta_model.specs.declared.segment.SegKind.{SegKind}
use Rattle.meta_model.specs.declared.segment.SegKind.TheVariants.{Striped, Mirror}

-- the legs of a segment
abbrev pub legs_of : SegKind → List Leg
legs_of (Striped stripe legs) = legs
legs_of (Mirror region moved legs) = legs

-- a run for the volume itself, and one for each of its legs
abbrev pub room_of : Lv → ℕ
room_of lv = 1 + sum_by (λ segment. length (legs_of segment.kind)) lv.segments

-- that of all volumes
abbrev pub run_room : List (List ℕ × Lv) → ℕ
run_room rows = sum_by (λ row. room_of row.1) rows
