-- How many extents volumes and their legs have.
use Rattle.std.specs.Prelude.{ℕ, ◌/◌, length, sum_by}
use Rattle.meta_model.specs.declared.lv.Lv.{Lv}
use Rattle.meta_model.specs.declared.segment.Segment.{Segment}
use Rattle.meta_model.specs.declared.segment.SegKind.{SegKind}
use Rattle.meta_model.specs.declared.segment.SegKind.TheVariants.{Striped, Mirror}

-- the extents that each leg covers of a segment with so many
abbrev pub leg_share : ℕ → SegKind → ℕ
leg_share count (Striped stripe legs) = count / length legs
leg_share count (Mirror region moved legs) = count

-- the extents of a volume
abbrev pub extents_of : Lv → ℕ
extents_of lv = sum_by (λ (segment : Segment). segment.count) lv.segments
