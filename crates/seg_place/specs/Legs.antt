-- Segments in which each sector has a leg.
use Rattle.std.specs.Prelude.{◌≤◌, ◌<◌, length}
use Rattle.meta_model.specs.declared.segment.SegKind.{SegKind}
use Rattle.meta_model.specs.declared.segment.SegKind.TheVariants.{Striped, Mirror}

-- a striped segment has a leg, and stripes of a size where it has several; a mirror has two legs, and regions of a size
abbrev pub HasLegs : SegKind → Type 0
HasLegs (Striped stripe legs) = (1 ≤ length legs) × (1 < length legs → 1 ≤ stripe)
HasLegs (Mirror region moved legs) = (2 ≤ length legs) × (1 ≤ region)
