-- What is known of an operation that is handed in.
use Rattle.std.specs.Prelude.{◌≡◌, ◌≤◌, ◌<◌, ℕ, ◌+◌, List, length, slice_index_or}
use Rattle.sector_base.specs.declared.spans.Span.{Span}
use Rattle.disk_model.specs.declared.ops.Op.{Op}
use Rattle.disk_model.specs.declared.ops.Op.TheVariants.{Read, Write, Flush}
use Rattle.disk_model.specs.Steps.{Work, Reading, Writing, Flushing, disk_of_work, sectors_of_work}

-- what the operation does; a read's buffer is no part of it
abbrev pub work_of : Op → Work
work_of (Read span buffer) = Reading span
work_of (Write span sectors) = Writing span sectors
work_of (Flush pv) = Flushing pv

-- the disk of the operation
abbrev pub disk_of : Op → ℕ
disk_of op = disk_of_work (work_of op)

-- how many spare sectors the operation uses up
abbrev pub sectors_of : Op → ℕ
sectors_of op = sectors_of_work (work_of op)

-- the span lies in its disk, and so many sectors stand in the buffer
pub record Fills (sizes : List ℕ) (span : Span) (sectors : List (List ℕ)) : Type 0 where
  pub disk : span.pv < length sizes
  pub within : span.first + span.count ≤ slice_index_or sizes span.pv 0
  pub buffer : length sectors ≡ span.count

-- the span lies in its disk
pub record IsWithin (sizes : List ℕ) (span : Span) : Type 0 where
  pub disk : span.pv < length sizes
  pub within : span.first + span.count ≤ slice_index_or sizes span.pv 0

-- what an operation does lies in a disk of these sizes, and a write has as many sectors as its span
abbrev pub LiesWithin : List ℕ → Work → Type 0
LiesWithin sizes (Reading span) = IsWithin sizes span
LiesWithin sizes (Writing span sectors) = Fills sizes span sectors
LiesWithin sizes (Flushing pv) = pv < length sizes

-- the operation names a disk of these sizes, and a span of it that its buffer fills
abbrev pub Lies : List ℕ → Op → Type 0
Lies sizes (Read span buffer) = Fills sizes span buffer
Lies sizes (Write span sectors) = Fills sizes span sectors
Lies sizes (Flush pv) = pv < length sizes
