-- The steps of a row of disks, and what a read gives after them.
use Rattle.std.specs.Prelude.{ℕ, ◌≡◌, ◌-◌, Bool, false, ◌&&◌, ◌||◌, if◌then◌else◌, List, [], ◌∷◌, ◌++◌, slice_index_or}
use Rattle.sector_base.specs.declared.spans.Span.{Span}
use Rattle.sector_base.specs.Spans.{covers}

-- what an operation does: it reads a span, writes these sectors to a span, or flushes a disk
pub data Work : Type 0 where
  Reading : Span → Work
  Writing : Span → List (List ℕ) → Work
  Flushing : ℕ → Work

-- the disk of what an operation does
abbrev pub disk_of_work : Work → ℕ
disk_of_work (Reading span) = span.pv
disk_of_work (Writing span sectors) = span.pv
disk_of_work (Flushing pv) = pv

-- how many sectors what an operation does reads or writes
abbrev pub sectors_of_work : Work → ℕ
sectors_of_work (Reading span) = span.count
sectors_of_work (Writing span sectors) = span.count
sectors_of_work (Flushing pv) = 0

-- a disk step: the operation with this tag is submitted, or completes; a completion says whether it went well, and of
-- a write that failed which of its sectors are new
pub data Step : Type 0 where
  Submitted : ℕ → Work → Step
  Completed : ℕ → Work → Bool → List Bool → Step

-- the contents of each sector, by the number of its disk and its own
abbrev pub Image : Type 0
Image = ℕ → ℕ → List ℕ

-- what a shelf tells: what each sector held at opening, and the record of all steps since then, the newest first
pub record Record : Type 0 where
  pub opened : Image
  pub steps : List Step

-- what is told after one step more
abbrev pub step_on : Step → Record → Record
step_on step told = record { opened = told.opened; steps = step ∷ told.steps }

-- what is told after these steps more, the newest first
abbrev pub steps_on : List Step → Record → Record
steps_on since told = record { opened = told.opened; steps = since ++ told.steps }

-- the two images have the same sectors
abbrev pub IsSame : Image → Image → Type 0
IsSame a b = (pv sector : ℕ) → a pv sector ≡ b pv sector

-- what these sectors, laid on the span, have for a sector of its disk
abbrev pub value_at : Span → List (List ℕ) → ℕ → List ℕ
value_at span sectors sector = slice_index_or sectors (sector - span.first) []

-- what a read gives: the last write of the sector that completed well, or that failed and left the sector new
abbrev pub now_after : Image → List Step → Image
now_after opened [] pv sector = opened pv sector
now_after opened (Completed tag (Writing span sectors) well fresh ∷ steps) pv sector =
    if covers span pv sector && (well || slice_index_or fresh (sector - span.first) false) then value_at span sectors sector else now_after
    opened steps pv sector
now_after opened (_ ∷ steps) pv sector = now_after opened steps pv sector
