-- How the images that a crash may leave are made from a row in memory.
use Rattle.std.specs.Prelude.{◌≡◌, ◌≤◌, ◌<◌, ℕ, ◌+◌, nat_le, nat_lt, ◌==◌, ◌&&◌, ◌||◌, Bool, true, false, if◌then◌else◌, List, [], ◌∷◌}
use Rattle.std.specs.Prelude.{length, take, drop, flat_map, slice_index, slice_index_or, Option, Some, None}
use Rattle.dev_shelf.specs.declared.mem_shelf.disk_row.DiskRow.{DiskRow}
use Rattle.dev_shelf.specs.declared.mem_shelf.values.WriteSeen.{WriteSeen}
use Rattle.dev_shelf.specs.declared.mem_shelf.recorded.RecordedWork.{RecordedWork}
use Rattle.dev_shelf.specs.declared.mem_shelf.recorded.RecordedWork.TheVariants.{Reads, Writes, Flushes}
use Rattle.sector_base.specs.declared.spans.Span.{Span}
use Rattle.sector_base.specs.Spans.{covers}
use Rattle.disk_model.specs.Brought.{writes}
use Rattle.disk_model.specs.Steps.{Step, Submitted, Completed, Record}
use Rattle.disk_model.specs.CrashValues.{MayLeave}
use Rattle.disk_model.specs.ValueList.{has_completed, is_overtaken, is_dropped, values}
use Rattle.dev_shelf.specs.ChosenImage.{chosen_values, disk_values, row_values}
use Rattle.dev_shelf.specs.DiskRow.{image_of, lengths_of, steps_onto}

-- what the row told after its first so many steps
abbrev pub told_after : DiskRow → ℕ → Record
told_after row count = record { opened = image_of row.opened.items; steps = steps_onto row.written.items [] (take count row.steps.items) }

-- the write has this tag, or is the opening, which has none
abbrev pub is_write : ℕ → Option ℕ → Bool
is_write tag None = true
is_write tag (Some write) = tag == write

-- what a pass over these steps has seen of the write
pub record IsSeen (seen : WriteSeen) (steps : List Step) (flush pv sector : ℕ) (write : Option ℕ) : Type 0 where
  pub completed : seen.completed ≡ has_completed steps write
  pub overtaken : seen.overtaken ≡ is_overtaken steps pv sector write
  pub dropped : seen.dropped ≡ is_dropped steps flush pv sector write

-- a crash may leave the value in the sector
abbrev pub IsPossible : Record → ℕ → ℕ → List ℕ → Type 0
IsPossible told pv sector value = (write : Option ℕ) × MayLeave told.opened told.steps pv sector write value

-- the choices that are left after these lists of values
abbrev pub choices_left : List (List (Option ℕ × List ℕ)) → List ℕ → List ℕ
choices_left [] choices = choices
choices_left (all ∷ rest) choices = choices_left rest (if nat_lt 1 (length all) then drop 1 choices else choices)

-- the first so many sectors of the disk take their values by the choices, and leave these
pub record TakesSectors (told : Record) (pv count : ℕ) (choices : List ℕ) (sectors : List (List ℕ)) (left : List ℕ) : Type 0 where
  pub chosen_so : sectors ≡ chosen_values (disk_values told pv count) choices
  pub left_so : left ≡ choices_left (disk_values told pv count) choices
  pub many : length sectors ≡ count
  pub each : (sector : ℕ) → sector < count → IsPossible told pv sector (slice_index_or sectors sector [])

-- the first so many disks do
pub record TakesDisks (told : Record) (sizes : List ℕ) (count : ℕ) (choices : List ℕ) (disks : List (List (List ℕ))) (left : List ℕ) : Type
    0 where
  pub chosen_so : flat_map (λ disk. disk) disks ≡ chosen_values (row_values told sizes count) choices
  pub left_so : left ≡ choices_left (row_values told sizes count) choices
  pub sizes_so : lengths_of disks ≡ take count sizes
  pub each : (pv sector : ℕ) → pv < count → sector < slice_index sizes pv → IsPossible told pv sector (image_of disks pv sector)

-- one value is taken of the sector, and leaves these choices
pub record TakesOne (told : Record) (pv sector : ℕ) (choices : List ℕ) (value : List ℕ) (left : List ℕ) : Type 0 where
  pub chosen_so : chosen_values (values told.opened told.steps pv sector ∷ []) choices ≡ value ∷ []
  pub left_so : left ≡ choices_left (values told.opened told.steps pv sector ∷ []) choices
  pub is_value : (k : ℕ) × (k < length (values told.opened told.steps pv sector))
      × ((slice_index_or (values told.opened told.steps pv sector) k (None, [])).1 ≡ value)

-- whether one of these steps is of a write of the sector
abbrev pub is_touched : List Step → ℕ → ℕ → Bool
is_touched [] pv sector = false
is_touched (Submitted tag work ∷ steps) pv sector = writes work pv sector || is_touched steps pv sector
is_touched (Completed tag work well fresh ∷ steps) pv sector = writes work pv sector || is_touched steps pv sector

-- whether the sector is one of the first so many of the span
abbrev pub covers_place : Span → ℕ → ℕ → Bool
covers_place span count sector = nat_le span.first sector && nat_lt sector (span.first + count)

-- whether the recorded operation writes the sector
abbrev pub is_written : RecordedWork → ℕ → ℕ → Bool
is_written (Reads span) pv sector = false
is_written (Writes span from) pv sector = covers span pv sector
is_written (Flushes disk) pv sector = false

-- what the recorded operation writes to the disk lies within so many sectors
abbrev pub IsWrittenWithin : RecordedWork → ℕ → ℕ → Type 0
IsWrittenWithin (Reads span) pv count = Unit {0}
IsWrittenWithin (Writes span from) pv count = span.pv ≡ pv → span.first + span.count ≤ count
IsWrittenWithin (Flushes disk) pv count = Unit {0}
