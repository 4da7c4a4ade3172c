-- What a row in memory reads off its record about holds, each as its contract below says it of the record itself.
use Rattle.std.specs.Prelude.{ℕ, nat_le, nat_lt, ◌==◌, ◌&&◌, Bool, false, not, List, filter}
use Rattle.std.specs.List.{list_any}
use Rattle.dev_shelf.specs.declared.plan.Hold.{Hold}
use Rattle.dev_shelf.specs.declared.mem_shelf.disk_row.DiskRow.{DiskRow}
use Rattle.dev_shelf.specs.declared.mem_shelf.holding.Holding.{Holding}
use Rattle.dev_shelf.specs.declared.mem_shelf.recorded.RecordedOp.{RecordedOp}
use Rattle.dev_shelf.specs.declared.mem_shelf.recorded.RecordedWork.{RecordedWork}
use Rattle.dev_shelf.specs.declared.mem_shelf.recorded.RecordedWork.TheVariants.{Reads, Writes, Flushes}
use Rattle.dev_shelf.specs.declared.mem_shelf.recorded.RecordedStep.{RecordedStep}
use Rattle.dev_shelf.specs.declared.mem_shelf.recorded.RecordedStep.TheVariants.{Began, Ended}
use Rattle.dev_shelf.specs.RowValues.{is_written}

-- whether the recorded operation flushes the disk
abbrev pub is_flush_of : ℕ → RecordedWork → Bool
is_flush_of pv (Reads span) = false
is_flush_of pv (Writes span from) = false
is_flush_of pv (Flushes disk) = disk == pv

-- in the step a flush of the disk completed well that was submitted after this tag
abbrev pub is_flush_after : ℕ → ℕ → RecordedStep → Bool
is_flush_after pv tag (Began flush work) = false
is_flush_after pv tag (Ended flush work well fresh) = well && is_flush_of pv work && nat_lt tag flush

-- in the step the write that the hold waits for completed well, and in one of all steps a later flush of its disk
abbrev pub is_flushed_write : List RecordedStep → Hold → RecordedStep → Bool
is_flushed_write all hold (Began tag work) = false
is_flushed_write all hold (Ended tag work well fresh) =
    well && is_written work hold.until_pv hold.until && list_any (is_flush_after hold.until_pv tag) all

-- what the hold waits for has come
abbrev pub has_come_at : List RecordedStep → Hold → Bool
has_come_at steps hold = list_any (is_flushed_write steps hold) steps

-- the hold keeps the operation back
abbrev pub is_kept_at : List RecordedStep → RecordedWork → Hold → Bool
is_kept_at steps work hold = is_written work hold.pv hold.sector && not (has_come_at steps hold)

-- the operation in flight is held
abbrev pub is_held_at : Holding → List RecordedStep → RecordedOp → Bool
is_held_at holding steps op = nat_le holding.let_go op.tag && list_any (is_kept_at steps op.work) holding.holds.items

-- the operations in flight that are ready
abbrev pub ready_at : Holding → DiskRow → List RecordedOp
ready_at holding row = filter (λ op. not (is_held_at holding row.steps.items op)) row.in_flight.items
