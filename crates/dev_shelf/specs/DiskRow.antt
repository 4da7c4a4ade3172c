-- What a row of disks in memory stands for.
use Rattle.std.specs.Prelude.{ℕ, true, List, [], ◌∷◌, length, take, drop, map, replicate, slice_index_or, Some}
use Rattle.dev_shelf.specs.declared.mem_shelf.recorded.RecordedWork.{RecordedWork}
use Rattle.dev_shelf.specs.declared.mem_shelf.recorded.RecordedWork.TheVariants.{Reads, Writes, Flushes}
use Rattle.dev_shelf.specs.declared.mem_shelf.recorded.RecordedOp.{RecordedOp}
use Rattle.dev_shelf.specs.declared.mem_shelf.recorded.RecordedStep.{RecordedStep}
use Rattle.dev_shelf.specs.declared.mem_shelf.recorded.RecordedStep.TheVariants.{Began, Ended}
use Rattle.dev_shelf.specs.declared.mem_shelf.disk_row.DiskRow.{DiskRow}
use Rattle.disk_model.specs.Steps.{Image, Work, Reading, Writing, Flushing, Step, Submitted, Completed, Record}
use Rattle.disk_model.specs.Record.{Operation}
use Rattle.disk_model.specs.State.{State}
use Rattle.op_queue.specs.Queue.{opened_state, state_of as queue_state}

-- what stands in each sector of these disks
abbrev pub image_of : List (List (List ℕ)) → Image
image_of disks pv sector = slice_index_or (slice_index_or disks pv []) sector []

-- how many sectors each of these disks has
abbrev pub lengths_of : List (List (List ℕ)) → List ℕ
lengths_of disks = map (λ (disk : List (List ℕ)). length disk) disks

-- the state of a row of these disks that was just made
abbrev pub new_state : List (List (List ℕ)) → State
new_state images = record (opened_state (lengths_of images)) { told = Some (record { opened = image_of images; steps = [] }) }

-- what a recorded operation does; the sectors of a write stand among all that were written, from a place on
abbrev pub work_at : List (List ℕ) → RecordedWork → Work
work_at written (Reads span) = Reading span
work_at written (Writes span from) = Writing span (take span.count (drop from written))
work_at written (Flushes pv) = Flushing pv

-- the operation in flight that is recorded so
abbrev pub operation_at : List (List ℕ) → RecordedOp → Operation
operation_at written op = record { tag = op.tag; work = work_at written op.work }

-- the step that is recorded so
abbrev pub step_at : List (List ℕ) → RecordedStep → Step
step_at written (Began tag work) = Submitted tag (work_at written work)
step_at written (Ended tag work well fresh) = Completed tag (work_at written work) well (replicate fresh true)

-- the steps that are recorded so, the newest first, on top of earlier ones
abbrev pub steps_onto : List (List ℕ) → List Step → List RecordedStep → List Step
steps_onto written earlier [] = earlier
steps_onto written earlier (r ∷ rs) = steps_onto written (step_at written r ∷ earlier) rs

-- the record of the row
abbrev pub steps_of : DiskRow → List Step
steps_of row = steps_onto row.written.items [] row.steps.items

-- how many sectors each disk of the row has
abbrev pub sizes_of : DiskRow → List ℕ
sizes_of row = lengths_of row.opened.items

-- what the row tells: the opened images and the record
abbrev pub told_by : DiskRow → Record
told_by row = record { opened = image_of row.opened.items; steps = steps_of row }

-- the state that the row stands for: its queue's, with what the row tells
abbrev pub state_of : DiskRow → State
state_of row = record (queue_state row.queue) { told = Some (told_by row) }
