-- What holds of every row of disks in memory, and that it makes the row's state lawful.
use Rattle.std.specs.Prelude.{◌≡◌, ◌≤◌, ◌<◌, ℕ, ◌+◌, ◌*◌, ◌^◌, Bool, true, List, [], ◌∷◌, length, map, slice_index_or, vec_len}
use Rattle.std.specs.Prelude.{vec_capacity, All, IsTrue, if◌then◌else◌, min}
use Rattle.sector_base.specs.Spans.{covers}
use Rattle.sector_base.specs.declared.spans.Span.{Span}
use Rattle.sector_base.specs.Sectors.{IsSector}
use Rattle.disk_model.specs.Brought.{BringOnly}
use Rattle.std.proofs.lemmas.Bool.Decides.{nat_tests}
use Rattle.disk_model.specs.declared.ops.Op.{Op}
use Rattle.disk_model.specs.declared.ops.Op.TheVariants.{Read}
use Rattle.dev_shelf.specs.declared.mem_shelf.recorded.RecordedWork.{RecordedWork}
use Rattle.dev_shelf.specs.declared.mem_shelf.recorded.RecordedWork.TheVariants.{Reads, Writes, Flushes}
use Rattle.dev_shelf.specs.declared.mem_shelf.recorded.RecordedOp.{RecordedOp}
use Rattle.dev_shelf.specs.declared.mem_shelf.recorded.RecordedStep.{RecordedStep}
use Rattle.dev_shelf.specs.declared.mem_shelf.recorded.RecordedStep.TheVariants.{Began, Ended}
use Rattle.dev_shelf.specs.declared.mem_shelf.disk_row.DiskRow.{DiskRow}
use Rattle.disk_model.specs.Steps.{Image, Work, Reading, Writing, Flushing, Step, Submitted, Completed, now_after, value_at}
use Rattle.disk_model.specs.Record.{in_flight_after, IsRecord, IsNewTag}
use Rattle.disk_model.specs.Operations.{Fills}
use Rattle.disk_model.specs.State.{IsLawful}
use Rattle.op_queue.specs.Queue.{state_of as queue_state}
use Rattle.op_queue.specs.QueueInvariant.{IsGood as IsGoodQueue, good_prop as queue_prop, lawful_of as queue_lawful}
use Rattle.op_queue.proofs.Telling.{lawful_telling}
use Rattle.dev_shelf.specs.DiskRow.{image_of, lengths_of, operation_at, step_at, steps_onto, steps_of, sizes_of, told_by, state_of}
use Rattle.std.proofs.Common.{arith, subst, sym, ◌∙◌, zero, suc, ◌-◌, drop}
use Rattle.std.proofs.Props.{props}
use Rattle.std.proofs.lemmas.List.Elements.{All-head, All-tail}
use Rattle.std.proofs.lemmas.List.{get_or-drop, get_or-take}

-- how many sectors of a write are new
abbrev pub fresh_of : ℕ → Bool → ℕ → ℕ
fresh_of count well fresh = if well then count else min fresh count

-- the buffer of a read that went well holds the sectors of the image
abbrev pub ReadsImage : Image → Op → Bool → Type 0
ReadsImage image (Read span buffer) true = (pv sector : ℕ) → IsTrue (covers span pv sector) → value_at span buffer sector ≡ image pv sector
ReadsImage image _ _ = Unit {0}

-- the sectors of the recorded operation stand among so many that were written
abbrev pub IsKept : ℕ → RecordedWork → Type 0
IsKept size (Reads span) = Unit {0}
IsKept size (Writes span from) = from + span.count ≤ size
IsKept size (Flushes pv) = Unit {0}

-- the operation of a recorded step
abbrev pub recorded_work : RecordedStep → RecordedWork
recorded_work (Began tag work) = work
recorded_work (Ended tag work well fresh) = work

-- the work is no write, or one that lies in disks of these sizes
abbrev pub WritesWithin : List ℕ → Work → Type 0
WritesWithin sizes (Writing span sectors) = Fills sizes span sectors
WritesWithin sizes (Reading span) = Unit {0}
WritesWithin sizes (Flushing pv) = Unit {0}

-- each write of these steps lies in disks of these sizes
abbrev pub AllWithin : List ℕ → List Step → Type 0
AllWithin sizes [] = Unit {0}
AllWithin sizes (Submitted tag work ∷ steps) = WritesWithin sizes work × AllWithin sizes steps
AllWithin sizes (Completed tag work well fresh ∷ steps) = WritesWithin sizes work × AllWithin sizes steps

-- what holds of every row
pub record IsGood (row : DiskRow) : Type 0 where
  pub queue : IsGoodQueue row.queue
  pub sizes : (queue_state row.queue).sizes ≡ sizes_of row
  pub in_flight : (queue_state row.queue).in_flight ≡ in_flight_after (steps_of row)
  -- each operation in flight is recorded
  pub recorded : map (operation_at row.written.items) row.in_flight.items ≡ (queue_state row.queue).in_flight
  pub recorded_kept : All (λ (op : RecordedOp). IsKept (length row.written.items) op.work) row.in_flight.items
  pub follows : IsRecord (steps_of row)
  pub next : IsNewTag (queue_state row.queue).next_tag (steps_of row)
  pub within : AllWithin (sizes_of row) (steps_of row)
  pub kept : All (λ (r : RecordedStep). IsKept (length row.written.items) (recorded_work r)) row.steps.items
  -- each sector has 512 bytes
  pub opened_sectors : All (All IsSector) row.opened.items
  pub written_sectors : All IsSector row.written.items
  pub now : (pv sector : ℕ) → image_of row.current.items pv sector ≡ now_after (image_of row.opened.items) (steps_of row) pv sector
  pub shape : lengths_of row.current.items ≡ sizes_of row
  pub count : vec_len row.opened < 2 ^ 32
  pub steps : vec_len row.steps ≡ (queue_state row.queue).steps
  pub steps_room : vec_len row.steps + 2 * (queue_state row.queue).spare_ops + length (queue_state row.queue).in_flight
      ≤ vec_capacity row.steps
  pub recorded_room : vec_len row.in_flight + (queue_state row.queue).spare_ops ≤ vec_capacity row.in_flight
  pub written_room : vec_len row.written + (queue_state row.queue).spare_sectors ≤ vec_capacity row.written

-- each recorded step is a step
pub length_onto : (written : List (List ℕ)) (earlier : List Step) (rs : List RecordedStep)
    → length (steps_onto written earlier rs) ≡ length rs + length earlier
length_onto written earlier [] = omega arith
length_onto written earlier (r ∷ rs) = omega (arith, length_onto written (step_at written r ∷ earlier) rs)

-- each sector of disks of sectors is one
opened_sector : (disks : List (List (List ℕ))) → All (All IsSector) disks → (pv sector : ℕ)
    → sector < slice_index_or (lengths_of disks) pv 0 → IsSector (image_of disks pv sector)
opened_sector [] all pv sector lt = absurd (omega arith)
opened_sector (disk ∷ disks) all zero sector lt = All-head (All IsSector) disk disks all sector [] lt
opened_sector (disk ∷ disks) all (suc pv) sector lt = opened_sector disks (All-tail (All IsSector) disk disks all) pv sector lt

abbrev IsAnySector : ℕ → ℕ → List ℕ → Type 0
IsAnySector pv sector value = IsSector value

in_span : (span : Span) (pv sector : ℕ) → IsTrue (covers span pv sector) → sector - span.first < span.count
in_span span pv sector h = grind (arith, nat_tests)

-- a step that is recorded so brings sectors
brings_step : (written : List (List ℕ)) → All IsSector written → (r : RecordedStep) → IsKept (length written) (recorded_work r)
    → (earlier : List Step) → BringOnly IsAnySector earlier → BringOnly IsAnySector (step_at written r ∷ earlier)
brings_step written all (Began tag (Reads span)) kept earlier b = b
brings_step written all (Began tag (Flushes pv)) kept earlier b = b
brings_step written all (Began tag (Writes span from)) kept earlier b = (
  λ pv sector inside.
      let within : sector - span.first < span.count = in_span span pv sector inside in
      subst IsSector (sym (get_or-take span.count (drop from written) (sector - span.first) [] within
      ∙ get_or-drop from written (sector - span.first) []))
      (all (from + (sector - span.first)) [] (omega (arith, kept))),
  b,
)
brings_step written all (Ended tag work well fresh) kept earlier b = b

brings_sectors : (written : List (List ℕ)) → All IsSector written → (earlier : List Step) → BringOnly IsAnySector earlier
    → (rs : List RecordedStep) → All (λ (r : RecordedStep). IsKept (length written) (recorded_work r)) rs
    → BringOnly IsAnySector (steps_onto written earlier rs)
brings_sectors written all earlier b [] kept = b
brings_sectors written all earlier b (r ∷ rs) kept =
    let P : RecordedStep → Type 0 = λ r. IsKept (length written) (recorded_work r) in
    brings_sectors written all (step_at written r ∷ earlier) (brings_step written all r (All-head P r rs kept) earlier b) rs
    (All-tail P r rs kept)

-- the state of a row is lawful
pub lawful_of : (row : DiskRow) → IsGood row → IsLawful (state_of row)
lawful_of row good =
    lawful_telling (queue_state row.queue) (told_by row) (queue_lawful row.queue good.queue) good.follows good.next good.in_flight
    (sym good.steps ∙ omega (arith, length_onto row.written.items [] row.steps.items, row.steps.ok.0))
    (λ pv sector lt. opened_sector row.opened.items good.opened_sectors pv sector
    (subst (λ (l : List ℕ). sector < slice_index_or l pv 0) good.sizes lt))
    (brings_sectors row.written.items good.written_sectors [] tt row.steps.items good.kept)

kept_prop : (size : ℕ) (work : RecordedWork) → IsProp (IsKept size work)
kept_prop size (Reads span) = hlevel props
kept_prop size (Writes span from) = hlevel props
kept_prop size (Flushes pv) = hlevel props

work_set : IsSet Work
work_set = hlevel props

new_tag_prop : (tag : ℕ) (steps : List Step) → IsProp (IsNewTag tag steps)
new_tag_prop tag [] = hlevel props
new_tag_prop tag (Submitted t work ∷ steps) = hlevel (props, new_tag_prop tag steps)
new_tag_prop tag (Completed t work well fresh ∷ steps) = new_tag_prop tag steps

record_prop : (steps : List Step) → IsProp (IsRecord steps)
record_prop [] = hlevel props
record_prop (Submitted t work ∷ steps) = hlevel (props, new_tag_prop t steps, record_prop steps)
record_prop (Completed t work well fresh ∷ steps) = hlevel (props, work_set, record_prop steps)

writes_within_prop : (sizes : List ℕ) (work : Work) → IsProp (WritesWithin sizes work)
writes_within_prop sizes (Reading span) = hlevel props
writes_within_prop sizes (Writing span sectors) = hlevel props
writes_within_prop sizes (Flushing pv) = hlevel props

within_prop : (sizes : List ℕ) (steps : List Step) → IsProp (AllWithin sizes steps)
within_prop sizes [] = hlevel props
within_prop sizes (Submitted t work ∷ steps) = hlevel (props, writes_within_prop sizes work, within_prop sizes steps)
within_prop sizes (Completed t work well fresh ∷ steps) = hlevel (props, writes_within_prop sizes work, within_prop sizes steps)

-- it holds in one way at most, as a ghost field must
pub good_prop : (row : DiskRow) → IsProp (IsGood row)
good_prop row = hlevel (props, queue_prop, kept_prop, work_set, new_tag_prop, record_prop, within_prop)
