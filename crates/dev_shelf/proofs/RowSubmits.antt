-- A row in memory, after one submission.
use Rattle.std.proofs.Common.{◌≡◌, ◌≤◌, ℕ, ◌+◌, vec_len, vec_capacity, All, List, [], ◌∷◌, ◌++◌, length, map, refl, sym, subst, ap, ◌∙◌}
use Rattle.std.proofs.Common.{arith, length-append}
use Rattle.std.proofs.lemmas.List.{map-append}
use Rattle.std.proofs.lemmas.List.Elements.{All-append, All-head, All-push, All-tail, All-weaker}
use Rattle.sector_base.specs.Sectors.{IsSector}
use Rattle.disk_model.specs.declared.ops.Op.{Op}
use Rattle.disk_model.specs.declared.ops.Op.TheVariants.{Read, Write, Flush}
use Rattle.disk_model.specs.Steps.{Work, Step, Submitted, Completed}
use Rattle.disk_model.specs.Record.{IsNewTag, Operation}
use Rattle.disk_model.specs.Operations.{Lies, work_of, sectors_of}
use Rattle.disk_model.specs.Calls.{Submits}
use Rattle.op_queue.specs.Queue.{state_of as queue_state}
use Rattle.op_queue.specs.QueueInvariant.{IsGood as IsGoodQueue}
use Rattle.op_queue.proofs.Telling.{submits_telling}
use Rattle.dev_shelf.specs.declared.mem_shelf.recorded.RecordedWork.{RecordedWork}
use Rattle.dev_shelf.specs.declared.mem_shelf.recorded.RecordedOp.{RecordedOp}
use Rattle.dev_shelf.specs.declared.mem_shelf.recorded.RecordedStep.{RecordedStep}
use Rattle.dev_shelf.specs.declared.mem_shelf.recorded.RecordedStep.TheVariants.{Began}
use Rattle.dev_shelf.specs.declared.mem_shelf.disk_row.DiskRow.{DiskRow}
use Rattle.dev_shelf.specs.DiskRow.{image_of, operation_at, work_at, steps_onto, steps_of, sizes_of, told_by, state_of}
use Rattle.dev_shelf.specs.DiskRowInvariant.{IsKept, recorded_work, WritesWithin, IsGood}
use Rattle.dev_shelf.proofs.Recorded.{work_kept, steps_kept, steps_push, kept_more}

-- a tag that is new is new below a greater one
pub new_more : (n m : ℕ) (steps : List Step) → n ≤ m → IsNewTag n steps → IsNewTag m steps
new_more n m [] le h = tt
new_more n m (Submitted t work ∷ steps) le h = (omega (arith, h.0), new_more n m steps le h.1)
new_more n m (Completed t work well fresh ∷ steps) le h = new_more n m steps le h

-- an operation that lies in its disk writes within it
pub within_of : (sizes : List ℕ) (op : Op) → Lies sizes op → WritesWithin sizes (work_of op)
within_of sizes (Read span buffer) lies = tt
within_of sizes (Write span sectors) lies = lies
within_of sizes (Flush pv) lies = tt

-- the operation's sectors are among so many that are kept
abbrev pub HasKept : ℕ → RecordedOp → Type 0
HasKept size op = IsKept size op.work

-- what is recorded of operations stays so where more sectors are kept
ops_kept : (written more : List (List ℕ)) (ops : List RecordedOp) → All (HasKept (length written)) ops
    → map (operation_at (written ++ more)) ops ≡ map (operation_at written) ops
ops_kept written more [] h = refl
ops_kept written more (op ∷ ops) h =
    let P : RecordedOp → Type 0 = HasKept (length written) in
    let here : work_at (written ++ more) op.work ≡ work_at written op.work = work_kept written more op.work (All-head P op ops h) in
    rw (here, ops_kept written more ops (All-tail P op ops h)) refl

-- the submission of an operation
module _ (old new : DiskRow) (op : Op) (tag : ℕ) (recorded : RecordedWork) (more : List (List ℕ)) (good : IsGood old)
    (lies : Lies (queue_state old.queue).sizes op)
    (written : new.written.items ≡ old.written.items ++ more) (steps : new.steps.items ≡ old.steps.items ++ Began tag recorded ∷ [])
    (in_flight : new.in_flight.items ≡ old.in_flight.items ++ record { tag = tag; work = recorded } ∷ [])
    (work : work_at new.written.items recorded ≡ work_of op) (kept : IsKept (length new.written.items) recorded)
    (opened : new.opened ≡ old.opened) (submits : Submits (queue_state old.queue) op tag (queue_state new.queue)) where
  -- the record has the submission
  steps_new : steps_of new ≡ Submitted tag (work_of op) ∷ steps_of old
  steps_new =
      rw steps (steps_push new.written.items [] old.steps.items (Began tag recorded))
      ∙ ap (λ (w : Work). Submitted tag w ∷ steps_onto new.written.items [] old.steps.items) work
      ∙ ap (λ (l : List Step). Submitted tag (work_of op) ∷ l) (rw written (steps_kept old.written.items more [] old.steps.items good.kept))

  -- so the row's state has it
  pub submits_new : Submits (state_of old) op tag (state_of new)
  submits_new =
      submits_telling (queue_state old.queue) (queue_state new.queue) op tag (told_by old) (told_by new) submits
      (rw opened (ap (λ (l : List Step). record { opened = image_of old.opened.items; steps = l }) steps_new))

  -- no sector is lost
  longer : length old.written.items ≤ length new.written.items
  longer = omega (arith, ap (λ (l : List (List ℕ)). length l) written, length-append old.written.items more)

  -- each operation in flight is recorded
  recorded_new : map (operation_at new.written.items) new.in_flight.items ≡ (queue_state new.queue).in_flight
  recorded_new =
      let one : work_at (old.written.items ++ more) recorded ≡ work_of op =
      subst (λ (l : List (List ℕ)). work_at l recorded ≡ work_of op) written work in
      let with_work : Work → Operation = λ w. record { tag = tag; work = w } in
      rw (in_flight, written)
      (map-append (operation_at (old.written.items ++ more)) old.in_flight.items (record { tag = tag; work = recorded } ∷ [])
      ∙ ap (λ (l : List Operation). l ++ with_work (work_at (old.written.items ++ more) recorded) ∷ [])
      (ops_kept old.written.items more old.in_flight.items good.recorded_kept ∙ good.recorded)
      ∙ ap (λ (w : Work). (queue_state old.queue).in_flight ++ with_work w ∷ []) one)
      ∙ sym submits.in_flight

  -- the row is good
  pub good_new : IsGoodQueue new.queue → new.current ≡ old.current → All IsSector more
      → vec_len new.written ≤ vec_len old.written + sectors_of op → vec_capacity new.written ≡ vec_capacity old.written
      → vec_len new.in_flight ≡ vec_len old.in_flight + 1 → vec_capacity new.in_flight ≡ vec_capacity old.in_flight
      → vec_len new.steps ≡ vec_len old.steps + 1 → vec_capacity new.steps ≡ vec_capacity old.steps → IsGood new
  good_new queue now sectors len_written cap_written len_flying cap_flying len_steps cap_steps =
      let one_more : length (queue_state new.queue).in_flight ≡ length (queue_state old.queue).in_flight + 1 =
      ap (λ (l : List Operation). length l) submits.in_flight
      ∙ length-append (queue_state old.queue).in_flight (record { tag = tag; work = work_of op } ∷ []) in
      record {
        queue = queue;
        sizes = rw opened (submits.sizes ∙ good.sizes);
        in_flight = submits.in_flight ∙ rw (good.in_flight, steps_new) refl;
        recorded = recorded_new;
        recorded_kept = rw in_flight
            (All-push (HasKept (length new.written.items)) old.in_flight.items (record { tag = tag; work = recorded })
            (All-weaker (HasKept (length old.written.items)) (HasKept (length new.written.items)) (λ o h. kept_more _ _ o.work longer h)
            old.in_flight.items good.recorded_kept) kept);
        follows = rw steps_new (new_more _ tag (steps_of old) submits.fresh good.next, good.follows);
        next = rw steps_new (submits.next, new_more _ _ (steps_of old) (omega (arith, submits.fresh, submits.next)) good.next);
        within = rw (opened, steps_new) (within_of (sizes_of old) op (subst (λ (l : List ℕ). Lies l op) good.sizes lies), good.within);
        kept =
            rw steps (All-push (λ (e : RecordedStep). IsKept (length new.written.items) (recorded_work e)) old.steps.items
            (Began tag recorded) (All-weaker (λ (e : RecordedStep). IsKept (length old.written.items) (recorded_work e))
            (λ (e : RecordedStep). IsKept (length new.written.items) (recorded_work e))
            (λ e h. kept_more _ _ (recorded_work e) longer h) old.steps.items good.kept) kept);
        opened_sectors = rw opened good.opened_sectors;
        written_sectors = rw written (All-append IsSector old.written.items more good.written_sectors sectors);
        now = rw (now, opened, steps_new) good.now;
        shape = rw (now, opened) good.shape;
        count = rw opened good.count;
        steps = omega (arith, good.steps, submits.steps, len_steps);
        steps_room = omega (arith, good.steps_room, submits.spare_ops, one_more, len_steps, cap_steps);
        recorded_room = omega (arith, good.recorded_room, submits.spare_ops, len_flying, cap_flying);
        written_room = omega (arith, good.written_room, submits.spare_sectors, len_written, cap_written);
      }
