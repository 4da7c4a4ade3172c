-- A row in memory, after one completion.
use Rattle.std.proofs.Common.{◌≡◌, ◌<◌, ℕ, ◌+◌, vec_len, vec_capacity, Bool, true, false, List, [], ◌∷◌, ◌++◌, length, remove, replicate}
use Rattle.std.proofs.Common.{get_or, Some, refl, sym, ap, subst, ◌∙◌, arith}
use Rattle.std.proofs.lemmas.List.{length-map, get_or-map}
use Rattle.std.proofs.lemmas.List.Elements.{All-push}
use Rattle.disk_model.specs.declared.ops.Op.{Op}
use Rattle.disk_model.specs.declared.ops.Op.TheVariants.{Read, Write, Flush}
use Rattle.disk_model.specs.declared.ops.Done.{Done}
use Rattle.disk_model.specs.Steps.{Image, Work, Reading, Writing, Flushing, Step, Completed, Record, now_after}
use Rattle.disk_model.specs.Record.{Operation, in_flight_after, work_of_tag}
use Rattle.disk_model.specs.Operations.{Lies, work_of}
use Rattle.disk_model.specs.Reading.{Reads as Gives}
use Rattle.disk_model.specs.Calls.{Completes}
use Rattle.op_queue.specs.declared.queue.OpQueue.{OpQueue}
use Rattle.op_queue.specs.Queue.{state_of as queue_state}
use Rattle.op_queue.specs.QueueInvariant.{IsGood as IsGoodQueue, lawful_of as queue_lawful}
use Rattle.op_queue.specs.Completing.{CompletesAt, IsTakenFrom}
use Rattle.op_queue.proofs.Completion.{carried_out}
use Rattle.op_queue.proofs.Removed.{All-remove, found_at, map-remove}
use Rattle.op_queue.proofs.Telling.{completes_telling}
use Rattle.dev_shelf.specs.declared.mem_shelf.recorded.RecordedOp.{RecordedOp}
use Rattle.dev_shelf.specs.declared.mem_shelf.recorded.RecordedStep.{RecordedStep}
use Rattle.dev_shelf.specs.declared.mem_shelf.recorded.RecordedStep.TheVariants.{Ended}
use Rattle.dev_shelf.specs.declared.mem_shelf.disk_row.DiskRow.{DiskRow}
use Rattle.dev_shelf.specs.DiskRow.{image_of, lengths_of, operation_at, work_at, steps_of, sizes_of, told_by, state_of}
use Rattle.dev_shelf.specs.DiskRowInvariant.{IsKept, recorded_work, ReadsImage, IsGood}
use Rattle.dev_shelf.proofs.Recorded.{steps_push}
use Rattle.dev_shelf.proofs.RowSubmits.{HasKept, within_of}

-- what a read gives after a completion, from what one gave before
pub now_on : (opened : Image) (steps : List Step) (tag : ℕ) (work : Work) (well : Bool) (fresh : List Bool) (pv s : ℕ)
    → now_after opened (Completed tag work well fresh ∷ steps) pv s
    ≡ now_after (now_after opened steps) (Completed 0 work well fresh ∷ []) pv s
now_on opened steps tag (Reading span) well fresh pv s = refl
now_on opened steps tag (Writing span sectors) well fresh pv s = refl
now_on opened steps tag (Flushing disk) well fresh pv s = refl

-- and the same from what was the same before
now_same : (a b : Image) → ((pv s : ℕ) → a pv s ≡ b pv s) → (work : Work) (well : Bool) (fresh : List Bool) (pv s : ℕ)
    → now_after a (Completed 0 work well fresh ∷ []) pv s ≡ now_after b (Completed 0 work well fresh ∷ []) pv s
now_same a b h (Reading span) well fresh pv s = h pv s
now_same a b h (Writing span sectors) well fresh pv s = rw (h pv s) refl
now_same a b h (Flushing disk) well fresh pv s = h pv s

-- a read of the disks as they are now reads what the record gives
pub reads_now : (told : Record) (image : Image) (tag : ℕ) (op : Op) (well : Bool)
    → ((pv s : ℕ) → image pv s ≡ now_after told.opened told.steps pv s) → ReadsImage image op well → Gives told tag op well
reads_now told image tag (Read span buffer) true h r = λ pv s inside alone. r pv s inside ∙ h pv s
reads_now told image tag (Read span buffer) false h r = tt
reads_now told image tag (Write span sectors) well h r = tt
reads_now told image tag (Flush pv) well h r = tt

-- as much is recorded as is in flight
pub as_many : (row : DiskRow) → IsGood row → length row.in_flight.items ≡ length (queue_state row.queue).in_flight
as_many row good =
    sym (length-map row.in_flight.items (operation_at row.written.items)) ∙ ap (λ (l : List Operation). length l) good.recorded

-- the operation that was taken out was carried out on the disks as they are now
pub carried_out_on : (old : DiskRow) (at tag : ℕ) (op done : Op) (rest : OpQueue) → IsGood old → IsTakenFrom old.queue at tag op rest
    → work_of done ≡ work_of op → Lies (lengths_of old.current.items) done → IsTakenFrom old.queue at tag done rest
carried_out_on old at tag op done rest good taken same lies =
    carried_out old.queue at tag op done rest taken same (subst (λ (l : List ℕ). Lies l done) (good.shape ∙ sym good.sizes) lies)

-- the completion of the operation at this place
module _ (old new : DiskRow) (at : ℕ) (op : RecordedOp) (done : Done) (fresh : ℕ) (good : IsGood old)
    (completes : CompletesAt (queue_state old.queue) at done (queue_state new.queue)) (which : op ≡ get_or old.in_flight.items at op)
    (in_flight : new.in_flight.items ≡ remove old.in_flight.items at)
    (steps : new.steps.items ≡ old.steps.items ++ Ended done.tag op.work done.well fresh ∷ [])
    (written : new.written ≡ old.written) (opened : new.opened ≡ old.opened) where
  here : at < length old.in_flight.items
  here = omega (arith, completes.here, as_many old good)

  kept_so : IsKept (length old.written.items) op.work
  kept_so = subst (HasKept (length old.written.items)) (sym which) (good.recorded_kept at op here)

  -- what was recorded of it is what it does
  recorded_so : work_at old.written.items op.work ≡ work_of done.op
  recorded_so =
      let work_in : Operation → Work = λ o. o.work in
      let o : Operation = record { tag = done.tag; work = work_of done.op } in
      ap work_in
      (ap (operation_at old.written.items) which
      ∙ sym (get_or-map (operation_at old.written.items) old.in_flight.items at op o here)
      ∙ ap (λ (l : List Operation). get_or l at o) good.recorded
      ∙ completes.which)

  -- the record has the completion
  pub steps_ended : steps_of new ≡ Completed done.tag (work_of done.op) done.well (replicate fresh true) ∷ steps_of old
  steps_ended =
      rw (steps, written) (steps_push old.written.items [] old.steps.items (Ended done.tag op.work done.well fresh))
      ∙ ap (λ (w : Work). Completed done.tag w done.well (replicate fresh true) ∷ steps_of old) recorded_so

  -- its tag finds what it does
  work_found : work_of_tag (in_flight_after (steps_of old)) done.tag ≡ Some (work_of done.op)
  work_found =
      rw (← good.in_flight) (found_at (queue_state old.queue).in_flight at (record { tag = done.tag; work = work_of done.op })
      completes.here completes.which (queue_lawful old.queue good.queue).order)

  -- so the row's state has it
  pub completes_ended : ReadsImage (image_of old.current.items) done.op done.well → Completes (state_of old) done (state_of new)
  completes_ended reads =
      completes_telling (queue_state old.queue) (queue_state new.queue) done (told_by old) (told_by new) (replicate fresh true)
      completes.completes
      (rw opened (ap (λ (l : List Step). record { opened = image_of old.opened.items; steps = l }) steps_ended))
      (reads_now (told_by old) (image_of old.current.items) done.tag done.op done.well good.now reads)

  -- the row is good
  pub good_ended : IsGoodQueue new.queue
      → ((pv s : ℕ) → image_of new.current.items pv s
      ≡ now_after (image_of old.current.items) (Completed 0 (work_of done.op) done.well (replicate fresh true) ∷ []) pv s)
      → lengths_of new.current.items ≡ lengths_of old.current.items
      → vec_len new.in_flight + 1 ≡ vec_len old.in_flight → vec_capacity new.in_flight ≡ vec_capacity old.in_flight
      → vec_len new.steps ≡ vec_len old.steps + 1 → vec_capacity new.steps ≡ vec_capacity old.steps → IsGood new
  good_ended queue now shape len_flying cap_flying len_steps cap_steps = record {
    queue = queue;
    sizes = rw opened (completes.completes.sizes ∙ good.sizes);
    in_flight = completes.completes.in_flight ∙ rw (good.in_flight, steps_ended) refl;
    recorded = rw (in_flight, written)
        (map-remove (operation_at old.written.items) old.in_flight.items at
        ∙ ap (λ (l : List Operation). remove l at) good.recorded
        ∙ sym completes.in_flight);
    recorded_kept = rw (in_flight, written) (All-remove (HasKept (length old.written.items)) old.in_flight.items at good.recorded_kept);
    follows = rw steps_ended (work_found, good.follows);
    next = rw (steps_ended, completes.completes.next) good.next;
    within =
        rw (opened, steps_ended) (
          within_of (sizes_of old) done.op
              (subst (λ (l : List ℕ). Lies l done.op) good.sizes completes.completes.lies),
          good.within,
        );
    kept =
        rw (steps, written) (All-push (λ (e : RecordedStep). IsKept (length old.written.items) (recorded_work e)) old.steps.items
        (Ended done.tag op.work done.well fresh) good.kept kept_so);
    opened_sectors = rw opened good.opened_sectors;
    written_sectors = rw written good.written_sectors;
    now = λ pv s. now pv s
        ∙ now_same (image_of old.current.items) (now_after (image_of old.opened.items) (steps_of old)) good.now (work_of done.op) done.well
        (replicate fresh true) pv s
        ∙ sym (now_on (image_of old.opened.items) (steps_of old) done.tag (work_of done.op) done.well (replicate fresh true) pv s)
        ∙ rw (opened, steps_ended) refl;
    shape = rw opened (shape ∙ good.shape);
    count = rw opened good.count;
    steps = omega (arith, good.steps, completes.completes.steps, len_steps);
    steps_room = omega (arith, good.steps_room, completes.spare_ops, completes.completes.fewer, len_steps, cap_steps);
    recorded_room = omega (arith, good.recorded_room, completes.spare_ops, len_flying, cap_flying);
    written_room = rw written (omega (arith, good.written_room, completes.spare_sectors));
  }
