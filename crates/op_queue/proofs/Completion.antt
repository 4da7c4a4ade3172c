-- What is left of a queue after an operation was taken out, carried out and counted.
use Rattle.std.proofs.Common.{◌≡◌, ◌≤◌, ◌<◌, ℕ, ◌+◌, Bool, true, false, cond, not, ◌==◌, ◌&&◌, List, [], length, map, remove}
use Rattle.std.proofs.Common.{slice_index_or, vec_len, refl, ap, ◌∙◌, arith}
use Rattle.std.specs.Prelude.{if◌then◌else◌}
use Rattle.std.specs.VecDeque.{deque_len, deque_capacity}
use Rattle.std.proofs.lemmas.List.{length-map}
use Rattle.std.proofs.lemmas.List.Quantifiers.{all_pairs_remove}
use Rattle.disk_model.specs.declared.ops.Op.{Op}
use Rattle.disk_model.specs.Record.{Operation}
use Rattle.disk_model.specs.Operations.{Lies, work_of, disk_of}
use Rattle.op_queue.specs.declared.queue.OpQueue.{OpQueue}
use Rattle.op_queue.specs.Queue.{operation_of, state_of}
use Rattle.op_queue.specs.QueueInvariant.{IsGood, IsBefore, Waits, order_of}
use Rattle.op_queue.specs.Completing.{IsTakenFrom, CompletesAt}
use Rattle.op_queue.proofs.Removed.{All-remove, map-remove, filter_removed, ready_left}

-- it was carried out, and came back as the same operation
pub carried_out : (whole : OpQueue) (at tag : ℕ) (op done : Op) (rest : OpQueue) → IsTakenFrom whole at tag op rest
    → work_of done ≡ work_of op → Lies whole.sizes.items done → IsTakenFrom whole at tag done rest
carried_out whole at tag op done rest taken same lies = record {
  good = taken.good;
  here = taken.here;
  which = rw same taken.which;
  lies = lies;
  waiting = taken.waiting;
  len = taken.len;
  capacity = taken.capacity;
  sizes = taken.sizes;
  faults = taken.faults;
  spare_ops = taken.spare_ops;
  spare_sectors = taken.spare_sectors;
  steps = taken.steps;
  next_tag = taken.next_tag;
}

-- a count rises by one at most
at_most_one : (b : Bool) (x y : ℕ) → y ≡ cond b (x + 1) x → y ≤ x + 1
at_most_one true x y h = omega arith
at_most_one false x y h = omega arith

-- the operation at this place completes
module _ (whole : OpQueue) (at tag : ℕ) (op : Op) (well : Bool) (rest new : OpQueue) (taken : IsTakenFrom whole at tag op rest)
    (waiting : new.waiting ≡ rest.waiting) (sizes : new.sizes ≡ rest.sizes) (next_tag : new.next_tag ≡ rest.next_tag)
    (steps : new.steps ≡ rest.steps + 1)
    (spare_ops : new.spare_ops ≡ rest.spare_ops) (spare_sectors : new.spare_sectors ≡ rest.spare_sectors)
    (counted : vec_len new.faults ≡ vec_len rest.faults)
    (faults : (p : ℕ) → slice_index_or new.faults.items p 0
    ≡ (if not well && (disk_of op == p) then slice_index_or rest.faults.items p 0 + 1 else slice_index_or rest.faults.items p 0)) where
  -- what is left in flight
  left : new.waiting.items ≡ remove whole.waiting.items at
  left = ap (λ q. q.items) waiting ∙ taken.waiting

  len : deque_len new.waiting + 1 ≡ deque_len whole.waiting
  len = rw waiting taken.len

  capacity : deque_capacity new.waiting ≡ deque_capacity whole.waiting
  capacity = rw waiting taken.capacity

  same_sizes : new.sizes ≡ whole.sizes
  same_sizes = sizes ∙ taken.sizes

  same_tag : new.next_tag ≡ whole.next_tag
  same_tag = next_tag ∙ taken.next_tag

  -- the counts of faults
  counts : (p : ℕ) → slice_index_or new.faults.items p 0
      ≡ (if not well && (disk_of op == p) then slice_index_or whole.faults.items p 0 + 1 else slice_index_or whole.faults.items p 0)
  counts p = rw (← taken.faults) (faults p)

  pub good_after : IsGood new
  good_after = record {
    disks = rw same_sizes taken.good.disks;
    counted = rw same_sizes (counted ∙ ap vec_len taken.faults ∙ taken.good.counted);
    waits = rw (left, same_sizes, same_tag) (All-remove (Waits whole.sizes.items whole.next_tag) whole.waiting.items at taken.good.waits);
    order = rw left (all_pairs_remove IsBefore whole.waiting.items at taken.here taken.good.order);
    steps = omega (arith, taken.good.steps, len, same_tag, steps, taken.steps);
    faults =
        λ p. omega (
          arith,
          taken.good.faults p,
          at_most_one (not well && (disk_of op == p)) (slice_index_or whole.faults.items p 0)
              (slice_index_or new.faults.items p 0) (counts p),
          len,
          steps,
          taken.steps,
        );
    room = omega (arith, taken.good.room, len, capacity, spare_ops, taken.spare_ops);
    life = omega (arith, taken.good.life, same_tag, spare_ops, taken.spare_ops);
  }

  pub completes_at : CompletesAt (state_of whole) at (record { tag = tag; op = op; well = well }) (state_of new)
  completes_at =
      let old_ops : List Operation = map operation_of whole.waiting.items in
      let o : Operation = record { tag = tag; work = work_of op } in
      let here : at < length old_ops = rw length-map taken.here in
      let removed : map operation_of new.waiting.items ≡ remove old_ops at = rw left (map-remove operation_of whole.waiting.items at) in
      record {
        completes = record {
          was = (at, here, taken.which);
          lies = taken.lies;
          in_flight = removed ∙ filter_removed old_ops at o here taken.which (order_of whole.waiting.items taken.good.order);
          fewer = simp length-map (omega (arith, len, new.waiting.ok.0, whole.waiting.ok.0));
          ready = λ t was other. rw removed (ready_left old_ops at o t here taken.which was other);
          told = ([], refl);
          reads = tt;
          spare_ops = omega (arith, spare_ops, taken.spare_ops);
          spare_sectors = omega (arith, spare_sectors, taken.spare_sectors);
          steps = steps ∙ ap (λ (n : ℕ). n + 1) taken.steps;
          next = same_tag;
          faults = counts;
          sizes = rw same_sizes refl;
        };
        here = here;
        which = taken.which;
        in_flight = removed;
        spare_ops = spare_ops ∙ taken.spare_ops;
        spare_sectors = spare_sectors ∙ taken.spare_sectors;
      }
