-- What holds of every queue, and that it makes the queue's state lawful.
use Rattle.std.specs.Prelude.{◌≡◌, ◌≤◌, ◌<◌, ℕ, ◌+◌, ◌*◌, ◌^◌, List, [], ◌∷◌, map, length, slice_index_or, vec_len, All, AllPairs}
use Rattle.std.specs.VecDeque.{deque_len, deque_capacity}
use Rattle.std.proofs.Common.{arith}
use Rattle.std.proofs.Props.{props}
use Rattle.std.proofs.lemmas.List.{length-map, get_or-map}
use Rattle.std.proofs.lemmas.List.Elements.{All-map, All-contains_itself}
use Rattle.disk_model.specs.declared.ops.Op.{Op}
use Rattle.disk_model.specs.declared.ops.Op.TheVariants.{Read, Write, Flush}
use Rattle.disk_model.specs.Record.{Operation}
use Rattle.disk_model.specs.Operations.{Lies, LiesWithin}
use Rattle.disk_model.proofs.Lying.{lies_within}
use Rattle.disk_model.specs.State.{IsLawful, tags_of}
use Rattle.op_queue.specs.declared.queue.Waiting.{Waiting}
use Rattle.op_queue.specs.declared.queue.OpQueue.{OpQueue}
use Rattle.op_queue.specs.Queue.{operation_of, state_of}

-- the one operation was submitted before the other
abbrev pub IsBefore : Waiting → Waiting → Type 0
IsBefore v w = v.tag < w.tag

-- the operation lies in its disk, and was submitted
abbrev pub Waits : List ℕ → ℕ → Waiting → Type 0
Waits sizes next w = Lies sizes w.op × (w.tag < next)

-- what holds of every queue
pub record IsGood (queue : OpQueue) : Type 0 where
  pub disks : vec_len queue.sizes < 2 ^ 32
  pub counted : vec_len queue.faults ≡ vec_len queue.sizes
  pub waits : All (Waits queue.sizes.items queue.next_tag) queue.waiting.items
  pub order : AllPairs IsBefore queue.waiting.items
  -- two steps of each operation that has completed, one of each in flight
  pub steps : queue.steps + deque_len queue.waiting ≡ 2 * queue.next_tag
  -- each fault is a completion
  pub faults : (pv : ℕ) → 2 * slice_index_or queue.faults.items pv 0 + deque_len queue.waiting ≤ queue.steps
  pub room : deque_len queue.waiting + queue.spare_ops ≤ deque_capacity queue.waiting
  pub life : queue.next_tag + queue.spare_ops ≤ 2 ^ 62

-- the operations in flight are in the order of their tags
pub order_of : (ws : List Waiting) → AllPairs IsBefore ws → AllPairs (λ (o p : Operation). o.tag < p.tag) (map operation_of ws)
order_of [] h i j d lt le = absurd (omega arith)
order_of (w ∷ ws) h i j d lt le =
    let le' : j < length (w ∷ ws) = rw length-map at le in
    let lt' : i < length (w ∷ ws) = omega arith in
    rw (get_or-map operation_of (w ∷ ws) i w d lt', get_or-map operation_of (w ∷ ws) j w d le') (h i j w lt le')

-- the state of a queue is lawful
pub lawful_of : (queue : OpQueue) → IsGood queue → IsLawful (state_of queue)
lawful_of queue good = record {
  tags = All-map (λ (o : Operation). o.tag < queue.next_tag) operation_of queue.waiting.items (λ k d lt. (good.waits k d lt).1);
  order = order_of queue.waiting.items good.order;
  within =
      All-map (λ (o : Operation). LiesWithin queue.sizes.items o.work) operation_of queue.waiting.items
      (λ k d lt. lies_within queue.sizes.items _ (good.waits k d lt).0);
  ready = All-contains_itself (tags_of (map operation_of queue.waiting.items));
  faults = λ pv. simp length-map (omega (arith, good.faults pv));
  life = simp length-map (omega arith);
  follows = tt;
  new_tags = tt;
  in_flight = tt;
  steps = tt;
  opened = tt;
  written = tt;
}

lies_prop : (sizes : List ℕ) (op : Op) → IsProp (Lies sizes op)
lies_prop sizes (Read span buffer) = hlevel props
lies_prop sizes (Write span sectors) = hlevel props
lies_prop sizes (Flush pv) = hlevel props

-- it holds in one way at most, as a ghost field must
pub good_prop : (queue : OpQueue) → IsProp (IsGood queue)
good_prop queue = hlevel (props, lies_prop)
