-- What a batch is still to submit has room, disks and buffers, call by call.
use Rattle.std.proofs.Common.{◌≡◌, ◌≢◌, ◌⊎◌, ◌≤◌, ◌<◌, ℕ, suc, ◌+◌, cond, not, ◌==◌, List, [], ◌∷◌, ◌++◌, length, filter, map}
use Rattle.std.proofs.Common.{sum_by}
use Rattle.std.proofs.Common.{All, inl, inr, ⊎_elim, refl, sym, ap, subst, ◌∙◌, arith, length-append}
use Rattle.std.proofs.Math.Seq.{take-length}
use Rattle.std.proofs.lemmas.Bool.Decides.{eqb_tells}
use Rattle.std.proofs.lemmas.List.{get_or-append-add, take-append-le}
use Rattle.std.proofs.lemmas.List.Elements.{All-head, All-tail, All-take}
use Rattle.sector_base.specs.declared.spans.Span.{Span}
use Rattle.disk_model.specs.declared.ops.Done.{Done}
use Rattle.disk_model.specs.declared.ops.Op.{Op}
use Rattle.disk_model.specs.declared.ops.Op.TheVariants.{Read, Write, Flush}
use Rattle.disk_model.specs.Steps.{Work, sectors_of_work}
use Rattle.disk_model.specs.Record.{Operation, IsIn}
use Rattle.disk_model.specs.Operations.{Fills, Lies, sectors_of, work_of}
use Rattle.disk_model.specs.Calls.{Completes}
use Rattle.disk_model.specs.InFlight.{IsAmong}
use Rattle.disk_model.specs.State.{State, IsLawful, tags_of}
use Rattle.disk_model.proofs.InFlight.{contains_in, in_filter}
use Rattle.disk_batch.specs.declared.batching.Batching.{Batching}
use Rattle.disk_batch.specs.declared.batching.BatchStep.TheVariants.{Going}
use Rattle.disk_batch.specs.Batches.{Follows, Goes, Starts, StartsWrites, after_done, view_of}
use Rattle.disk_batch.specs.Fits.{HasBuffer, HasBuffers, LiesOn, buffer_of}
use Rattle.disk_batch.specs.Submits.{put_operation}
use Rattle.disk_batch.specs.Views.{View, Turn, Waits, Writes, Flushes, sectors_to_come, to_come, turn_of}
use Rattle.disk_batch.specs.Writes.{BlockNext, BlocksFirst, LieIn, block_size, span_count, write_work}
use Rattle.disk_batch.proofs.Calling.{IsTurn, is_turn}
use Rattle.disk_batch.proofs.Submissions.{sum_first}

-- ---- which operations are in flight

pub among_before : (tags : List ℕ) (tag t : ℕ) → IsAmong (filter (λ (u : ℕ). not (u == tag)) tags) t → IsAmong tags t
among_before [] tag t h = h
among_before (u ∷ tags) tag t h =
    ⊎_elim (λ same. inr (among_before tags tag t (rw same.0 at h)))
    (λ other. ⊎_elim (λ here. inl here) (λ later. inr (among_before tags tag t later)) (rw other.0 at h)) (eqb_tells u tag)

among_parts : (tags more : List ℕ) (t : ℕ) → IsAmong (tags ++ more) t → IsAmong tags t ⊎ IsAmong more t
among_parts [] more t h = inr h
among_parts (u ∷ tags) more t h =
    ⊎_elim (λ here. inl (inl here)) (λ later. ⊎_elim (λ a. inl (inr a)) (λ b. inr b) (among_parts tags more t later)) h

in_parts : (fs more : List Operation) (o : Operation) → IsIn (fs ++ more) o → IsIn fs o ⊎ IsIn more o
in_parts [] more o h = inr h
in_parts (f ∷ fs) more o h =
    ⊎_elim (λ here. inl (inl here)) (λ later. ⊎_elim (λ a. inl (inr a)) (λ b. inr b) (in_parts fs more o later)) h

all_in : (P : Operation → Type 0) (fs : List Operation) (o : Operation) → All P fs → IsIn fs o → P o
all_in P [] o all h = absurd h
all_in P (f ∷ fs) o all h = ⊎_elim (λ here. subst P here (All-head P f fs all)) (λ later. all_in P fs o (All-tail P f fs all) later) h

-- ---- buffers

filled_by : (sizes : List ℕ) (op : Op) → Lies sizes op → sectors_of op ≡ block_size → length (buffer_of op) ≡ block_size
filled_by sizes (Read span buffer) lies is = lies.buffer ∙ is
filled_by sizes (Write span sectors) lies is = lies.buffer ∙ is
filled_by sizes (Flush pv) lies is = is

-- a completed operation of the batch brings back a buffer of the size of a block, where one is next
pub has_buffer : (before mid : State) (done : Done) (view : View) → HasBuffers before.in_flight view → Completes before done mid
    → IsAmong view.tags done.tag → HasBuffer view done
has_buffer before mid done view buffers completes owns next =
    let o : Operation = record { tag = done.tag; work = work_of done.op } in
    filled_by before.sizes done.op completes.lies (buffers.blocks next o (contains_in before.in_flight o completes.was) owns)

module _ (in_flight : List Operation) where
  -- a completion, whoever's, leaves it so
  pub buffers_completed : (tag : ℕ) (view : View) → HasBuffers in_flight view
      → HasBuffers (filter (λ (o : Operation). not (o.tag == tag)) in_flight) view
  buffers_completed tag view h =
      record { order = h.order; blocks = λ next o within own. h.blocks next o (in_filter in_flight tag o within).0 own }

  -- with its own tag taken off
  pub buffers_without : (tag : ℕ) (view after : View) → after.rest ≡ view.rest → after.tags ≡ filter (λ (t : ℕ). not (t == tag)) view.tags
      → HasBuffers in_flight view → HasBuffers in_flight after
  buffers_without tag view after rest tags h = record {
    order = subst BlocksFirst (sym rest) h.order;
    blocks =
        λ next o within own. h.blocks (subst BlockNext rest next) o within
        (among_before view.tags tag o.tag (subst (λ (l : List ℕ). IsAmong l o.tag) tags own));
  }

  -- the next of its writes is submitted
  pub buffers_next : (view next : View) (put : Span × List (List ℕ)) (puts : List (Span × List (List ℕ))) (tag : ℕ)
      → ((o : Operation) → IsIn in_flight o → (o.tag ≢ tag)) → view.rest ≡ put ∷ puts
      → next ≡ record view { tags = view.tags ++ tag ∷ []; rest = puts } → HasBuffers in_flight view
      → HasBuffers (in_flight ++ put_operation tag put ∷ []) next
  buffers_next view next put puts tag new first is h =
      subst (λ (v : View). HasBuffers (in_flight ++ put_operation tag put ∷ []) v) (sym is)
      (let order : BlocksFirst (put ∷ puts) = subst BlocksFirst first h.order in
      record {
        order = order.1;
        blocks =
            λ later o within own.
            ⊎_elim
            (λ (older : IsIn in_flight o). h.blocks (subst BlockNext (sym first) (order.0 later)) o older
            (⊎_elim (λ mine. mine) (λ here. ⊎_elim (λ (e : tag ≡ o.tag). absurd (new o older (sym e))) (λ no. absurd no) here)
            (among_parts view.tags (tag ∷ []) o.tag own)))
            (λ here. ⊎_elim (λ (e : put_operation tag put ≡ o). sym (ap (λ (p : Operation). sectors_of_work p.work) e) ∙ order.0 later)
            (λ no. absurd no) here) (in_parts in_flight (put_operation tag put ∷ []) o within);
      })

-- where no write is to come none needs a buffer
pub buffers_none : (in_flight : List Operation) (view : View) → view.rest ≡ [] → HasBuffers in_flight view
buffers_none in_flight view none = record {
  order = subst BlocksFirst (sym none) tt;
  blocks = λ next o within own. absurd (subst BlockNext none next);
}

-- ---- at its start

started_ops : (os : List Operation) (first : List (Span × List (List ℕ))) (works : List Work) → map (λ (o : Operation). o.work) os ≡ works
    → works ≡ map write_work first → All (λ put. put.0.count ≡ block_size) first → (o : Operation) → IsIn os o
    → sectors_of_work o.work ≡ block_size
started_ops [] first works is are all o within = absurd within
started_ops (p ∷ os) [] works is are all o within = let e : map (λ (q : Operation). q.work) (p ∷ os) ≡ [] = is ∙ are in cc
started_ops (p ∷ os) (put ∷ first) works is are all o within =
    let e : map (λ (q : Operation). q.work) (p ∷ os) ≡ map write_work (put ∷ first) = is ∙ are in
    let work : p.work ≡ write_work put = cc in
    let rest : map (λ (q : Operation). q.work) os ≡ map write_work first = cc in
    let P : Span × List (List ℕ) → Type 0 = λ x. x.0.count ≡ block_size in
    ⊎_elim
    (λ here. sym (ap (λ (q : Operation). sectors_of_work q.work) here) ∙ ap sectors_of_work work ∙ All-head P put first all)
    (λ later. started_ops os first (map write_work first) rest refl (All-tail P put first all) o later) within

pub buffers_started : (old new : State) (puts : List (Span × List (List ℕ))) (disks : List ℕ) (view : View)
    → ((o : Operation) → IsIn old.in_flight o → IsAmong view.tags o.tag → ⊥)
    → StartsWrites old puts disks view new → HasBuffers new.in_flight view
buffers_started old new puts disks view others starts = record {
  order = starts.order;
  blocks =
      λ next o within own.
      ⊎_elim (λ (older : IsIn old.in_flight o). absurd (others o older own))
      (λ here. started_ops starts.works.os starts.first (map write_work starts.first) starts.works.works_are refl (starts.blocks next) o
      here)
      (in_parts old.in_flight starts.works.os o (subst (λ (l : List Operation). IsIn l o) starts.works.submits.in_flight within));
}

-- where all that is in flight is older than the next tag none of it is the batch's
pub starts_buffers : (old new : State) (puts : List (Span × List (List ℕ))) (disks : List ℕ) (view : View) → IsLawful old
    → Starts old puts disks view new → HasBuffers new.in_flight view
starts_buffers old new [] disks view lawful starts = buffers_none new.in_flight view (ap (λ (v : View). v.rest) starts.1)
starts_buffers old new (put ∷ puts) disks view lawful starts =
    buffers_started old new (put ∷ puts) disks view
    (λ o within own.
    let works = starts.works in
    let t : All (λ (p : Operation). old.next_tag ≤ p.tag) works.os = works.submits.fresh in
    let mine : IsAmong (tags_of works.os) o.tag = subst (λ (l : List ℕ). IsAmong l o.tag) (sym works.tags_are) own in
    let fresh : old.next_tag ≤ o.tag = tag_since old.next_tag works.os o.tag t mine in
    let below : o.tag < old.next_tag = all_in (λ (p : Operation). p.tag < old.next_tag) old.in_flight o lawful.tags within in
    absurd (omega arith)) starts
  where
    tag_since : (from : ℕ) (os : List Operation) (t : ℕ) → All (λ (p : Operation). from ≤ p.tag) os → IsAmong (tags_of os) t → from ≤ t
    tag_since from [] t all h = absurd h
    tag_since from (p ∷ os) t all h =
        ⊎_elim (λ here. subst (λ (n : ℕ). from ≤ n) here (All-head (λ (q : Operation). from ≤ q.tag) p os all))
        (λ later. tag_since from os t (All-tail (λ (q : Operation). from ≤ q.tag) p os all) later) h

-- ---- what lies in the disks

-- the later ones of some writes
pub later_lie : (sizes : List ℕ) (first rest puts : List (Span × List (List ℕ))) → puts ≡ first ++ rest → LieIn sizes puts
    → LieIn sizes rest
later_lie sizes first rest puts parts lie k d within =
    let P : Span × List (List ℕ) → Type 0 = λ put. Fills sizes put.0 put.1 in
    let all : LieIn sizes (first ++ rest) = subst (LieIn sizes) parts lie in
    subst P (get_or-append-add first rest k d) (all (length first + k) d (omega (arith, within, length-append first rest)))

-- and the first
pub first_lie : (sizes : List ℕ) (first rest : List (Span × List (List ℕ))) → LieIn sizes (first ++ rest) → LieIn sizes first
first_lie sizes first rest lie =
    let P : Span × List (List ℕ) → Type 0 = λ put. Fills sizes put.0 put.1 in
    subst (LieIn sizes) (take-append-le (length first) first rest (omega arith) ∙ take-length first)
    (All-take P (length first) (first ++ rest) lie)

-- at its start
pub lies_started : (old new : State) (puts : List (Span × List (List ℕ))) (disks : List ℕ) (view : View) → LieIn old.sizes puts
    → All (λ (pv : ℕ). pv < length old.sizes) disks → StartsWrites old puts disks view new → LiesOn new.sizes view
lies_started old new puts disks view lie flush starts =
    subst (λ (sizes : List ℕ). LiesOn sizes view) (sym starts.works.submits.sizes) (record {
      rest = later_lie old.sizes starts.first view.rest puts starts.parts lie;
      flush = subst (λ (v : View). All (λ (pv : ℕ). pv < length old.sizes) v.flush) (sym starts.view_is) flush;
    })

-- and at what it does when an operation of its own has completed
pub lies_follow : (mid new : State) (view : View) (turn : Turn) (next : Batching) → LiesOn mid.sizes view
    → Follows mid view turn (Going next) new → LiesOn new.sizes (view_of next)
lies_follow mid new view Waits next h f =
    subst (λ (s : State). LiesOn s.sizes (view_of next)) (sym f.0) (subst (λ (v : View). LiesOn mid.sizes v) (sym f.1) h)
lies_follow mid new view Writes next h f =
    subst (λ (sizes : List ℕ). LiesOn sizes (view_of next)) (sym f.submits.sizes) (subst (λ (v : View). LiesOn mid.sizes v) (sym f.view_is)
    (record { rest = later_lie mid.sizes (f.put ∷ []) f.puts view.rest f.next_is h.rest; flush = h.flush }))
lies_follow mid new view Flushes next h f =
    subst (λ (sizes : List ℕ). LiesOn sizes (view_of next)) (sym f.0.submits.sizes) (subst (λ (v : View). LiesOn mid.sizes v) (sym f.1)
    (record { rest = h.rest; flush = h.flush }))
lies_follow mid new view turn next h f = absurd f

pub starts_lie : (old new : State) (puts : List (Span × List (List ℕ))) (disks : List ℕ) (view : View) → 0 < length puts
    → LieIn old.sizes puts → All (λ (pv : ℕ). pv < length old.sizes) disks → Starts old puts disks view new → LiesOn new.sizes view
starts_lie old new [] disks view some lie flush starts = absurd (omega arith)
starts_lie old new (put ∷ puts) disks view some lie flush starts = lies_started old new (put ∷ puts) disks view lie flush starts

pub goes_lie : (mid new : State) (view : View) (done : Done) (next : Batching) → LiesOn mid.sizes view → Goes mid view done (Going next) new
    → LiesOn new.sizes (view_of next)
goes_lie mid new view done next h goes =
    let after : View = after_done view done in
    lies_follow mid new after (turn_of after) next (record { rest = h.rest; flush = h.flush }) goes

-- ---- and with the buffers, where all that is in flight is older than the next tag
pub buffers_follow : (mid new : State) (view : View) (turn : Turn) (next : Batching) → IsLawful mid → IsTurn view turn
    → HasBuffers mid.in_flight view → Follows mid view turn (Going next) new → HasBuffers new.in_flight (view_of next)
buffers_follow mid new view Waits next lawful is h f =
    subst (λ (s : State). HasBuffers s.in_flight (view_of next)) (sym f.0) (subst (λ (v : View). HasBuffers mid.in_flight v) (sym f.1) h)
buffers_follow mid new view Writes next lawful is h f =
    let older : (o : Operation) → IsIn mid.in_flight o → (o.tag ≢ f.tag) =
    λ o within same.
    let fresh : mid.next_tag ≤ f.tag = All-head (λ (p : Operation). mid.next_tag ≤ p.tag) (put_operation f.tag f.put) [] f.submits.fresh in
    let below : o.tag < mid.next_tag = all_in (λ (p : Operation). p.tag < mid.next_tag) mid.in_flight o lawful.tags within in
    absurd (omega (arith, same)) in
    subst (λ (l : List Operation). HasBuffers l (view_of next)) (sym f.submits.in_flight)
    (buffers_next mid.in_flight view (view_of next) f.put f.puts f.tag older f.next_is f.view_is h)
buffers_follow mid new view Flushes next lawful is h f =
    buffers_none new.in_flight (view_of next) (ap (λ (v : View). v.rest) f.1 ∙ is.3)
buffers_follow mid new view turn next lawful is h f = absurd f

pub goes_buffers : (before mid new : State) (view : View) (done : Done) (next : Batching) → IsLawful mid → HasBuffers before.in_flight view
    → Completes before done mid → Goes mid view done (Going next) new → HasBuffers new.in_flight (view_of next)
goes_buffers before mid new view done next lawful h completes goes =
    let after : View = after_done view done in
    buffers_follow mid new after (turn_of after) next lawful (is_turn after)
    (buffers_without mid.in_flight done.tag view after refl refl
    (subst (λ (l : List Operation). HasBuffers l view) (sym completes.in_flight)
    (buffers_completed before.in_flight done.tag view h))) goes

-- another operation is submitted
pub buffers_beside : (in_flight : List Operation) (view : View) (o : Operation) → (IsAmong view.tags o.tag → ⊥)
    → HasBuffers in_flight view → HasBuffers (in_flight ++ o ∷ []) view
buffers_beside in_flight view o other h = record {
  order = h.order;
  blocks =
      λ next p within own.
      ⊎_elim (λ (older : IsIn in_flight p). h.blocks next p older own)
      (λ here. ⊎_elim (λ (e : o ≡ p). absurd (other (subst (λ (q : Operation). IsAmong view.tags q.tag) (sym e) own))) (λ no. absurd no)
      here)
      (in_parts in_flight (o ∷ []) p within);
}

-- ---- what is spare

-- what the next write uses up
pub record UsesNext (view next : View) (put : Span × List (List ℕ)) : Type 0 where
  pub ops : to_come view ≡ suc (to_come next)
  pub sectors : sectors_to_come view ≡ span_count put + sectors_to_come next

pub next_uses : (view next : View) (put : Span × List (List ℕ)) (puts : List (Span × List (List ℕ))) (tags : List ℕ)
    → view.rest ≡ put ∷ puts → next ≡ record view { tags = tags; rest = puts } → UsesNext view next put
next_uses view next put puts tags first is =
    let many : length view.rest ≡ suc (length puts) = ap (λ (l : List (Span × List (List ℕ))). length l) first in
    let come : to_come next ≡ length puts + cond view.flushing 0 (length view.flush) = ap to_come is in
    let sectors : sectors_to_come next ≡ sum_by span_count puts = ap sectors_to_come is in
    record {
      ops = omega (arith, come, many);
      sectors = ap (λ (l : List (Span × List (List ℕ))). sum_by span_count l) first ∙ sum_first span_count put puts
          ∙ ap (λ (n : ℕ). span_count put + n) (sym sectors);
    }
