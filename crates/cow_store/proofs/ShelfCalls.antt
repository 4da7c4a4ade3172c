-- What calls on a shelf in memory are for its volumes.
use Rattle.std.proofs.Common.{◌≡◌, ◌≤◌, ℕ, ◌+◌, not, ◌==◌, ◌&&◌, cond, Bool, true, false, List, [], ◌∷◌, ◌++◌, length, get_or}
use Rattle.std.proofs.Common.{All, Contains, Option, Some, None, IfSome, is_none, option_map, slice_set, refl, sym, ap, subst, ◌∙◌, arith}
use Rattle.std.proofs.lemmas.List.Elements.{All-nil}
use Rattle.disk_model.specs.declared.ops.Op.{Op}
use Rattle.disk_model.specs.declared.ops.Op.TheVariants.{Read, Write, Flush}
use Rattle.disk_model.specs.declared.ops.Done.{Done}
use Rattle.disk_model.specs.Brought.{writes}
use Rattle.disk_model.specs.Calls.{Completes, Reserves as ReservesShelf, Submits}
use Rattle.disk_model.specs.CarriesOut.{CarriesOut}
use Rattle.disk_model.specs.Operations.{Lies, disk_of, sectors_of, work_of}
use Rattle.disk_model.specs.Reading.{Reads, ReadsAll}
use Rattle.disk_model.specs.Record.{Operation, in_flight_after}
use Rattle.disk_model.specs.State.{IsLawful, State}
use Rattle.disk_model.specs.Steps.{Work, Submitted, Completed, Record, disk_of_work, step_on}
use Rattle.disk_model.proofs.OneAtATime.{idle_told}
use Rattle.dev_shelf.specs.Plan.{failure_of}
use Rattle.dev_shelf.specs.declared.plan.Fail.{Fail}
use Rattle.cow_store.specs.MemVols.{FollowsPlan, volumes_of}
use Rattle.cow_store.specs.VolStates.{Operates, Reserves}

-- the one in a list of one
the_one : (o p : Operation) → Contains (o ∷ []) p → o ≡ p
the_one o p h =
    let first : h.0 ≡ 0 = omega (arith, h.1) in
    subst (λ (k : ℕ). get_or (o ∷ []) k p ≡ p) first h.2

-- a read that was alone
reads_alone : (t : Record) (tag : ℕ) (work : Work) (done : Op) (well : Bool) → in_flight_after t.steps ≡ []
    → Reads (step_on (Submitted tag work) t) tag done well → ReadsAll t done well
reads_alone t tag work (Read span buffer) true idle reads = λ pv sector inside.
    reads pv sector inside (
      λ same. subst (λ (os : List Operation). All (λ (o : Operation). writes o.work pv sector ≡ false) os) (sym idle)
          (All-nil (λ (o : Operation). writes o.work pv sector ≡ false)),
      λ other. absurd (other refl),
    )
reads_alone t tag work (Read span buffer) false idle reads = tt
reads_alone t tag work (Write span sectors) well idle reads = tt
reads_alone t tag work (Flush pv) well idle reads = tt

two_steps : (f g : Record → Record) (o : Option Record) → option_map f (option_map g o) ≡ option_map (λ t. f (g t)) o
two_steps f g None = refl
two_steps f g (Some t) = refl

none_long : (os : List Operation) → length os + 1 ≡ 1 → os ≡ []
none_long [] e = refl
none_long (o ∷ os) e = absurd (omega (arith, e))

-- an operation was submitted and has completed, where nothing else is in flight
pub carried : (s0 s1 s2 : State) (op : Op) (tag : ℕ) (done : Done) → IsLawful s0 → s0.in_flight ≡ [] → Submits s0 op tag s1
    → Completes s1 done s2 → CarriesOut s0 op done s2
carried s0 s1 s2 op tag done lawful idle put_in done_so =
    let o : Operation = record { tag = tag; work = work_of op } in
    let p : Operation = record { tag = done.tag; work = work_of done.op } in
    let one : s1.in_flight ≡ o ∷ [] = put_in.in_flight ∙ ap (λ (l : List Operation). l ++ o ∷ []) idle in
    let same : o ≡ p = the_one o p (subst (λ (l : List Operation). Contains l p) one done_so.was) in
    let tags : tag ≡ done.tag = ap (λ (x : Operation). x.tag) same in
    let works : work_of op ≡ work_of done.op = ap (λ (x : Operation). x.work) same in
    let disks : disk_of done.op ≡ disk_of op = ap disk_of_work (sym works) in
    let told1 : s1.told ≡ option_map (step_on (Submitted done.tag (work_of op))) s0.told =
    subst (λ (n : ℕ). s1.told ≡ option_map (step_on (Submitted n (work_of op))) s0.told) tags put_in.told in
    record {
      work = sym works;
      lies = subst (λ (l : List ℕ). Lies l done.op) put_in.sizes done_so.lies;
      reads =
          reads_before s0 s1 (work_of op) done lawful idle told1 done_so.reads;
      told = (
        done_so.told.0,
        done_so.told.1
            ∙ ap (λ (w : Work). option_map (step_on (Completed done.tag w done.well done_so.told.0)) s1.told) (sym works)
            ∙ ap (option_map (step_on (Completed done.tag (work_of op) done.well done_so.told.0))) told1
            ∙ two_steps (step_on (Completed done.tag (work_of op) done.well done_so.told.0)) (step_on (Submitted done.tag (work_of op)))
            s0.told,
      );
      steps = omega (arith, done_so.steps, put_in.steps);
      fresh = omega (arith, put_in.fresh, tags);
      next = omega (arith, put_in.next, done_so.next, tags);
      idle = none_long s2.in_flight (done_so.fewer ∙ ap (λ (l : List Operation). length l) one);
      spare_ops = omega (arith, put_in.spare_ops, done_so.spare_ops);
      spare_sectors = omega (arith, put_in.spare_sectors, done_so.spare_sectors);
      faults = λ pv.
          done_so.faults pv
          ∙ ap (λ (f : ℕ → ℕ). cond (not done.well && (disk_of done.op == pv)) (f pv + 1) (f pv)) put_in.faults
          ∙ ap (λ (d : ℕ). cond (not done.well && (d == pv)) (s0.faults pv + 1) (s0.faults pv)) disks;
      sizes = done_so.sizes ∙ put_in.sizes;
    }
  where
    reads_before : (s0 s1 : State) (work : Work) (done : Done) → IsLawful s0 → s0.in_flight ≡ []
        → s1.told ≡ option_map (step_on (Submitted done.tag work)) s0.told
        → IfSome s1.told (λ t. Reads t done.tag done.op done.well) → IfSome s0.told (λ t. ReadsAll t done.op done.well)
    reads_before s0 s1 work done lawful idle told h =
        by s0.told refl (subst (λ (o : Option Record). IfSome o (λ t. Reads t done.tag done.op done.well)) told h)
      where
        by : (o : Option Record) → s0.told ≡ o
            → IfSome (option_map (step_on (Submitted done.tag work)) o) (λ t. Reads t done.tag done.op done.well)
            → IfSome o (λ t. ReadsAll t done.op done.well)
        by None e h = tt
        by (Some t) e h = reads_alone t done.tag work done.op done.well (idle_told s0 t lawful idle e) h

-- room was made
pub reserved : (s0 s1 : State) (ops : ℕ) → ReservesShelf s0 ops ops s1 → Reserves (volumes_of s0) ops (volumes_of s1)
reserved s0 s1 ops r = record {
  spare = omega (arith, r.ops, r.sectors);
  more = omega (arith, r.more_ops, r.more_sectors);
  same = ap volumes_of r.same;
}

-- the operation is one of the volumes
pub operates : (s0 s1 : State) (op : Op) (done : Done) → CarriesOut s0 op done s1 → sectors_of op ≤ 1
    → Operates (volumes_of s0) (work_of op) done.well (volumes_of s1)
operates s0 s1 op done c few = record {
  told = (done.tag, c.told.0, c.told.1);
  spare = omega (arith, c.spare_ops, c.spare_sectors, few);
  faults = c.faults;
  sizes = c.sizes;
}

-- it follows the plan
pub follows : (s0 s1 : State) (op : Op) (done : Done) (fails left : List Fail) → CarriesOut s0 op done s1
    → done.well ≡ is_none (failure_of fails done.tag) → left ≡ fails
    → FollowsPlan (volumes_of s0) fails (work_of op) done.well (volumes_of s1) left
follows s0 s1 op done fails left c listed stays =
    record { number = done.tag; fresh = c.told.0; told = c.told.1; listed = listed; stays = stays }

-- a buffer of one sector that is set
pub set_one : (buffer : List (List ℕ)) (value : List ℕ) → length buffer ≡ 1 → slice_set buffer 0 value ≡ value ∷ []
set_one [] value e = absurd (omega (arith, e))
set_one (x ∷ []) value e = refl
set_one (x ∷ y ∷ l) value e = absurd (omega (arith, e))
