-- A batch beside a shelf that goes on elsewhere.
use Rattle.std.proofs.Common.{◌≡◌, ◌≤◌, ℕ, Bool, true, false, ◌||◌, IsTrue, List, [], ◌∷◌, All, Option, Some, None, IfSome, refl, sym, ap}
use Rattle.std.proofs.Common.{subst, ◌∙◌, arith}
use Rattle.std.proofs.lemmas.List.Elements.{All-append, All-cons, All-head, All-nil, All-tail}
use Rattle.disk_model.specs.declared.ops.Op.{Op}
use Rattle.disk_model.specs.declared.ops.Done.{Done}
use Rattle.disk_model.specs.Steps.{Work, Step, Submitted, Completed, Record, step_on, steps_on}
use Rattle.disk_model.specs.Record.{Operation}
use Rattle.disk_model.specs.Brought.{writes}
use Rattle.disk_model.specs.Calls.{Completes, Submits}
use Rattle.disk_model.specs.Durability.{AllLeave}
use Rattle.disk_model.specs.InFlight.{IsAmong}
use Rattle.disk_model.specs.Operations.{work_of}
use Rattle.disk_model.specs.State.{State}
use Rattle.disk_model.specs.Submitting.{works_of, writes_at}
use Rattle.disk_model.proofs.Durable.{only_leaves_on}
use Rattle.disk_model.proofs.InFlight.{theirs_on}
use Rattle.disk_model.proofs.WhereTold.{told_weaker}
use Rattle.disk_batch.specs.Along.{AllAlong, GoesElsewhere, HoldsSince}
use Rattle.disk_batch.specs.Faults.{FaultsSince}
use Rattle.disk_batch.specs.Flushed.{FlushesSince, HasFlushedSince}
use Rattle.disk_batch.specs.Rounds.{AreStill, BatchHolds, IsElsewhere}
use Rattle.disk_batch.specs.Submits.{SubmitsWorks}
use Rattle.disk_batch.specs.Views.{View}
use Rattle.disk_batch.proofs.Along.{since_both, since_none, since_step, submitted_told}
use Rattle.disk_batch.proofs.Carrying.{submissions}
use Rattle.disk_batch.proofs.Faulting.{faults_elsewhere}
use Rattle.disk_batch.proofs.Flushing.{flushed_on, flushes_elsewhere}
use Rattle.disk_batch.proofs.Rounding.{batch_elsewhere}

module _ (mine : ℕ → ℕ → Bool) where
  -- a batch goes on as it was
  pub batch_steps : (target : ℕ → ℕ → Bool) (Now Goal : ℕ → ℕ → List ℕ → Type 0) (view : View) (newer : List Step) (told : Record)
      → All (IsElsewhere mine view.tags) newer → BatchHolds mine target Now Goal view told
      → BatchHolds mine target Now Goal view (steps_on newer told)
  batch_steps target Now Goal view [] told else h = h
  batch_steps target Now Goal view (step ∷ newer) told else h =
      batch_elsewhere mine target Now Goal view (steps_on newer told) step (All-head (IsElsewhere mine view.tags) step newer else)
      (batch_steps target Now Goal view newer told (All-tail (IsElsewhere mine view.tags) step newer else) h)

  -- what a crash may leave in these sectors stays, at each moment
  leave_on : (Now : ℕ → ℕ → List ℕ → Type 0) (tags : List ℕ) (step : Step) (told : Record) → IsElsewhere mine tags step
      → AllLeave mine Now told → AllLeave mine Now (step_on step told)
  leave_on Now tags step told else h pv sector own =
      only_leaves_on told pv sector (Now pv sector) step (else.apart pv sector own) (h pv sector own)

  pub leave_steps : (Now : ℕ → ℕ → List ℕ → Type 0) (tags : List ℕ) (newer : List Step) (told : Record) → All (IsElsewhere mine tags) newer
      → AllLeave mine Now told → AllLeave mine Now (steps_on newer told)
  leave_steps Now tags [] told else h = h
  leave_steps Now tags (step ∷ newer) told else h =
      leave_on Now tags step (steps_on newer told) (All-head (IsElsewhere mine tags) step newer else)
      (leave_steps Now tags newer told (All-tail (IsElsewhere mine tags) step newer else) h)

  leave_since : (Now : ℕ → ℕ → List ℕ → Type 0) (tags : List ℕ) (newer : List Step) (told : Record) → All (IsElsewhere mine tags) newer
      → AllLeave mine Now told → HoldsSince (AllLeave mine Now) newer told
  leave_since Now tags [] told else h = since_none (AllLeave mine Now) told h
  leave_since Now tags (step ∷ newer) told else h =
      let rest : All (IsElsewhere mine tags) newer = All-tail (IsElsewhere mine tags) step newer else in
      let before : AllLeave mine Now (steps_on newer told) = leave_steps Now tags newer told rest h in
      since_both (AllLeave mine Now) newer (step ∷ []) told (leave_since Now tags newer told rest h)
      (since_step (AllLeave mine Now) step (steps_on newer told) before
      (leave_on Now tags step (steps_on newer told) (All-head (IsElsewhere mine tags) step newer else) before))

  pub along_elsewhere : (Now : ℕ → ℕ → List ℕ → Type 0) (tags : List ℕ) (old new : State) → GoesElsewhere mine tags old new
      → IfSome old.told (AllLeave mine Now) → AllAlong (AllLeave mine Now) old new
  along_elsewhere Now tags old new else h = record {
    newer = else.newer;
    told = else.told;
    next = else.next;
    throughout =
        told_weaker (AllLeave mine Now) (HoldsSince (AllLeave mine Now) else.newer) old.told
        (λ t now. leave_since Now tags else.newer t else.elsewhere now) h;
  }

  -- no write to them is in flight
  pub still_steps : (tags : List ℕ) (newer : List Step) (told : Record) → All (IsElsewhere mine tags) newer → AreStill mine told
      → AreStill mine (steps_on newer told)
  still_steps tags [] told else h = h
  still_steps tags (step ∷ newer) told else h = λ pv sector own.
      theirs_on [] (steps_on newer told) pv sector step ((All-head (IsElsewhere mine tags) step newer else).apart pv sector own)
      (still_steps tags newer told (All-tail (IsElsewhere mine tags) step newer else) h pv sector own)

  -- what was flushed was so, and what is on its way goes on
  pub flushed_steps : (from pv : ℕ) (newer : List Step) (told : Record) → HasFlushedSince from pv told.steps
      → HasFlushedSince from pv (steps_on newer told).steps
  flushed_steps from pv [] told h = h
  flushed_steps from pv (step ∷ newer) told h = flushed_on from pv step (steps_on newer told).steps (flushed_steps from pv newer told h)

  pub flushes_steps : (view : View) (from pv : ℕ) (newer : List Step) (told : Record) → All (IsElsewhere mine view.tags) newer
      → FlushesSince view told from pv → FlushesSince view (steps_on newer told) from pv
  flushes_steps view from pv [] told else h = h
  flushes_steps view from pv (step ∷ newer) told else h =
      flushes_elsewhere view (steps_on newer told) from pv step (All-head (IsElsewhere mine view.tags) step newer else).foreign
      (flushes_steps view from pv newer told (All-tail (IsElsewhere mine view.tags) step newer else) h)

  -- another operation completes
  fault_more : (old new : State) (done : Done) → Completes old done new → (pv : ℕ) → old.faults pv ≤ new.faults pv
  fault_more old new done completes pv =
      (faults_elsewhere old.faults old new done None completes
      (record { rise = λ q. omega arith; lost_rose = λ q no. absurd (let z : None ≡ Some q = no in cc) })).rise pv

  pub completes_elsewhere : (tags : List ℕ) (old new : State) (done : Done) → (IsAmong tags done.tag → ⊥) → Completes old done new
      → GoesElsewhere mine tags old new
  completes_elsewhere tags old new done foreign completes =
      let step : Step = Completed done.tag (work_of done.op) done.well completes.told.0 in
      let is : IsElsewhere mine tags step = record { foreign = foreign; apart = λ pv sector own. refl } in
      record {
        newer = step ∷ [];
        told = completes.told.1;
        elsewhere = All-cons (IsElsewhere mine tags) step [] is (All-nil (IsElsewhere mine tags));
        next = omega (arith, completes.next);
        faults = fault_more old new done completes;
      }

  -- another operation is submitted
  pub submits_elsewhere : (tags : List ℕ) (old new : State) (op : Op) (tag : ℕ)
      → ((pv sector : ℕ) → IsTrue (mine pv sector) → writes (work_of op) pv sector ≡ false) → Submits old op tag new
      → GoesElsewhere mine tags old new
  submits_elsewhere tags old new op tag apart submits =
      let step : Step = Submitted tag (work_of op) in
      let is : IsElsewhere mine tags step = record { foreign = tt; apart = apart } in
      record {
        newer = step ∷ [];
        told = submits.told;
        elsewhere = All-cons (IsElsewhere mine tags) step [] is (All-nil (IsElsewhere mine tags));
        next = omega (arith, submits.fresh, submits.next);
        faults = λ pv. let same : new.faults pv ≡ old.faults pv = ap (λ (f : ℕ → ℕ). f pv) submits.faults in omega (arith, same);
      }

  or_left_false : (a b : Bool) → (a || b) ≡ false → a ≡ false
  or_left_false true b e = e
  or_left_false false b e = refl

  or_right_false : (a b : Bool) → (a || b) ≡ false → b ≡ false
  or_right_false true b e = cc
  or_right_false false b e = e

  -- operations of another batch are submitted
  all_elsewhere : (tags : List ℕ) (os : List Operation)
      → ((pv sector : ℕ) → IsTrue (mine pv sector) → writes_at (works_of os) pv sector ≡ false)
      → All (IsElsewhere mine tags) (submissions os)
  all_elsewhere tags [] apart = All-nil (IsElsewhere mine tags)
  all_elsewhere tags (o ∷ os) apart =
      let is : IsElsewhere mine tags (Submitted o.tag o.work) =
      record {
        foreign = tt;
        apart = λ pv sector own. or_left_false (writes o.work pv sector) (writes_at (works_of os) pv sector)
            (apart pv sector own);
      } in
      All-append (IsElsewhere mine tags) (submissions os) (Submitted o.tag o.work ∷ [])
      (all_elsewhere tags os (λ pv sector own. or_right_false (writes o.work pv sector) (writes_at (works_of os) pv sector)
      (apart pv sector own)))
      (All-cons (IsElsewhere mine tags) (Submitted o.tag o.work) [] is (All-nil (IsElsewhere mine tags)))

  pub works_elsewhere : (tags : List ℕ) (old new : State) (works : List Work) (theirs : List ℕ) → SubmitsWorks old works theirs new
      → ((pv sector : ℕ) → IsTrue (mine pv sector) → writes_at works pv sector ≡ false) → GoesElsewhere mine tags old new
  works_elsewhere tags old new works theirs s apart = record {
    newer = submissions s.os;
    told = s.submits.told ∙ submitted_told s.os old.told;
    elsewhere =
        all_elsewhere tags s.os (λ pv sector own. subst (λ (ws : List Work). writes_at ws pv sector ≡ false) (sym s.works_are)
        (apart pv sector own));
    next = s.submits.next;
    faults = λ pv. let same : new.faults pv ≡ old.faults pv = ap (λ (f : ℕ → ℕ). f pv) s.submits.faults in omega (arith, same);
  }

-- no count of faults falls
pub faults_beside : (mine : ℕ → ℕ → Bool) (tags : List ℕ) (faults : ℕ → ℕ) (lost : Option ℕ) (old new : State)
    → GoesElsewhere mine tags old new → FaultsSince faults lost old → FaultsSince faults lost new
faults_beside mine tags faults lost old new else h = record {
  rise = λ pv. omega (arith, h.rise pv, else.faults pv);
  lost_rose = λ pv is. omega (arith, h.lost_rose pv is, else.faults pv);
}
