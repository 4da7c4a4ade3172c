-- What holds at each moment while a shelf goes on.
use Rattle.std.proofs.Common.{◌≡◌, ◌≤◌, ◌<◌, ℕ, ◌+◌, Bool, IsTrue, List, [], ◌∷◌, ◌++◌, length, map, Option, Some, None, IfSome, option_map}
use Rattle.std.proofs.Common.{refl, sym, ap, subst, ◌∙◌, ⊎_elim, arith, append_assoc, length-append}
use Rattle.std.proofs.lemmas.Bool.{cases_lt}
use Rattle.std.proofs.lemmas.List.{map-append}
use Rattle.sector_base.specs.declared.spans.Span.{Span}
use Rattle.disk_model.specs.declared.ops.Done.{Done}
use Rattle.disk_model.specs.Steps.{Work, Flushing, Step, Completed, Record, step_on, steps_on}
use Rattle.disk_model.specs.Operations.{work_of}
use Rattle.disk_model.specs.Calls.{Completes}
use Rattle.disk_model.specs.State.{State}
use Rattle.disk_model.specs.Record.{Operation}
use Rattle.disk_model.specs.Durability.{AllLeave}
use Rattle.disk_model.specs.Moments.{Throughout}
use Rattle.disk_model.specs.Submitting.{BringAt, SubmitsAll, submitted_on, works_of}
use Rattle.disk_model.proofs.EachMoment.{leaves_throughout, moment_now, throughout_now, throughout_step, throughout_weaken}
use Rattle.disk_model.proofs.WhereTold.{told_after, told_both, told_weaker}
use Rattle.disk_batch.specs.declared.batching.BatchStep.{BatchStep}
use Rattle.disk_batch.specs.declared.batching.BatchStep.TheVariants.{Going, Well, Lost}
use Rattle.disk_batch.specs.Along.{AllAlong, HoldsSince}
use Rattle.disk_batch.specs.Batches.{Follows, Goes, Starts, after_done}
use Rattle.disk_batch.specs.Submits.{SubmitsWorks, put_operation}
use Rattle.disk_batch.specs.Views.{View, Turn, Waits, Writes, Flushes, IsWell, IsLost, turn_of}
use Rattle.disk_batch.specs.Writes.{IsWrittenBy, write_work}
use Rattle.disk_batch.proofs.Carrying.{submissions, submitted_steps}
use Rattle.disk_batch.proofs.Growing.{throughout_grown}
use Rattle.disk_batch.proofs.Works.{bring_left}
use Rattle.disk_batch.proofs.WrittenBy.{bring_at_weaker, bring_written}

-- two stretches of a record
pub throughout_join : (told : Record) (from mid until : ℕ) (P : Record → Type 0) → Throughout from mid told P → Throughout mid until told P
    → Throughout from until told P
throughout_join told from mid until P first second moment ge upto =
    ⊎_elim (λ (early : moment < mid). first moment ge (omega arith)) (λ (late : mid ≤ moment). second moment late upto)
    (cases_lt moment mid)

-- no step
pub since_none : (P : Record → Type 0) (told : Record) → P told → HoldsSince P [] told
since_none P told h = throughout_now told P h

-- one step
pub since_step : (P : Record → Type 0) (step : Step) (told : Record) → P told → P (step_on step told) → HoldsSince P (step ∷ []) told
since_step P step told before after = throughout_step step told (length told.steps) P after (throughout_now told P before)

-- steps and then more of them
pub since_both : (P : Record → Type 0) (first more : List Step) (told : Record) → HoldsSince P first told
    → HoldsSince P more (steps_on first told) → HoldsSince P (more ++ first) told
since_both P first more told a b =
    let mid : Record = steps_on first told in
    let joined : steps_on more mid ≡ steps_on (more ++ first) told =
    ap (λ (l : List Step). record { opened = told.opened; steps = l }) (sym (append_assoc more first told.steps)) in
    let early : Throughout (length told.steps) (length mid.steps) (steps_on more mid) P =
    throughout_grown mid more (length told.steps) (length mid.steps) P (omega arith) a in
    subst (λ (t : Record). Throughout (length told.steps) (length t.steps) t P) joined
    (throughout_join (steps_on more mid) (length told.steps) (length mid.steps) (length (steps_on more mid).steps) P early b)

pub since_weaker : (P Q : Record → Type 0) → ((t : Record) → P t → Q t) → (newer : List Step) (told : Record) → HoldsSince P newer told
    → HoldsSince Q newer told
since_weaker P Q w newer told h =
    let end : Record = steps_on newer told in
    throughout_weaken end (length told.steps) (length told.steps) (length end.steps) (length end.steps) P Q (omega arith) (omega arith) w h

-- what holds throughout holds at the end
pub since_end : (P : Record → Type 0) (newer : List Step) (told : Record) → HoldsSince P newer told → P (steps_on newer told)
since_end P newer told h =
    let end : Record = steps_on newer told in
    let grown : length end.steps ≡ length newer + length told.steps = length-append newer told.steps in
    subst P (moment_now end) (h (length end.steps) (omega arith) (omega arith))

-- the same of a shelf
pub along_same : (P : Record → Type 0) (old new : State) → new ≡ old → IfSome old.told P → AllAlong P old new
along_same P old new same h = record {
  newer = [];
  told = ap (λ (s : State). s.told) same ∙ none_on old.told;
  next = let e = ap (λ (s : State). s.next_tag) same in omega (arith, e);
  throughout = told_weaker P (HoldsSince P []) old.told (since_none P) h;
}
  where
    none_on : (o : Option Record) → o ≡ option_map (steps_on []) o
    none_on None = refl
    none_on (Some t) = refl

joined_on : (first more : List Step) (o : Option Record)
    → option_map (steps_on more) (option_map (steps_on first) o) ≡ option_map (steps_on (more ++ first)) o
joined_on first more None = refl
joined_on first more (Some t) =
    ap (λ (l : List Step). Some (record { opened = t.opened; steps = l })) (sym (append_assoc more first t.steps))

both_on : (P : Record → Type 0) (first more : List Step) (o mid : Option Record) → mid ≡ option_map (steps_on first) o
    → IfSome o (HoldsSince P first) → IfSome mid (HoldsSince P more) → IfSome o (HoldsSince P (more ++ first))
both_on P first more None mid e a b = tt
both_on P first more (Some t) mid e a b = since_both P first more t a (subst (λ (o : Option Record). IfSome o (HoldsSince P more)) e b)

pub along_both : (P : Record → Type 0) (old mid new : State) → AllAlong P old mid → AllAlong P mid new → AllAlong P old new
along_both P old mid new a b = record {
  newer = b.newer ++ a.newer;
  told = b.told ∙ ap (option_map (steps_on b.newer)) a.told ∙ joined_on a.newer b.newer old.told;
  next = omega (arith, a.next, b.next);
  throughout = both_on P a.newer b.newer old.told mid.told a.told a.throughout b.throughout;
}

pub along_weaker : (P Q : Record → Type 0) (old new : State) → ((t : Record) → P t → Q t) → AllAlong P old new → AllAlong Q old new
along_weaker P Q old new w h =
    record {
      newer = h.newer;
      told = h.told;
      next = h.next;
      throughout = told_weaker (HoldsSince P h.newer) (HoldsSince Q h.newer) old.told (since_weaker P Q w h.newer) h.throughout;
    }

-- what holds all along, where something is known besides
pub along_where : (A : Type 0) (P Q : Record → Type 0) (old new : State) → (A → (t : Record) → P t → Q t) → IfSome old.told (λ told. A)
    → AllAlong P old new → AllAlong Q old new
along_where A P Q old new w known h = record {
  newer = h.newer;
  told = h.told;
  next = h.next;
  throughout =
      told_weaker (λ t. A × HoldsSince P h.newer t) (HoldsSince Q h.newer) old.told (λ t both. since_weaker P Q (w both.0) h.newer t both.1)
      (told_both (λ t. A) (HoldsSince P h.newer) old.told known h.throughout);
}

-- what is so where the shelf tells its record is so once it has gone on
pub along_told : (P : Record → Type 0) (A : Type 0) (old new : State) → AllAlong P old new → IfSome old.told (λ told. A)
    → IfSome new.told (λ told. A)
along_told P A old new h is = told_after (steps_on h.newer) (λ told. A) (λ told. A) old.told new.told h.told (λ t e a. a) is

-- P holds at the end
pub along_end : (P : Record → Type 0) (old new : State) → AllAlong P old new → IfSome new.told P
along_end P old new h =
    told_after (steps_on h.newer) (HoldsSince P h.newer) P old.told new.told h.told (λ t e since. since_end P h.newer t since) h.throughout

-- a completion, whoever's
pub along_completes : (P : Record → Type 0) (before after : State) (done : Done) → Completes before done after → IfSome before.told P
    → IfSome after.told P → AllAlong P before after
along_completes P before after done completes first last =
    let step : Step = Completed done.tag (work_of done.op) done.well completes.told.0 in
    record {
      newer = step ∷ [];
      told = completes.told.1;
      next = omega (arith, completes.next);
      throughout = with_both before.told first (subst (λ (o : Option Record). IfSome o P) completes.told.1 last);
    }
  where
    with_both : (o : Option Record) → IfSome o P
        → IfSome (option_map (step_on (Completed done.tag (work_of done.op) done.well completes.told.0)) o) P
        → IfSome o (HoldsSince P (Completed done.tag (work_of done.op) done.well completes.told.0 ∷ []))
    with_both None a b = tt
    with_both (Some t) a b = since_step P (Completed done.tag (work_of done.op) done.well completes.told.0) t a b

-- submissions are steps
pub submitted_told : (os : List Operation) (o : Option Record) → option_map (submitted_on os) o ≡ option_map (steps_on (submissions os)) o
submitted_told os None = refl
submitted_told os (Some t) = ap (λ (u : Record). Some u) (submitted_steps os t)

module _ (mine : ℕ → ℕ → Bool) (Now : ℕ → ℕ → List ℕ → Type 0) where
  -- submissions of writes that bring only allowed values
  abbrev Allows : List Work → Type 0
  Allows works = (pv sector : ℕ) → IsTrue (mine pv sector) → BringAt works pv sector (Now pv sector)

  along_submitted : (old new : State) (os : List Operation) → SubmitsAll old os new
      → IfSome old.told (λ told. AllLeave mine Now told × Allows (works_of os)) → AllAlong (AllLeave mine Now) old new
  along_submitted old new os submits h = record {
    newer = submissions os;
    told = submits.told ∙ submitted_told os old.told;
    next = submits.next;
    throughout = told_weaker (λ t. AllLeave mine Now t × Allows (works_of os)) (HoldsSince (AllLeave mine Now) (submissions os)) old.told
        (λ t both.
        subst (λ (u : Record). Throughout (length t.steps) (length u.steps) u (AllLeave mine Now)) (submitted_steps os t)
        (leaves_throughout mine Now os t (length t.steps) both.1 both.0 (throughout_now t (AllLeave mine Now) both.0))) h;
  }

  pub along_submits : (old new : State) (works : List Work) (tags : List ℕ) → SubmitsWorks old works tags new → Allows works
      → IfSome old.told (AllLeave mine Now) → AllAlong (AllLeave mine Now) old new
  along_submits old new works tags s bring h =
      along_submitted old new s.os s.submits
      (told_weaker (AllLeave mine Now) (λ t. AllLeave mine Now t × Allows (works_of s.os)) old.told
      (λ t now. (now, subst Allows (sym s.works_are) bring)) h)

  flushes_bring : (disks : List ℕ) (pv sector : ℕ) → BringAt (map Flushing disks) pv sector (Now pv sector)
  flushes_bring [] pv sector = tt
  flushes_bring (d ∷ disks) pv sector = (tt, flushes_bring disks pv sector)

  -- the start of a batch
  pub along_starts : (old new : State) (puts : List (Span × List (List ℕ))) (disks : List ℕ) (view : View) → Starts old puts disks view new
      → ((pv sector : ℕ) (value : List ℕ) → IsTrue (mine pv sector) → IsWrittenBy puts pv sector value → Now pv sector value)
      → IfSome old.told (AllLeave mine Now) → AllAlong (AllLeave mine Now) old new
  along_starts old new [] disks view starts allowed h =
      along_submits old new (map Flushing disks) view.tags starts.0 (λ pv sector own. flushes_bring disks pv sector) h
  along_starts old new (put ∷ puts) disks view starts allowed h =
      let first : List Work = map write_work starts.first in
      let rest : List Work = map write_work view.rest in
      let parts : map write_work (put ∷ puts) ≡ first ++ rest =
      ap (λ (l : List (Span × List (List ℕ))). map write_work l) starts.parts ∙ map-append write_work starts.first view.rest in
      along_submits old new first view.tags starts.works
      (λ pv sector own. bring_left first rest pv sector (Now pv sector)
      (subst (λ (ws : List Work). BringAt ws pv sector (Now pv sector)) parts
      (bring_at_weaker (put ∷ puts) pv sector (IsWrittenBy (put ∷ puts) pv sector) (Now pv sector)
      (λ value by. allowed pv sector value own by) (bring_written (put ∷ puts) pv sector)))) h

  -- what is known where the writes that a batch has still to submit bring only allowed values
  abbrev pub LeavesAndAllows : View → Record → Type 0
  LeavesAndAllows view told = AllLeave mine Now told × Allows (map write_work view.rest)

  leaves_now : (state : State) (view : View) → IfSome state.told (LeavesAndAllows view) → IfSome state.told (AllLeave mine Now)
  leaves_now state view h = told_weaker (LeavesAndAllows view) (AllLeave mine Now) state.told (λ t both. both.0) h

  -- what a batch does at a completion: nothing, its next write, or its flushes
  along_follows : (old new : State) (view : View) (turn : Turn) (step : BatchStep) → Follows old view turn step new
      → IfSome old.told (LeavesAndAllows view) → AllAlong (AllLeave mine Now) old new
  along_follows old new view Waits (Going next) f h = along_same (AllLeave mine Now) old new f.0 (leaves_now old view h)
  along_follows old new view Writes (Going next) f h =
      along_submitted old new (put_operation f.tag f.put ∷ []) f.submits
      (told_weaker (LeavesAndAllows view) (λ t. AllLeave mine Now t × Allows (write_work f.put ∷ [])) old.told
      (λ t both. (
        both.0,
        λ pv sector own. (
          (subst (λ (l : List (Span × List (List ℕ))). BringAt (map write_work l) pv sector (Now pv sector)) f.next_is
              (both.1 pv sector own)).0,
          tt,
        ),
      )) h)
  along_follows old new view Flushes (Going next) f h =
      along_submits old new (map Flushing view.flush) _ f.0 (λ pv sector own. flushes_bring view.flush pv sector) (leaves_now old view h)
  along_follows old new view IsWell Well f h = along_same (AllLeave mine Now) old new f (leaves_now old view h)
  along_follows old new view (IsLost pv) (Lost pv') f h = along_same (AllLeave mine Now) old new f.0 (leaves_now old view h)
  along_follows old new view turn step f h = absurd f

  pub along_goes : (old new : State) (view : View) (done : Done) (step : BatchStep) → Goes old view done step new
      → IfSome old.told (LeavesAndAllows view) → AllAlong (AllLeave mine Now) old new
  along_goes old new view done step goes h = along_follows old new (after_done view done) (turn_of (after_done view done)) step goes h
