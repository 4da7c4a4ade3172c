-- What the calls of a batch and the completions of a shelf do to what a batch has made sure of.
use Rattle.std.proofs.Common.{◌<◌, length, arith, ◌≡◌, ℕ, Bool, true, false, IsTrue, List, [], ◌∷◌, ◌++◌, map, Option, Some, None, IfSome}
use Rattle.std.proofs.Common.{option_map, refl, sym, ap, subst, ◌∙◌}
use Rattle.std.proofs.lemmas.List.{map-append}
use Rattle.sector_base.specs.declared.spans.Span.{Span}
use Rattle.disk_model.specs.declared.ops.Op.{Op}
use Rattle.disk_model.specs.declared.ops.Done.{Done}
use Rattle.disk_model.specs.Steps.{Work, Step, Submitted, Completed, step_on}
use Rattle.disk_model.specs.Record.{IsRecord}
use Rattle.disk_model.specs.Brought.{writes}
use Rattle.disk_model.specs.Operations.{work_of, disk_of}
use Rattle.disk_model.specs.Calls.{Submits, Completes}
use Rattle.disk_model.specs.State.{State, IsLawful}
use Rattle.disk_model.specs.Durability.{OnlyLeaves, AllLeave}
use Rattle.disk_model.proofs.WhereTold.{told_at, told_after, told_weaker}
use Rattle.disk_batch.specs.declared.batching.BatchStep.{BatchStep}
use Rattle.disk_batch.specs.declared.batching.BatchStep.TheVariants.{Going, Well, Lost}
use Rattle.disk_batch.specs.Views.{View, Turn, Waits, Writes, Flushes, IsWell, IsLost, turn_of}
use Rattle.disk_batch.specs.Writes.{write_work}
use Rattle.disk_batch.specs.Batches.{Starts, Follows, Goes, view_of, after_done}
use Rattle.disk_batch.specs.Rounds.{AreStill, BatchHolds, WriteTargets}
use Rattle.disk_batch.proofs.Rounding.{batch_started, batch_elsewhere, batch_done, batch_next, batch_flushes, batch_brought, batch_still}
use Rattle.disk_model.specs.Record.{Operation}
use Rattle.disk_model.specs.Submitting.{submitted_on, works_of}
use Rattle.disk_batch.specs.Submits.{put_operation}
use Rattle.disk_model.specs.InFlight.{IsAmong}

-- what the first of some writes and the others do
pub works_parted : (puts first rest : List (Span × List (List ℕ))) (os : List Operation) → puts ≡ first ++ rest
    → works_of os ≡ map write_work first → map write_work puts ≡ works_of os ++ map write_work rest
works_parted puts first rest os parts is =
    ap (λ (l : List (Span × List (List ℕ))). map write_work l) parts ∙ map-append write_work first rest
    ∙ ap (λ (ws : List Work). ws ++ map write_work rest) (sym is)

module _ (mine target : ℕ → ℕ → Bool) (Now Goal : ℕ → ℕ → List ℕ → Type 0) where
  -- what a batch makes sure of, where the shelf tells its record
  abbrev pub Holds : View → State → Type 0
  Holds view state = IfSome state.told (BatchHolds mine target Now Goal view)

  -- it starts
  pub starts_hold : (old new : State) (put : Span × List (List ℕ)) (puts : List (Span × List (List ℕ))) (disks : List ℕ) (view : View)
      → Starts old (put ∷ puts) disks view new
      → WriteTargets mine target Now Goal (map write_work (put ∷ puts))
      → IfSome old.told (λ told. AreStill mine told × AllLeave mine Now told) → Holds view new
  starts_hold old new put puts disks view starts targets h =
      let os = starts.works.os in
      told_after (submitted_on os) (λ told. AreStill mine told × AllLeave mine Now told) (BatchHolds mine target Now Goal view)
      old.told new.told starts.works.submits.told
      (λ t is quiet.
      subst (λ (v : View). BatchHolds mine target Now Goal v (submitted_on os t)) (sym starts.view_is)
      (subst (λ (tags : List ℕ). BatchHolds mine target Now Goal
      (record { tags = tags; flush = disks; flushing = false; lost = None; rest = view.rest }) (submitted_on os t)) starts.works.tags_are
      (batch_started mine target Now Goal os disks view.rest t
      (subst (λ (ws : List Work). WriteTargets mine target Now Goal ws)
      (works_parted (put ∷ puts) starts.first view.rest os starts.parts starts.works.works_are) targets) quiet.0 quiet.1))) h

  -- an operation of its own completes
  pub own_completes : (before mid : State) (done : Done) (view : View) → IsLawful mid → Completes before done mid → Holds view before
      → Holds (after_done view done) mid
  own_completes before mid done view lawful completes h =
      let step : Step = Completed done.tag (work_of done.op) done.well completes.told.0 in
      told_after (step_on step) (BatchHolds mine target Now Goal view) (BatchHolds mine target Now Goal (after_done view done)) before.told
      mid.told completes.told.1
      (λ t is b.
      let record' : IsRecord (step_on step t).steps =
      told_at (λ told. IsRecord told.steps) mid.told (step_on step t) lawful.follows
      (completes.told.1 ∙ ap (option_map (step_on step)) is) in
      batch_done mine target Now Goal view t done.tag (disk_of done.op) (work_of done.op) done.well completes.told.0 record' b) h

  -- another operation completes
  pub other_completes : (before mid : State) (done : Done) (view : View) → (IsAmong view.tags done.tag → ⊥) → Completes before done mid
      → Holds view before → Holds view mid
  other_completes before mid done view foreign completes h =
      told_after (step_on (Completed done.tag (work_of done.op) done.well completes.told.0)) (BatchHolds mine target Now Goal view)
      (BatchHolds mine target Now Goal view) before.told mid.told completes.told.1
      (λ t is b. batch_elsewhere mine target Now Goal view t _ (record { foreign = foreign; apart = λ pv sector own. refl }) b) h

  -- another operation is submitted
  pub other_submits : (old new : State) (op : Op) (tag : ℕ) (view : View)
      → ((pv sector : ℕ) → IsTrue (mine pv sector) → writes (work_of op) pv sector ≡ false) → Submits old op tag new → Holds view old
      → Holds view new
  other_submits old new op tag view apart submits h =
      told_after (step_on (Submitted tag (work_of op))) (BatchHolds mine target Now Goal view) (BatchHolds mine target Now Goal view)
      old.told new.told submits.told
      (λ t is b. batch_elsewhere mine target Now Goal view t _ (record { foreign = tt; apart = apart }) b) h

  -- what a batch came to
  abbrev pub Came : BatchStep → State → Type 0
  Came (Going next) state = Holds (view_of next) state
  Came Well state =
      IfSome state.told (λ told. AreStill mine told × AllLeave mine Now told
      × ((pv sector : ℕ) → IsTrue (mine pv sector) → IsTrue (target pv sector) → OnlyLeaves told pv sector (Goal pv sector)))
  Came (Lost pv) state = IfSome state.told (λ told. AreStill mine told × AllLeave mine Now told)

-- which turn a view has
abbrev pub IsTurn : View → Turn → Type 0
IsTurn view Waits = 0 < length view.tags
IsTurn view Writes = view.flushing ≡ false
IsTurn view Flushes = (view.tags ≡ []) × (view.flushing ≡ false) × (view.lost ≡ None) × (view.rest ≡ [])
IsTurn view IsWell = (view.tags ≡ []) × (view.flushing ≡ true) × (view.lost ≡ None)
IsTurn view (IsLost pv) = (view.tags ≡ []) × (view.lost ≡ Some pv) × (view.flushing ≡ false → view.rest ≡ [])

turn_by : (tags flush : List ℕ) (flushing : Bool) (lost : Option ℕ) (rest : List (Span × List (List ℕ)))
    → IsTurn (record { tags = tags; flush = flush; flushing = flushing; lost = lost; rest = rest })
    (turn_of (record { tags = tags; flush = flush; flushing = flushing; lost = lost; rest = rest }))
turn_by tags flush false lost (put ∷ puts) = refl
turn_by (t ∷ ts) flush false lost [] = omega arith
turn_by [] flush false (Some pv) [] = (refl, refl, λ f. refl)
turn_by [] flush false None [] = (refl, refl, refl, refl)
turn_by (t ∷ ts) flush true lost rest = omega arith
turn_by [] flush true (Some pv) rest = (refl, refl, λ (f : true ≡ false). cc)
turn_by [] flush true None rest = (refl, refl, refl)

pub is_turn : (view : View) → IsTurn view (turn_of view)
is_turn view = turn_by view.tags view.flush view.flushing view.lost view.rest

module _ (mine target : ℕ → ℕ → Bool) (Now Goal : ℕ → ℕ → List ℕ → Type 0) where
  -- a batch goes on after a completion of its own
  follows_came : (old new : State) (view : View) (turn : Turn) (step : BatchStep) → IsTurn view turn
      → ((pv sector : ℕ) → IsTrue (mine pv sector) → IsTrue (target pv sector) → IsAmong view.flush pv)
      → Follows old view turn step new → Holds mine target Now Goal view old → Came mine target Now Goal step new
  follows_came old new view Waits (Going next) is among f h =
      subst (λ (s : State). Holds mine target Now Goal (view_of next) s) (sym f.0)
      (subst (λ (v : View). Holds mine target Now Goal v old) (sym f.1) h)
  follows_came old new view Writes (Going next) is among f h =
      let o : Operation = put_operation f.tag f.put in
      told_after (submitted_on (o ∷ [])) (BatchHolds mine target Now Goal view) (BatchHolds mine target Now Goal (view_of next)) old.told
      new.told f.submits.told
      (λ t told b.
      subst (λ (v : View). BatchHolds mine target Now Goal v (submitted_on (o ∷ []) t)) (sym f.view_is)
      (batch_next mine target Now Goal view f.put f.puts o t f.next_is is refl b)) h
  follows_came old new view Flushes (Going next) is among f h =
      told_after (submitted_on f.0.os) (BatchHolds mine target Now Goal view) (BatchHolds mine target Now Goal (view_of next)) old.told
      new.told f.0.submits.told
      (λ t told b.
      subst (λ (v : View). BatchHolds mine target Now Goal v (submitted_on f.0.os t)) (sym f.1)
      (subst (λ (tags : List ℕ). BatchHolds mine target Now Goal (record view { tags = tags; flushing = true }) (submitted_on f.0.os t))
      f.0.tags_are
      (batch_flushes mine target Now Goal view f.0.os t is.0 is.1 is.2 is.3 f.0.works_are among b))) h
  follows_came old new view IsWell Well is among f h =
      subst (λ (s : State). Came mine target Now Goal Well s) (sym f)
      (told_weaker (BatchHolds mine target Now Goal view)
      (λ told. AreStill mine told × AllLeave mine Now told
      × ((pv sector : ℕ) → IsTrue (mine pv sector) → IsTrue (target pv sector) → OnlyLeaves told pv sector (Goal pv sector))) old.told
      (λ t b. (batch_still mine target Now Goal view t is.0 b, b.leaves, batch_brought mine target Now Goal view t is.0 is.1 is.2 b)) h)
  follows_came old new view (IsLost pv) (Lost pv') is among f h =
      subst (λ (s : State). Came mine target Now Goal (Lost pv') s) (sym f.0)
      (told_weaker (BatchHolds mine target Now Goal view) (λ told. AreStill mine told × AllLeave mine Now told) old.told
      (λ t b. (batch_still mine target Now Goal view t is.0 b, b.leaves)) h)
  follows_came old new view turn step is among f h = absurd f

  -- a completion of its own, and what the batch does at it
  pub goes_came : (before mid new : State) (view : View) (done : Done) (step : BatchStep) → IsLawful mid
      → ((pv sector : ℕ) → IsTrue (mine pv sector) → IsTrue (target pv sector) → IsAmong view.flush pv)
      → Completes before done mid → Goes mid view done step new → Holds mine target Now Goal view before
      → Came mine target Now Goal step new
  goes_came before mid new view done step lawful among completes goes h =
      let after = after_done view done in
      follows_came mid new after (turn_of after) step (is_turn after) among goes
      (own_completes mine target Now Goal before mid done view lawful completes h)
