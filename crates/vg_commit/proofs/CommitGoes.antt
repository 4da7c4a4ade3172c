-- One of the batches of a commit takes a completion.
use Rattle.std.proofs.Common.{◌≤◌, ℕ, Bool, IsTrue, List, IfSome, arith}
use Rattle.disk_model.specs.declared.ops.Done.{Done}
use Rattle.disk_model.specs.Calls.{Completes}
use Rattle.disk_model.specs.Durability.{AllLeave}
use Rattle.disk_model.specs.InFlight.{IsAmong}
use Rattle.disk_model.specs.State.{IsLawful, State}
use Rattle.disk_model.specs.Steps.{Record, steps_on}
use Rattle.disk_model.proofs.WhereTold.{told_after, told_weaker}
use Rattle.disk_batch.specs.declared.batching.BatchStep.{BatchStep}
use Rattle.disk_batch.specs.Alone.{lost_of}
use Rattle.disk_batch.specs.Along.{AllAlong}
use Rattle.disk_batch.specs.Batches.{Goes, after_done}
use Rattle.disk_batch.specs.Faults.{FaultsSince}
use Rattle.disk_batch.specs.Rounds.{BatchHolds}
use Rattle.disk_batch.specs.Views.{View}
use Rattle.disk_batch.proofs.Along.{LeavesAndAllows, along_both, along_completes, along_goes, along_told}
use Rattle.disk_batch.proofs.Calling.{Came, Holds, goes_came, own_completes}
use Rattle.disk_batch.proofs.Elsewhere.{flushed_steps}
use Rattle.disk_batch.proofs.Faulting.{faults_go}
use Rattle.disk_batch.proofs.FlushedStates.{KeepsFlush, goes_flush}
use Rattle.vg_commit.specs.CommitHolds.{Commit, HaveFlushed, is_own}
use Rattle.vg_commit.specs.SectorReading.{AreSized, old_reading}

-- the disks that were flushed were so once the shelf has gone on
pub flushed_along : (c : Commit) (P : Record → Type 0) (old new : State) → AllAlong P old new
    → IfSome old.told (λ told. HaveFlushed c told.steps) → IfSome new.told (λ told. HaveFlushed c told.steps)
flushed_along c P old new h flushed =
    told_after (steps_on h.newer) (λ told. HaveFlushed c told.steps) (λ told. HaveFlushed c told.steps) old.told new.told h.told
    (λ t is f k d within. flushed_steps (is_own c) c.from _ h.newer t (f k d within)) flushed

-- what is known once a batch of the commit has taken a completion
pub record Took (c : Commit) (target : ℕ → ℕ → Bool) (Now Goal : ℕ → ℕ → List ℕ → Type 0) (before : State) (flush : List ℕ)
    (came : BatchStep) (mid : State) : Type 0 where
  pub now : Came (is_own c) target Now Goal came mid
  pub along : AllAlong (AllLeave (is_own c) Now) before mid
  pub sized : IfSome mid.told (λ told. AreSized (old_reading c.bytes) c.areas)
  pub since : c.from ≤ mid.next_tag
  pub faults : FaultsSince c.faults (lost_of came) mid
  pub flush_stays : KeepsFlush flush came

module _ (c : Commit) (target : ℕ → ℕ → Bool) (Now Goal : ℕ → ℕ → List ℕ → Type 0) (before old mid : State) (view : View) (done : Done)
    (lawful : IsLawful old) (completes : Completes before done old) where
  abbrev Leaves : Record → Type 0
  Leaves = AllLeave (is_own c) Now

  abbrev Sized : Record → Type 0
  Sized told = AreSized (old_reading c.bytes) c.areas

  leaves_before : (state : State) (v : View) → Holds (is_own c) target Now Goal v state → IfSome state.told Leaves
  leaves_before state v h = told_weaker (BatchHolds (is_own c) target Now Goal v) Leaves state.told (λ t b. b.leaves) h

  module _ (h : Holds (is_own c) target Now Goal view before) where
    at_old : IfSome old.told Leaves
    at_old = leaves_before old (after_done view done) (own_completes (is_own c) target Now Goal before old done view lawful completes h)

    moments : (came : BatchStep) → Goes old view done came mid → AllAlong Leaves before mid
    moments came goes =
        along_both Leaves before old mid (along_completes Leaves before old done completes (leaves_before before view h) at_old)
        (along_goes (is_own c) Now old mid view done came goes
        (told_weaker (BatchHolds (is_own c) target Now Goal (after_done view done)) (LeavesAndAllows (is_own c) Now view) old.told
        (λ t b. (b.leaves, b.rest_allowed)) (own_completes (is_own c) target Now Goal before old done view lawful completes h)))

    pub took : (came : BatchStep) → Goes old view done came mid
        → ((pv sector : ℕ) → IsTrue (is_own c pv sector) → IsTrue (target pv sector) → IsAmong view.flush pv) → IfSome before.told Sized
        → c.from ≤ before.next_tag → FaultsSince c.faults view.lost before
        → Took c target Now Goal before view.flush came mid
    took came goes among sized since faults =
        let along : AllAlong Leaves before mid = moments came goes in
        record {
          now = goes_came (is_own c) target Now Goal before old mid view done came lawful among completes goes h;
          along = along;
          sized = along_told Leaves (AreSized (old_reading c.bytes) c.areas) before mid along sized;
          since = omega (arith, since, along.next);
          faults = faults_go c.faults before old mid view done came completes goes faults;
          flush_stays = goes_flush old mid view done came goes;
        }
