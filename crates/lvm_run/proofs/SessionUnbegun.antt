-- A session that ended before its lines keeps the promise.
use Rattle.std.proofs.Common.{◌≡◌, ◌≤◌, ◌∙◌, ℕ, Bool, true, false, List, [], None, sym, subst, arith}
use Rattle.std.specs.Prelude.{Result, Ok, Err}
use Rattle.command_table.specs.Options.{Word}
use Rattle.command_table.specs.declared.request.Session.{Session}
use Rattle.disk_batch.specs.InTurn.{WritesInTurn}
use Rattle.disk_model.specs.Since.{BetweenRecords}
use Rattle.disk_model.specs.State.{State}
use Rattle.disk_model.specs.Steps.{Record}
use Rattle.vg_found.specs.declared.found.Found.{Found}
use Rattle.vg_repair.specs.Batches.{repair_batches}
use Rattle.vg_repair.specs.Laws.{KeepsImages, StraysAreOthers}
use Rattle.vg_repair.specs.Stale.{too_large}
use Rattle.vg_repair.specs.declared.fault.RepairFault.{RepairFault}
use Rattle.vg_repair.specs.declared.fault.RepairFault.TheVariants as repair
use Rattle.line_history.proofs.RepairedStart.{ended_then}
use Rattle.lvm_run.specs.History.{KeepsPromise}
use Rattle.lvm_run.specs.Sessions.{InUse, IsEndedBefore, NoLines, Opens, OpensAndRepairs, RepairsFound, Unbegun, Unbuilt, Unknown, Unopened}
use Rattle.lvm_run.specs.Sessions.{Unready, Unrepaired}
use Rattle.lvm_run.specs.Sourced.{SourceState}
use Rattle.lvm_run.specs.declared.ending.Ending.{Ending}
use Rattle.lvm_run.proofs.Promised.{IsTold, kept_unbegun, kept_undone, kept_unopened, same_told}
use Rattle.lvm_run.proofs.SessionStart.{can_repair, look, look_told, looks}

-- ---- the disks were taken as this was found

module _ (names : List Word) (now : ℕ) (old opened new : State) (old_told : IsTold old) (new_told : IsTold new) (found : Found)
    (opens : Opens old found opened) where
  -- its repair was begun
  begun_so : (well : Bool) → too_large found ≡ None → (StraysAreOthers found → KeepsImages found)
      → BetweenRecords (λ a b. WritesInTurn a (repair_batches found) well b) opened.told new.told → KeepsPromise names now old [] [] new
  begun_so well fits keeps told handed there base base_is version finds ended at_end =
      let seen : Record = look old opened old_told found opens handed there base base_is in
      let l = looks old opened old_told found opens handed there base base_is in
      let t = told seen (look_told old opened old_told found opens handed there base base_is) in (
        ended_then handed seen ended l.since l.steps l.nothing base base_is old.sizes found
            (can_repair old opened old_told found opens handed there base base_is fits keeps) well
            (subst (λ (u : Record). WritesInTurn seen (repair_batches found) well u) (same_told new.told t.0 ended t.1 at_end) t.2)
            (new_told.record_is ended at_end) names now,
        tt,
      )

  module _ (later : old.steps ≤ new.steps) where
    -- or it wasn't
    unrepaired_so : BetweenRecords (λ a b. b ≡ a) opened.told new.told → KeepsPromise names now old [] [] new
    unrepaired_so told =
        (kept_unbegun names now old new later new_told
        (λ handed there.
        let o = opens.told handed there in
        let t = told o.0 o.1 in (t.0, t.1, (o.2.since, t.2 ∙ o.2.steps, o.2.nothing)))).promise

    repaired_so : (result : Result Found RepairFault) → RepairsFound opened found result new → KeepsPromise names now old [] [] new
    repaired_so (Ok repaired) r = begun_so true r.cause.fits (r.images tt) r.told
    repaired_so (Err (repair.Pv pv)) r = begun_so false r.cause.0 (r.images tt) r.told
    repaired_so (Err repair.NoMemory) r = unrepaired_so r.told
    repaired_so (Err (repair.TooLarge pv need room)) r = unrepaired_so r.told

ready_so : (names : List Word) (now : ℕ) (old new : State) → IsTold old → IsTold new → (result : Result Found RepairFault)
    → OpensAndRepairs old result new → KeepsPromise names now old [] [] new
ready_so names now old new old_told new_told result o =
    repaired_so names now old o.opened new old_told new_told o.found o.opens (omega (arith, o.opens.again.later, o.repairs.again.later))
    result o.repairs

-- ---- nothing was done

undone_so : (names : List Word) (now : ℕ) (old new : State) → IsTold old → new ≡ old → KeepsPromise names now old [] [] new
undone_so names now old new told nothing =
    subst (λ (s : State). KeepsPromise names now old [] [] s) (sym nothing) (kept_undone names now old told).promise

pub promised_unbegun : {forced : Bool} {session : Session} {from to : SourceState} {ids ids_after : ℕ → List ℕ} {ending : Ending}
    (names : List Word)
    (old new : State) → IsTold old → IsTold new → IsEndedBefore forced session from to ids ids_after old new ending → (now : ℕ)
    → KeepsPromise names now old [] [] new
promised_unbegun names old new old_told new_told (Unbuilt why) now = undone_so names now old new old_told why.nothing
promised_unbegun names old new old_told new_told (Unknown why) now = undone_so names now old new old_told why.nothing
promised_unbegun names old new old_told new_told (NoLines built why nothing) now = undone_so names now old new old_told nothing
promised_unbegun names old new old_told new_told (Unready built lines reads (Unopened why)) now =
    (kept_unopened false names now old new why.again.later new_told why.told).promise
promised_unbegun names old new old_told new_told (Unready built lines reads (InUse unforced why)) now =
    (kept_unopened true names now old new why.opens.again.later new_told why.opens.told).promise
promised_unbegun names old new old_told new_told (Unready built lines reads (Unrepaired fault is o)) now =
    ready_so names now old new old_told new_told (Err fault) o
promised_unbegun names old new old_told new_told (Unbegun built lines reads why) now =
    ready_so names now old new old_told new_told (Ok why.repaired) why.ready
