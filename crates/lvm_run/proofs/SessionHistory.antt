-- The journal and the answers of a session are those of one history since the disks were handed in.
use Rattle.std.proofs.Common.{◌≡◌, ℕ, true, List, Option, None, Some, IfSome, refl, sym, ap, subst, arith}
use Rattle.std.specs.Prelude.{Ok}
use Rattle.command_table.specs.Options.{Word}
use Rattle.lvm_script.specs.declared.line.Line.{Line}
use Rattle.disk_model.specs.Durability.{IsBase}
use Rattle.disk_model.specs.Record.{IsRecord}
use Rattle.disk_model.specs.State.{State}
use Rattle.disk_model.specs.Steps.{Image, Record}
use Rattle.disk_batch.specs.InTurn.{WritesInTurn, with_batches}
use Rattle.meta_model.specs.declared.group.Group.{Group}
use Rattle.volume_rules.specs.Rules.{IsAccepted}
use Rattle.vg_found.specs.Shape.{HasShape}
use Rattle.vg_found.specs.Whole.{IsWhole}
use Rattle.vg_found.specs.declared.found.Found.{Found}
use Rattle.vg_repair.specs.Batches.{repair_batches}
use Rattle.vg_repair.specs.Repaired.{repaired_of}
use Rattle.repair_scans.proofs.FoundGroup.{found_accepted}
use Rattle.repair_scans.proofs.SameVersion.{version_kept}
use Rattle.repair_scans.specs.Laws.{CanRepair, RepairedScans}
use Rattle.line_table.specs.Machine.{PlainState}
use Rattle.volume_history.specs.Chronicles.{Origin}
use Rattle.volume_history.specs.Laws.{PartsMakeConsistent}
use Rattle.volume_history.specs.Starting.{StartsWith}
use Rattle.line_history.proofs.RepairedStart.{consistent_until, ready_base, start_of, starts}
use Rattle.line_history.specs.Histories.{run_from}
use Rattle.session_run.specs.Running.{RunsLines, said_in}
use Rattle.session_run.specs.declared.running.RanLines.{RanLines}
use Rattle.lvm_run.specs.History.{HasShownHistory, KeepsLines, Said}
use Rattle.lvm_run.specs.Scan.{OpensDisks}
use Rattle.lvm_run.specs.Sessions.{OpensAndRepairs}
use Rattle.lvm_run.proofs.Promised.{IsTold, same_told}
use Rattle.lvm_run.proofs.SessionStart.{can_repair, look, look_told, looks}

-- what holds of each group that was found
if_found : (o : Option Group) → ((group : Group) → o ≡ Some group → IsAccepted group) → IfSome o IsAccepted
if_found None each = tt
if_found (Some group) each = each group refl

module _ {S : Type 0} (scans : RepairedScans) (parts : PartsMakeConsistent) (names : List Word) (state : S → State) (old : State)
    (old_told : IsTold old) (repaired : Found) (shape : HasShape repaired) (whole : IsWhole repaired) (ready : S)
    (ready_told : IsTold (state ready)) (o : OpensAndRepairs old (Ok repaired) (state ready)) (lines : List Line) (ran : RanLines S)
    (runs : RunsLines state repaired ready lines ran) where
  same : repaired ≡ repaired_of o.found
  same = o.repairs.cause.now

  module _ (handed : Record) (there : old.told ≡ Some handed) (base : Image) (base_is : IsBase handed base) (clock : ℕ) where
    can : CanRepair base old.sizes o.found
    can = can_repair old o.opened old_told o.found o.opens handed there base base_is o.repairs.cause.fits (o.repairs.images tt)

    abbrev seen : Record
    seen = look old o.opened old_told o.found o.opens handed there base base_is

    abbrev saw : OpensDisks old.sizes handed true seen
    saw = looks old o.opened old_told o.found o.opens handed there base base_is

    -- what was found was repaired
    seen_told : o.opened.told ≡ Some seen
    seen_told = look_told old o.opened old_told o.found o.opens handed there base base_is

    abbrev told : Record
    told = (o.repairs.told seen seen_told).0

    is_told : (state ready).told ≡ Some told
    is_told = (o.repairs.told seen seen_told).1

    repair : WritesInTurn seen (repair_batches o.found) true told
    repair = (o.repairs.told seen seen_told).2

    record_is : IsRecord told.steps
    record_is = ready_told.record_is told is_told

    abbrev ready_image : Image
    ready_image = with_batches (repair_batches o.found) base

    abbrev begins : Origin
    begins = start_of handed told old.sizes o.found names clock

    accepted : IfSome repaired.group IsAccepted
    accepted =
        subst (λ (f : Found). IfSome f.group IsAccepted) (sym same)
        (if_found o.found.group (found_accepted base old.sizes o.found can.scan))

    -- the run of the lines goes on from there
    goes_on : (ended : Record) → (state ran.shelf).told ≡ Some ended
        → HasShownHistory (run_from handed old.sizes names clock ended) ran.journal.items (said_in runs.run.world ran.answers.items)
    goes_on ended at_end =
        let h =
        runs.consistent begins ready_image is_told
        (subst (λ (f : Found). StartsWith begins f) (sym same)
        (starts handed seen told saw.since saw.steps saw.nothing base base_is old.sizes o.found can true repair record_is names clock refl))
        (record {
          found = repaired_of o.found;
          scan = scans base old.sizes o.found can;
          shape = subst HasShape same shape;
          whole = subst IsWhole same whole;
          accepted = subst (λ (f : Found). IfSome f.group IsAccepted) same accepted;
          version = version_kept o.found;
        })
        (ready_base handed seen told saw.since saw.steps saw.nothing base base_is old.sizes o.found can true repair record_is names clock
        refl)
        (λ m ge lt.
        consistent_until handed seen told saw.since saw.steps saw.nothing base base_is old.sizes o.found can true repair record_is names
        clock refl parts m ge (omega (arith, lt)))
        in
        let is : h.told ≡ ended = same_told (state ran.shelf).told h.told ended h.is at_end in
        let journal = ran.journal.items in
        let said : List Said = said_in runs.run.world ran.answers.items in
        subst (λ (t : Record). HasShownHistory (run_from handed old.sizes names clock t) journal said) is
        (record { history = h.history; shown = ap (λ (s : PlainState). s.volumes) h.shown; causes = h.causes })

  pub session_history : KeepsLines names old ran.journal.items (said_in runs.run.world ran.answers.items) (state ran.shelf)
  session_history handed there base base_is clock ended at_end = goes_on handed there base base_is clock ended at_end
