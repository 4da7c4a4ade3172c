-- The moments of a run's journal.
use Rattle.std.proofs.Common.{◌≡◌, ◌≤◌, ℕ, Bool, true, false, if◌then◌else◌, List, [], ◌∷◌, Option, Some, None, sym, subst, arith, refl}
use Rattle.std.specs.Option.{option_map_or}
use Rattle.std.specs.Prelude.{Result, Ok, Err}
use Rattle.command_table.specs.Options.{Word}
use Rattle.command_table.specs.declared.command.Command.{Command}
use Rattle.command_table.specs.declared.command.Command.TheVariants.{Lvs, Pvs, Vgcfgbackup, Vgck, Vgs}
use Rattle.line_answers.specs.declared.answer.Answer.{Answer}
use Rattle.lvm_script.specs.declared.line.Line.{Line}
use Rattle.disk_model.specs.State.{State}
use Rattle.disk_batch.specs.InTurn.{Put}
use Rattle.vg_found.specs.declared.found.Found.{Found}
use Rattle.group_ops.specs.Planning.{IsPlanned}
use Rattle.vg_change.specs.CarryingOut.{Carries, made_at}
use Rattle.vg_change.specs.declared.fault.ChangeFault.{ChangeFault}
use Rattle.vg_change.specs.declared.fault.ChangeFault.TheVariants as fault
use Rattle.vg_repair.specs.declared.fault.RepairFault.{RepairFault}
use Rattle.line_history.specs.Histories.{journal_of_line}
use Rattle.lvm_run.specs.Changing.{GoesOn, took_of}
use Rattle.lvm_run.specs.History.{AreInTime, Said, begun_from, journal_by, lines_by, reports_scan, said_of}
use Rattle.lvm_run.specs.declared.outcome.Outcome.{Outcome}

-- ---- what a line that changes something took

-- the moment lies between these two, if there is one
abbrev pub LiesBetween : ℕ → Option ℕ → ℕ → Type 0
LiesBetween from None to = from ≤ to
LiesBetween from (Some moment) to = (from ≤ moment) × (moment ≤ to)

pub lies_whole : (from : ℕ) (took : Option ℕ) (to : ℕ) → LiesBetween from took to → from ≤ to
lies_whole from None to lies = lies
lies_whole from (Some moment) to lies = omega (arith, lies.0, lies.1)

made_between : (commits : Bool) (from made to moment : ℕ) → from ≤ made → made ≤ to → moment ≡ made_at commits made to
    → LiesBetween from (Some moment) to
made_between true from made to moment later sooner is = (omega (arith, later, is), omega (arith, sooner, is))
made_between false from made to moment later sooner is = (omega (arith, later, sooner, is), omega (arith, is))

carried_between : (commits : Bool) (zeros batches clears : List (List Put)) (result : Result ℕ ChangeFault) (old new : State)
    → old.steps ≤ new.steps → Carries commits zeros batches clears result old new → LiesBetween old.steps (took_of result) new.steps
carried_between commits zeros batches clears (Ok moment) old new later c =
    made_between commits old.steps c.0.made.steps new.steps moment c.0.later c.0.sooner c.1
carried_between commits zeros batches clears (Err (fault.Uncleared pv moment)) old new later c =
    made_between true old.steps c.0.made.steps new.steps moment c.0.later c.0.sooner c.1
carried_between commits zeros batches clears (Err (fault.Failed pv)) old new later c = later
carried_between commits zeros batches clears (Err (fault.Refused refusal)) old new later c = later
carried_between commits zeros batches clears (Err fault.NoMemory) old new later c = later

pub goes_between : (names : List Word) (line : Line) (now : ℕ) (result : Result Found RepairFault) (old : State) (outcome : Outcome)
    (took : Option ℕ) (new : State) → GoesOn names line now result old outcome took new → LiesBetween old.steps took new.steps
goes_between names line now (Ok repaired) old outcome took new goes =
    subst (λ (t : Option ℕ). LiesBetween old.steps t new.steps) (sym goes.took_is)
    (carried_between _ _ _ _ goes.result old new goes.again.later goes.carried.told)
goes_between names line now (Err why) old outcome took new goes =
    subst (λ (t : Option ℕ). LiesBetween old.steps t new.steps) (sym goes.1)
    (subst (λ (s : State). old.steps ≤ s.steps) (sym goes.2) (omega arith))

-- one that can be planned is none that reports on a scan alone
pub planned_writes : (id : Option (List ℕ)) (command : Command) → IsPlanned id command → reports_scan command ≡ false
planned_writes id Pvs planned = absurd planned
planned_writes id Vgs planned = absurd planned
planned_writes id Lvs planned = absurd planned
planned_writes id Vgck planned = absurd planned
planned_writes id (Vgcfgbackup vg) planned = absurd planned
planned_writes id _ planned = refl

-- ---- the journal

line_in_time : (from begun : ℕ) (took : Option ℕ) (to : ℕ) → from ≤ begun → LiesBetween begun took to
    → AreInTime from (journal_of_line begun took to) to
line_in_time from begun None to later lies = (later, (lies, omega arith))
line_in_time from begun (Some moment) to later lies = (later, (lies.0, (lies.1, omega arith)))

module _ (line : Line) (outcome : Outcome) (old begun : ℕ) (took : Option ℕ) (new : ℕ) where
  pub run_in_time : old ≤ new → (if reports_scan line.command then new else old) ≤ begun → LiesBetween begun took new
      → AreInTime (begun_from (lines_by line outcome) old new) (journal_by begun took new outcome) new
  run_in_time whole later lies = by (said_of outcome)
    where
      by : (o : Option Answer) → AreInTime (begun_from (option_map_or (λ (said : Answer). (line, Some said) ∷ []) o []) old new)
          (option_map_or (λ (said : Answer). journal_of_line begun took new) o []) new
      by None = whole
      by (Some said) = line_in_time (if reports_scan line.command then new else old) begun took new later lies

  -- where no line was begun it is empty
  pub run_unbegun : lines_by line outcome ≡ [] → journal_by begun took new outcome ≡ []
  run_unbegun none = by (said_of outcome) none
    where
      by : (o : Option Answer) → option_map_or {U = List Said} (λ (said : Answer). (line, Some said) ∷ []) o [] ≡ []
          → option_map_or (λ (said : Answer). journal_of_line begun took new) o [] ≡ []
      by None none = refl
      by (Some said) none = absurd (cc)
