-- Why a session ended, and that it did as is said of it.
use Rattle.std.proofs.Common.{◌≡◌, ◌<◌, ℕ, Bool, true, List, [], length, Option, IfSome, refl, sym, subst}
use Rattle.std.specs.Prelude.{Result, Ok, Err, MatchResult}
use Rattle.std.specs.Result.{IsErrOf}
use Rattle.byte_streams.specs.Streams.{HasRisen}
use Rattle.byte_streams.specs.declared.source_text.ReadFault.{ReadFault}
use Rattle.byte_streams.specs.declared.source_text.ReadFault.TheVariants as read_fault
use Rattle.command_table.specs.declared.request.Session.{Session}
use Rattle.command_table.specs.Options.{Word}
use Rattle.lvm_script.specs.declared.script_refusal.ScriptRefusal.{ScriptRefusal}
use Rattle.lvm_script.specs.declared.script_refusal.ScriptRefusal.TheVariants as script
use Rattle.lvm_script.specs.Script.{IsScriptRefusal}
use Rattle.disk_model.specs.State.{State}
use Rattle.vg_found.specs.declared.found.Found.{Found}
use Rattle.vg_repair.specs.declared.fault.RepairFault.{RepairFault}
use Rattle.session_run.specs.SessionScript.{session_commands}
use Rattle.lvm_run.specs.Changing.{ending_of}
use Rattle.lvm_run.specs.History.{IsNothing, KeepsPromise}
use Rattle.lvm_run.specs.Sessions.{EndedBefore, IsEndedBefore, IsScriptCause, IsUnready, Opens, OpensAndRepairs, RepairsFound, RunsSession}
use Rattle.lvm_run.specs.Sessions.{SessionEnds, Unrepaired, script_ending, source_ending}
use Rattle.lvm_run.specs.Sourced.{GivesText, SourceState}
use Rattle.lvm_run.specs.declared.ending.Ending.{Ending}
use Rattle.lvm_run.specs.declared.entered.Entered.{Entered}
use Rattle.lvm_run.proofs.Promised.{IsTold}
use Rattle.lvm_run.proofs.SessionUnbegun.{promised_unbegun}

-- the source gave no text
pub unread_cause : (from to : SourceState) (fault : ReadFault)
    → (IsErrOf {T = List ℕ} (Err fault) read_fault.ScriptTooLong → IfSome from.left (λ bytes. 16777216 < length bytes))
    → (IsErrOf {T = List ℕ} (Err fault) read_fault.Failed → HasRisen from.faults to.faults)
    → IsScriptCause from to (source_ending fault)
unread_cause from to read_fault.NoMemory long failed = tt
unread_cause from to read_fault.Failed long failed = failed refl
unread_cause from to read_fault.ScriptTooLong long failed = long refl

-- the script in it is refused
pub refused_cause : (from to : SourceState) (text : List ℕ) → GivesText true text from to → (refusal : ScriptRefusal)
    → IsScriptRefusal (session_commands text) refusal → IsScriptCause from to (script_ending refusal)
refused_cause from to text gives script.NoMemory is = tt
refused_cause from to text gives (script.LineRefused line fault place) is = (text, gives, is)

-- what was found was repaired, or not
pub opened_then : (forced : Bool) (old opened : State) (found : Found) → Opens old found opened
    → (new : State) (result : Result Found Ending)
    → MatchResult result (λ repaired. RepairsFound opened found (Ok repaired) new)
    (λ ending. (fault : RepairFault) × (ending ≡ ending_of fault) × RepairsFound opened found (Err fault) new)
    → MatchResult result (λ whole. OpensAndRepairs old (Ok whole) new) (λ ending. IsUnready forced old ending new)
opened_then forced old opened found opens new (Ok repaired) repairs =
    record { found = found; opened = opened; opens = opens; repairs = repairs }
opened_then forced old opened found opens new (Err ending) repairs =
    Unrepaired repairs.0 repairs.1 (record { found = found; opened = opened; opens = opens; repairs = repairs.2 })

-- a session that ended before its lines
pub ended : {S : Type 0} {forced : Bool} {session : Session} {names : List Word} {state : S → State} {from to : SourceState}
    {ids ids_after : ℕ → List ℕ}
    {old : State} {status : ℕ} {before : Option (List ℕ)} {faults_before : ℕ} {after : Option (List ℕ)} {faults_after : ℕ} {back : S}
    (entered : Entered) (ending : Ending) (shelf : S) → IsEndedBefore forced session from to ids ids_after old (state shelf) ending
    → IsTold old
    → IsTold (state shelf) → back ≡ shelf → IsNothing entered
    → SessionEnds names (EndedBefore ending) status before faults_before after faults_after
    → RunsSession forced session names state from to ids ids_after old status before faults_before after faults_after entered.journal.items
    entered.answers.items back
ended {S} {forced} {session} {names} {state} {from} {to} {ids} {ids_after} {old} entered ending shelf why old_told told same nothing ends =
    record {
      outcome = EndedBefore ending;
      cause = (
        subst (λ (s : S). IsEndedBefore forced session from to ids ids_after old (state s) ending) (sym same) why,
        nothing.0,
        nothing.1,
        subst (λ (s : S). (now : ℕ) → KeepsPromise names now old [] [] (state s)) (sym same)
            (promised_unbegun names old (state shelf) old_told told why),
      );
      ends = ends;
    }
