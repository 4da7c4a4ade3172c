-- What a run does whose words ask for a session: the lines of a script, run on the volumes of what the disks hold.
use Rattle.std.specs.Prelude.{◌≡◌, ℕ, Bool, true, false, not, ◌==◌, ◌&&◌, ◌||◌, nat_le, if◌then◌else◌, is_some, List, [], ◌++◌}
use Rattle.std.specs.Prelude.{Option, Some, None, Result, Ok, Err, MatchResult}
use Rattle.std.specs.Bool.{MatchBool}
use Rattle.std.specs.Option.{option_and_then}
use Rattle.byte_streams.specs.Streams.{WritesText}
use Rattle.byte_streams.specs.declared.source_text.ReadFault.{ReadFault}
use Rattle.byte_streams.specs.declared.source_text.ReadFault.TheVariants as read_fault
use Rattle.command_table.specs.declared.command.Command.{Command}
use Rattle.command_table.specs.declared.request.Request.{Request}
use Rattle.command_table.specs.declared.request.Request.TheVariants as request
use Rattle.command_table.specs.declared.request.Session.{Session}
use Rattle.command_table.specs.Options.{Word}
use Rattle.line_answers.specs.declared.answer.Answer.{Answer}
use Rattle.lvm_script.specs.declared.line.Line.{Line}
use Rattle.lvm_script.specs.declared.script_refusal.ScriptRefusal.{ScriptRefusal}
use Rattle.lvm_script.specs.declared.script_refusal.ScriptRefusal.TheVariants as script
use Rattle.lvm_script.specs.Script.{AreLines}
use Rattle.lvm_words.specs.declared.command_line.CommandLine.{CommandLine}
use Rattle.lvm_words.specs.CommandLines.{command_line_of}
use Rattle.disk_model.specs.Idle.{IsIdleAgain}
use Rattle.disk_model.specs.Since.{BetweenRecords}
use Rattle.disk_model.specs.State.{State}
use Rattle.line_table.specs.declared.journal.JournalEntry.{JournalEntry}
use Rattle.lvm_report.specs.AnswerLines.{answers_text}
use Rattle.vg_found.specs.declared.found.Found.{Found}
use Rattle.disk_use.specs.Unlisted.{IsUnlisted}
use Rattle.vg_repair.specs.Batches.{repair_batches}
use Rattle.vg_repair.specs.Laws.{KeepsImages as RepairKeepsImages, StraysAreOthers}
use Rattle.vg_repair.specs.Repairing.{HasBegun as HasRepairBegun, IsFault as IsRepairFault, IsRepaired, Repairs}
use Rattle.vg_repair.specs.declared.fault.RepairFault.{RepairFault}
use Rattle.session_run.specs.Running.{RunsLines, said_in}
use Rattle.session_run.specs.SessionScript.{session_commands}
use Rattle.session_run.specs.Status.{status_of_lines}
use Rattle.session_run.specs.declared.running.RanLines.{RanLines}
use Rattle.lvm_run.specs.declared.ending.Ending.{Ending}
use Rattle.lvm_run.specs.declared.ending.Ending.TheVariants.{DiskInUse, NoMemory, ScriptRefused, ScriptTooLong, SourceFailed}
use Rattle.lvm_run.specs.declared.ending.Ending.TheVariants.{WordsRefused}
use Rattle.lvm_run.specs.declared.outcome.Outcome.{Outcome}
use Rattle.lvm_run.specs.Changing.{ending_of}
use Rattle.lvm_run.specs.Endings.{ending_text, status_of_ending}
use Rattle.lvm_run.specs.History.{HasEntered, KeepsLines, KeepsPromise}
use Rattle.lvm_run.specs.Outcomes.{Ends}
use Rattle.lvm_run.specs.Runs.{RunsWords, names_of}
use Rattle.lvm_run.specs.Scan.{IsOpenCause, IsOpened, OpensDisks}
use Rattle.lvm_run.specs.Sourced.{GivesText, IsUnread, SourceState}

-- ---- what the words ask for

-- the session of a request, and of words
abbrev pub session_in : Request → Option Session
session_in (request.Session session) = Some session
session_in _ = None

abbrev pub session_of : List Word → Option Session
session_of words = option_and_then (λ (line : CommandLine). session_in line.request) (command_line_of words)

-- whether they ask for one
abbrev pub asks_session : List Word → Bool
asks_session words = is_some (session_of words)

-- words ask for this session, on disks of these names
pub record AsksFor (words names : List Word) (session : Session) : Type 0 where
  pub line : CommandLine
  pub meant : command_line_of words ≡ Some line
  pub names_is : line.names ≡ names
  pub session_is : session_in line.request ≡ Some session

-- the sessions that are built: of one worker, without threads for the disks, and of which nothing is shown while they run
abbrev pub is_built_session : Session → Bool
is_built_session session = session.workers == 1 && (not session.disk_threads && not session.status)

-- ---- what a session comes to

pub data SessionOutcome : Type 0 where
  -- it ended before its lines
  EndedBefore : Ending → SessionOutcome
  -- its lines ran: those that were begun have these answers, and the others these
  Ran : List (ℕ × Option Answer) → List (ℕ × Option Answer) → SessionOutcome

-- what is printed
abbrev pub session_text : List Word → SessionOutcome → List ℕ
session_text names (EndedBefore ending) = ending_text names ending
session_text names (Ran answers unbegun) = answers_text names (answers ++ unbegun)

-- the exit status, where it was printed whole
abbrev pub session_status : SessionOutcome → ℕ
session_status (EndedBefore ending) = status_of_ending ending
session_status (Ran answers unbegun) = status_of_lines (answers ++ unbegun)

-- the first of two statuses of lines
abbrev pub first_status : ℕ → ℕ → ℕ
first_status one other =
    if one == 2 || other == 2 then 2 else if one == 6 || other == 6 then 6 else if one == 5 || other == 5 then 5 else 0

-- by whether that was printed; where the sink failed 2 to 4, for want of memory, for words that are refused and for a source that failed,
-- come first
abbrev pub status_if : Bool → ℕ → ℕ
status_if true status = status
status_if false status = if nat_le 2 status && nat_le status 4 then status else 7

-- The output is written whole, without a fault of the sink, and the status is the outcome's; or the sink failed after a front of it.
abbrev pub SessionEnds : List Word → SessionOutcome → ℕ → Option (List ℕ) → ℕ → Option (List ℕ) → ℕ → Type 0
SessionEnds names outcome status before faults_before after faults_after =
    (printed : Bool) × (status ≡ status_if printed (session_status outcome))
    × WritesText before faults_before (session_text names outcome) printed after faults_after

-- ---- what comes before its lines

-- the source gave a text of which these are the lines, and they drew their ids
pub record ReadsLines (from to : SourceState) (ids : ℕ → List ℕ) (lines : List Line) (ids_after : ℕ → List ℕ) : Type 0 where
  pub text : List ℕ
  pub gives : GivesText true text from to
  pub commands : List (ℕ × Command)
  pub meant : session_commands text ≡ Ok commands
  pub drawn : AreLines ids commands lines ids_after

-- how a session ends whose source gives no text, and whose script is refused
abbrev pub source_ending : ReadFault → Ending
source_ending read_fault.NoMemory = NoMemory
source_ending read_fault.Failed = SourceFailed
source_ending read_fault.ScriptTooLong = ScriptTooLong

abbrev pub script_ending : ScriptRefusal → Ending
script_ending script.NoMemory = NoMemory
script_ending (script.LineRefused line fault place) = ScriptRefused line fault place

-- why there are no lines: the source gave no text, or the script in it is refused
abbrev pub IsScriptCause : SourceState → SourceState → Ending → Type 0
IsScriptCause from to (ScriptRefused line fault place) =
    (text : List ℕ) × GivesText true text from to × (session_commands text ≡ Err (line, fault, place))
IsScriptCause from to ending = IsUnread true from ending to

-- there are none, and no number is drawn
pub record ReadsNoLines (from to : SourceState) (ids : ℕ → List ℕ) (ending : Ending) (ids_after : ℕ → List ℕ) : Type 0 where
  pub cause : IsScriptCause from to ending
  pub undrawn : ids_after ≡ ids

-- the disks were flushed and scanned, and this was found, which is whole
pub record Opens (old : State) (found : Found) (new : State) : Type 0 where
  pub again : IsIdleAgain old new
  pub cause : IsOpened old found new
  pub told : BetweenRecords (λ before after. OpensDisks old.sizes before true after) old.told new.told

-- they were flushed and scanned as far as that came, and this is why they aren't taken
pub record FailsToOpen (old : State) (ending : Ending) (new : State) : Type 0 where
  pub again : IsIdleAgain old new
  pub cause : IsOpenCause old new ending
  pub told : BetweenRecords (λ before after. OpensDisks old.sizes before false after) old.told new.told

-- what was found was repaired, with this result
pub record RepairsFound (old : State) (found : Found) (result : Result Found RepairFault) (new : State) : Type 0 where
  pub again : IsIdleAgain old new
  pub cause : MatchResult result (IsRepaired found old new) (IsRepairFault found old new)
  pub told : BetweenRecords (Repairs (repair_batches found) result) old.told new.told
  pub images : HasRepairBegun result → StraysAreOthers found → RepairKeepsImages found

-- both in turn
pub record OpensAndRepairs (old : State) (result : Result Found RepairFault) (new : State) : Type 0 where
  pub found : Found
  pub opened : State
  pub opens : Opens old found opened
  pub repairs : RepairsFound opened found result new

-- they were flushed and scanned, and this disk is used by a group that wasn't found
pub record FindsInUse (old : State) (ending : Ending) (new : State) : Type 0 where
  pub found : Found
  pub opens : Opens old found new
  pub pv : ℕ
  pub unlisted : IsUnlisted found pv
  pub ending_is : ending ≡ DiskInUse pv

-- the disks aren't ready for the lines, one in use only where the session isn't forced
pub data IsUnready (forced : Bool) (old : State) (ending : Ending) (new : State) : Type 0 where
  Unopened : FailsToOpen old ending new → IsUnready forced old ending new
  InUse : forced ≡ false → FindsInUse old ending new → IsUnready forced old ending new
  Unrepaired : (fault : RepairFault) → ending ≡ ending_of fault → OpensAndRepairs old (Err fault) new → IsUnready forced old ending new

-- ---- the causes

-- a session that isn't one of those that are built is refused, the source is left as it was, and nothing is done
pub record IsUnbuilt (session : Session) (from to : SourceState) (ids ids_after : ℕ → List ℕ) (old new : State) (ending : Ending) : Type 0
  where
    pub unbuilt : is_built_session session ≡ false
    pub refused : ending ≡ WordsRefused
    pub unread : to ≡ from
    pub undrawn : ids_after ≡ ids
    pub nothing : new ≡ old

-- memory was wanting for the words, and nothing is done
pub record IsUnknown (from to : SourceState) (ids ids_after : ℕ → List ℕ) (old new : State) (ending : Ending) : Type 0 where
  pub wanting : ending ≡ NoMemory
  pub unread : to ≡ from
  pub undrawn : ids_after ≡ ids
  pub nothing : new ≡ old

-- the disks are ready, and memory was wanting for what the first line wants
pub record IsUnbegun (old new : State) (ending : Ending) : Type 0 where
  pub wanting : ending ≡ NoMemory
  pub repaired : Found
  pub ready : OpensAndRepairs old (Ok repaired) new

-- why a session ended before its lines
pub data IsEndedBefore (forced : Bool) (session : Session) (from to : SourceState) (ids ids_after : ℕ → List ℕ) (old new : State)
    (ending : Ending) : Type 0
  where
    Unbuilt : IsUnbuilt session from to ids ids_after old new ending → IsEndedBefore forced session from to ids ids_after old new ending
    Unknown : IsUnknown from to ids ids_after old new ending → IsEndedBefore forced session from to ids ids_after old new ending
    -- nothing is done then
    NoLines : is_built_session session ≡ true → ReadsNoLines from to ids ending ids_after → new ≡ old
        → IsEndedBefore forced session from to ids ids_after old new ending
    Unready : is_built_session session ≡ true → (lines : List Line) → ReadsLines from to ids lines ids_after
        → IsUnready forced old ending new
        → IsEndedBefore forced session from to ids ids_after old new ending
    Unbegun : is_built_session session ≡ true → (lines : List Line) → ReadsLines from to ids lines ids_after → IsUnbegun old new ending
        → IsEndedBefore forced session from to ids ids_after old new ending

-- its lines were run, on what was found once that was repaired, and what they came to keeps the promise
pub record RunsScript {S : Type 0} (session : Session) (names : List Word) (state : S → State) (from to : SourceState)
    (ids ids_after : ℕ → List ℕ) (old : State) (begun unbegun : List (ℕ × Option Answer)) (journal : List JournalEntry)
    (answers : List (ℕ × Option Answer)) (shelf : S) : Type 0 where
  pub built : is_built_session session ≡ true
  pub lines : List Line
  pub reads : ReadsLines from to ids lines ids_after
  pub repaired : Found
  pub ready : S
  pub opened : OpensAndRepairs old (Ok repaired) (state ready)
  pub ran : RanLines S
  pub runs : RunsLines state repaired ready lines ran
  pub promise : KeepsLines names old ran.journal.items (said_in runs.run.world ran.answers.items) (state ran.shelf)
  pub begun_is : begun ≡ ran.answers.items
  pub unbegun_is : unbegun ≡ ran.unbegun.items
  pub journal_is : journal ≡ ran.journal.items
  pub answers_is : answers ≡ ran.answers.items
  pub shelf_is : shelf ≡ ran.shelf

-- the cause of each outcome; where it ended before its lines nothing is entered, and that keeps the promise at whatever time
abbrev pub IsSessionCause : {S : Type 0} → Bool → Session → List Word → (S → State) → SourceState → SourceState → (ℕ → List ℕ)
    → (ℕ → List ℕ)
    → State → SessionOutcome → List JournalEntry → List (ℕ × Option Answer) → S → Type 0
IsSessionCause forced session names state from to ids ids_after old (EndedBefore ending) journal answers shelf =
    IsEndedBefore forced session from to ids ids_after old (state shelf) ending × (journal ≡ []) × (answers ≡ [])
    × ((now : ℕ) → KeepsPromise names now old [] [] (state shelf))
IsSessionCause forced session names state from to ids ids_after old (Ran begun unbegun) journal answers shelf =
    RunsScript session names state from to ids ids_after old begun unbegun journal answers shelf

-- ---- runs

-- a session on disks of these names came to an outcome, which it printed, and these are its status, its journal and its answers, and
-- what is left of the shelf
pub record RunsSession {S : Type 0} (forced : Bool) (session : Session) (names : List Word) (state : S → State) (from to : SourceState)
    (ids ids_after : ℕ → List ℕ) (old : State) (status : ℕ) (before : Option (List ℕ)) (faults_before : ℕ) (after : Option (List ℕ))
    (faults_after : ℕ) (journal : List JournalEntry) (answers : List (ℕ × Option Answer)) (shelf : S) : Type 0 where
  pub outcome : SessionOutcome
  pub cause : IsSessionCause forced session names state from to ids ids_after old outcome journal answers shelf
  pub ends : SessionEnds names outcome status before faults_before after faults_after

-- the same of words that ask for one
pub record SessionRuns {S : Type 0} (forced : Bool) (words : List Word) (state : S → State) (from to : SourceState)
    (ids ids_after : ℕ → List ℕ)
    (old : State) (status : ℕ) (before : Option (List ℕ)) (faults_before : ℕ) (after : Option (List ℕ)) (faults_after : ℕ)
    (journal : List JournalEntry) (answers : List (ℕ × Option Answer)) (shelf : S) : Type 0 where
  pub session : Session
  pub asked : session_of words ≡ Some session
  pub runs : RunsSession forced session (names_of words) state from to ids ids_after old status before faults_before after faults_after
      journal
      answers shelf

-- Words that ask for none: the run comes to an outcome by what is said of them and of the text that the source gives, the output and
-- the status are the outcome's, unless the sink failed, the output of a line that answered is its answer's line, and the journal and
-- the answers keep the promise.
abbrev pub SingleRuns : List Word → ℕ → SourceState → SourceState → (ℕ → List ℕ) → (ℕ → List ℕ) → State → ℕ → Option (List ℕ) → ℕ
    → Option (List ℕ) → ℕ → List JournalEntry → List (ℕ × Option Answer) → State → Type 0
SingleRuns words now from to ids ids_after old status before faults_before after faults_after journal answers new =
    (outcome : Outcome) × (text : List ℕ)
    × RunsWords words now text from to ids old outcome ids_after new
    × Ends (names_of words) outcome status before faults_before after faults_after
    × HasEntered words now text ids old outcome journal answers new

-- a run of the program's words, at this time
abbrev pub ProgramRuns : {S : Type 0} → Bool → List Word → ℕ → (S → State) → SourceState → SourceState → (ℕ → List ℕ) → (ℕ → List ℕ) → State
    → ℕ
    → Option (List ℕ) → ℕ → Option (List ℕ) → ℕ → List JournalEntry → List (ℕ × Option Answer) → S → Type 0
ProgramRuns forced words now state from to ids ids_after old status before faults_before after faults_after journal answers shelf =
    MatchBool (asks_session words)
    (SessionRuns forced words state from to ids ids_after old status before faults_before after faults_after journal answers shelf)
    (SingleRuns words now from to ids ids_after old status before faults_before after faults_after journal answers (state shelf))
