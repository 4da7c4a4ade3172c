-- A run does what its words ask for, unless memory is wanting or they have no meaning.
use Rattle.std.proofs.Common.{◌≡◌, ◌∙◌, ℕ, List, [], Some, None, is_some, refl, sym, ap, subst, inl, true≢false}
use Rattle.std.proofs.lemmas.Option.{same_Some}
use Rattle.command_table.specs.Options.{Word}
use Rattle.command_table.specs.declared.request.Request.{Request}
use Rattle.command_table.specs.declared.request.Request.TheVariants as request
use Rattle.lvm_script.specs.Lines.{TakesId}
use Rattle.lvm_words.specs.CommandLines.{command_line_of, draws_id, request_in, task_of}
use Rattle.lvm_words.specs.declared.asked.Task.{Task}
use Rattle.lvm_words.specs.declared.command_line.CommandLine.{CommandLine}
use Rattle.disk_model.specs.State.{State}
use Rattle.lvm_run.specs.Disks.{HasDisks}
use Rattle.lvm_run.specs.History.{IsEntered, journal_by, lines_of_task, lines_of_words}
use Rattle.lvm_run.specs.Runs.{IsRefusedUnread, RunsRequest, RunsTask, RunsWords, ended_by, names_of}
use Rattle.lvm_run.specs.Sourced.{SourceState}
use Rattle.lvm_run.specs.declared.ending.Ending.TheVariants.{NoMemory, WordsRefused}
use Rattle.lvm_run.specs.declared.outcome.Outcome.{Outcome}
use Rattle.lvm_run.specs.declared.outcome.Outcome.TheVariants.{Ended}
use Rattle.lvm_run.specs.declared.timed_outcome.TimedOutcome.{TimedOutcome}
use Rattle.lvm_run.proofs.AskedLines.{kept_asked, kept_ended, none_asked}
use Rattle.lvm_run.proofs.Promised.{IsTold}
use Rattle.lvm_run.proofs.Undone.{undone_words}

-- what is refused, before anything was done
pub refused_alone : (from : SourceState) (state : State) → IsRefusedUnread from from state (Ended WordsRefused) state
refused_alone from state = record { refused = (inl refl, refl); unread = refl }

-- the task of a request does what is asked for
as_request : (names : List Word) (asked : Request) (ids : ℕ → List ℕ) (now : ℕ) (text : List ℕ) (from to : SourceState) (old : State)
    (outcome : Outcome) (new : State)
    → RunsTask names (task_of asked ids) now text from to old outcome new → RunsRequest names asked ids now text from to old outcome new
as_request names (request.One command) ids now text from to old outcome new runs = runs
as_request names (request.Session session) ids now text from to old outcome new runs = runs
as_request names (request.Demo seed lines workers) ids now text from to old outcome new runs = runs

module _ (words : List Word) (now : ℕ) (ids : ℕ → List ℕ) (old : State) where
  -- what a run of the words did, and that it keeps the promise
  abbrev Runs : SourceState → SourceState → TimedOutcome → (ℕ → List ℕ) → State → Type 0
  Runs from to ran after new =
      (text : List ℕ) × RunsWords words now text from to ids old ran.outcome after new
      × IsEntered (names_of words) now old (journal_by ran.begun ran.took new.steps ran.outcome) (lines_of_words words text ids ran.outcome)
      new

  -- memory was wanting
  pub wanting : HasDisks words old → IsTold old → (from : SourceState) (ran : TimedOutcome) → ran ≡ ended_by NoMemory → (after : ℕ → List ℕ)
      → after ≡ ids → Runs from from ran after old
  wanting disks told from ran is after undrawn = (
    [],
    subst (λ (drawn : ℕ → List ℕ). RunsWords words now [] from from ids old ran.outcome drawn old) (sym undrawn)
        (subst (λ (r : TimedOutcome). RunsWords words now [] from from ids old r.outcome ids old) (sym is)
        (undone_words words now [] from ids old disks)),
    kept_ended (names_of words) now old told ran NoMemory is (λ outcome. lines_of_words words [] ids outcome)
        (none_asked words [] ids NoMemory),
  )

  -- they have no meaning
  pub unmeant : command_line_of words ≡ None → IsTold old → (from : SourceState) (ran : TimedOutcome) → ran ≡ ended_by WordsRefused
      → (after : ℕ → List ℕ) → after ≡ ids → Runs from from ran after old
  unmeant none told from ran is after undrawn = (
    [],
    record {
      refused = λ also. (record { refused = (inl (ap (λ (r : TimedOutcome). r.outcome) is), refl); unread = refl }, undrawn);
      lines = λ line meant. absurd (true≢false (ap is_some (sym meant ∙ none)));
      drawn = λ line meant. absurd (true≢false (ap is_some (sym meant ∙ none)));
    },
    kept_ended (names_of words) now old told ran WordsRefused is (λ outcome. lines_of_words words [] ids outcome)
        (none_asked words [] ids WordsRefused),
  )

  -- what they ask for was done as a task
  module _ (line : CommandLine) (task : Task) (meant : command_line_of words ≡ Some line) (asked : line.request ≡ request_in task)
      (is : task ≡ task_of (request_in task) ids) where
    pub done : (from to : SourceState) (ran : TimedOutcome) (after : ℕ → List ℕ) (new : State)
        → TakesId (draws_id (request_in task)) ids after
        → ((text : List ℕ) × RunsTask line.names task now text from to old ran.outcome new
        × IsEntered line.names now old (journal_by ran.begun ran.took new.steps ran.outcome) (lines_of_task task text ran.outcome) new)
        → Runs from to ran after new
    done from to ran after new takes runs =
        let by_line : RunsRequest line.names line.request ids now runs.0 from to old ran.outcome new =
        subst (λ (r : Request). RunsRequest line.names r ids now runs.0 from to old ran.outcome new) (sym asked)
        (as_request line.names (request_in task) ids now runs.0 from to old ran.outcome new
        (subst (λ (t : Task). RunsTask line.names t now runs.0 from to old ran.outcome new) is runs.1))
        in (
          runs.0,
          record {
            refused = λ none. absurd (true≢false (ap is_some (sym meant ∙ none)));
            lines =
                λ own also. subst (λ (l : CommandLine). RunsRequest l.names l.request ids now runs.0 from to old ran.outcome new)
                (same_Some line own (sym meant ∙ also)) by_line;
            drawn = λ own also.
                inl (subst (λ (l : CommandLine). TakesId (draws_id l.request) ids after) (same_Some line own (sym meant ∙ also))
                (subst (λ (r : Request). TakesId (draws_id r) ids after) (sym asked) takes));
          },
          kept_asked words line task now runs.0 ids old ran.outcome (journal_by ran.begun ran.took new.steps ran.outcome) new meant asked is
              runs.2,
        )
