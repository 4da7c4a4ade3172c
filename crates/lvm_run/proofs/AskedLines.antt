-- What a run enters of the line that was asked for.
use Rattle.std.proofs.Common.{◌≡◌, ◌⊎◌, ℕ, Bool, true, false, List, [], ◌∷◌, ◌++◌, Option, Some, None, ⊎_elim, refl, sym, ap, subst, ◌∙◌}
use Rattle.std.proofs.lemmas.List.{append-nil}
use Rattle.std.specs.Prelude.{codes, decimal}
use Rattle.std.specs.Bool.{MatchBool}
use Rattle.std.specs.Option.{option_map_or}
use Rattle.command_table.specs.Options.{Word}
use Rattle.command_table.specs.declared.request.Request.{Request}
use Rattle.command_table.specs.declared.request.Request.TheVariants.{One, Session, Demo}
use Rattle.line_answers.specs.Answers.{answer_text}
use Rattle.line_answers.specs.declared.answer.Answer.{Answer}
use Rattle.line_answers.specs.declared.answer.Answer.TheVariants as answer
use Rattle.lvm_script.specs.Lines.{line_of, with_text}
use Rattle.lvm_script.specs.declared.line.Line.{Line}
use Rattle.lvm_words.specs.CommandLines.{command_line_of, request_in, task_of}
use Rattle.lvm_words.specs.declared.asked.Task.{Task}
use Rattle.lvm_words.specs.declared.command_line.CommandLine.{CommandLine}
use Rattle.disk_model.specs.State.{State}
use Rattle.line_table.specs.declared.journal.JournalEntry.{JournalEntry}
use Rattle.lvm_report.specs.AnswerLines.{answers_text}
use Rattle.lvm_run.specs.CommandSpec.{CommandSpec, Context, Inputs}
use Rattle.lvm_run.specs.Commands.{is_built, spec_of}
use Rattle.lvm_run.specs.History.{IsEntered, Said, answers_of, is_answer, journal_by, lines_asked, lines_of_task, lines_of_words, said_of}
use Rattle.lvm_run.specs.Meets.{IsCause}
use Rattle.lvm_run.specs.Outcomes.{IsOfLineOne, output_of}
use Rattle.lvm_run.specs.Runs.{EndsUnread, IsRefused, IsRefusedUnread, MeetsSourced, RunsLine, RunsRequest, RunsWords, context_with}
use Rattle.lvm_run.specs.Runs.{ended_by, names_of}
use Rattle.lvm_run.specs.Sourced.{SourceState}
use Rattle.lvm_run.specs.declared.ending.Ending.{Ending}
use Rattle.lvm_run.specs.declared.outcome.Outcome.{Outcome}
use Rattle.lvm_run.specs.declared.outcome.Outcome.TheVariants.{Ended, Answered, Reported}
use Rattle.lvm_run.specs.declared.timed_outcome.TimedOutcome.{TimedOutcome}
use Rattle.lvm_run.proofs.Promised.{IsTold, kept_undone}

-- what is asked for is what the task is
asked_by_task : (request : Request) (text : List ℕ) (ids : ℕ → List ℕ) (outcome : Outcome)
    → lines_of_task (task_of request ids) text outcome ≡ lines_asked request text ids outcome
asked_by_task (One command) text ids outcome = refl
asked_by_task (Session session) text ids outcome = refl
asked_by_task (Demo seed count workers) text ids outcome = refl

asked_by_words : (words : List Word) (line : CommandLine) (text : List ℕ) (ids : ℕ → List ℕ) (outcome : Outcome)
    → command_line_of words ≡ Some line → lines_of_words words text ids outcome ≡ lines_asked line.request text ids outcome
asked_by_words words line text ids outcome is =
    ap (λ (o : Option CommandLine). option_map_or (λ (l : CommandLine). lines_asked l.request text ids outcome) o []) is

-- the promise of a task, in the words that ask for it
pub kept_asked : (words : List Word) (line : CommandLine) (task : Task) (now : ℕ) (text : List ℕ) (ids : ℕ → List ℕ) (old : State)
    (outcome : Outcome) (journal : List JournalEntry) (new : State) → command_line_of words ≡ Some line
    → line.request ≡ request_in task → task ≡ task_of (request_in task) ids
    → IsEntered line.names now old journal (lines_of_task task text outcome) new
    → IsEntered (names_of words) now old journal (lines_of_words words text ids outcome) new
kept_asked words line task now text ids old outcome journal new is asked drawn kept =
    let lines : lines_of_words words text ids outcome ≡ lines_of_task task text outcome =
    asked_by_words words line text ids outcome is ∙ ap (λ (r : Request). lines_asked r text ids outcome) asked
    ∙ sym (asked_by_task (request_in task) text ids outcome) ∙ ap (λ (t : Task). lines_of_task t text outcome) (sym drawn)
    in
    let names : names_of words ≡ line.names = ap (λ (o : Option CommandLine). option_map_or (λ (l : CommandLine). l.names) o []) is in
    subst (λ (all : List Said). IsEntered (names_of words) now old journal all new) (sym lines)
    (subst (λ (ns : List Word). IsEntered ns now old journal (lines_of_task task text outcome) new) (sym names) kept)

-- where the run ended before its line, no line was begun
pub kept_ended : (names : List Word) (now : ℕ) (old : State) → IsTold old → (ran : TimedOutcome) (ending : Ending) → ran ≡ ended_by ending
    → (lines : Outcome → List Said) → lines (Ended ending) ≡ []
    → IsEntered names now old (journal_by ran.begun ran.took old.steps ran.outcome) (lines ran.outcome) old
kept_ended names now old told ran ending is lines none =
    subst (λ (r : TimedOutcome). IsEntered names now old (journal_by r.begun r.took old.steps r.outcome) (lines r.outcome) old) (sym is)
    (subst (λ (all : List Said). IsEntered names now old [] all old) (sym none) (kept_undone names now old told))

-- by the words that ask for it
pub none_asked : (words : List Word) (text : List ℕ) (ids : ℕ → List ℕ) (ending : Ending)
    → lines_of_words words text ids (Ended ending) ≡ []
none_asked words text ids ending = go (command_line_of words)
  where
    by : (request : Request) → lines_asked request text ids (Ended ending) ≡ []
    by (One command) = refl
    by (Session session) = refl
    by (Demo seed count workers) = refl

    go : (o : Option CommandLine) → option_map_or (λ (l : CommandLine). lines_asked l.request text ids (Ended ending)) o [] ≡ []
    go None = refl
    go (Some line) = by line.request

-- ---- the answers that are entered

-- of a line
answers_by : (line : Line) (o : Option Answer)
    → answers_of (option_map_or (λ (said : Answer). (line, Some said) ∷ []) o [])
    ≡ option_map_or (λ (said : Answer). (line.number, Some said) ∷ []) o []
answers_by line None = refl
answers_by line (Some said) = refl

-- of what is refused
refused_says : (old : State) (outcome : Outcome) (new : State) → IsRefused old outcome new → said_of outcome ≡ None
refused_says old outcome new refused = ⊎_elim (λ is. ap said_of is) (λ is. ap said_of is) refused.0

abbrev pub ByOutcome : Outcome → List (ℕ × Option Answer)
ByOutcome outcome = option_map_or (λ (said : Answer). (1, Some said) ∷ []) (said_of outcome) []

none_by : (outcome : Outcome) → said_of outcome ≡ None → [] ≡ ByOutcome outcome
none_by outcome none = ap (λ (o : Option Answer). option_map_or (λ (said : Answer). (1, Some said) ∷ []) o []) (sym none)

request_answers : (names : List Word) (request : Request) (ids : ℕ → List ℕ) (now : ℕ) (text : List ℕ) (from to : SourceState) (old : State)
    (outcome : Outcome) (new : State)
    → RunsRequest names request ids now text from to old outcome new → answers_of (lines_asked request text ids outcome) ≡ ByOutcome outcome
request_answers names (One command) ids now text from to old outcome new runs =
    answers_by (with_text text (line_of 1 command ids)) (said_of outcome)
request_answers names (Session session) ids now text from to old outcome new runs =
    none_by outcome (refused_says old outcome new runs.refused)
request_answers names (Demo seed count workers) ids now text from to old outcome new runs =
    none_by outcome (refused_says old outcome new runs.refused)

pub entered_answers : (words : List Word) (now : ℕ) (text : List ℕ) (from to : SourceState) (ids : ℕ → List ℕ) (old : State)
    (outcome : Outcome) (after : ℕ → List ℕ) (new : State)
    → RunsWords words now text from to ids old outcome after new → answers_of (lines_of_words words text ids outcome) ≡ ByOutcome outcome
entered_answers words now text from to ids old outcome after new runs = by (command_line_of words) refl
  where
    by : (o : Option CommandLine) → command_line_of words ≡ o
        → answers_of (option_map_or (λ (l : CommandLine). lines_asked l.request text ids outcome) o []) ≡ ByOutcome outcome
    by None is = none_by outcome (refused_says old outcome new (runs.refused is).0.refused)
    by (Some line) is = request_answers line.names line.request ids now text from to old outcome new (runs.lines line is)

-- ---- the outcome is that of line 1, and where a line has answered its answers are what is printed

cause_first : (spec : CommandSpec) (context : Context) (given : Inputs) (old new : State) (outcome : Outcome)
    → IsCause spec context given old new outcome → IsOfLineOne outcome
cause_first spec context given old new (Ended ending) cause = tt
cause_first spec context given old new (Answered n answer.Fine) cause = cause.0
cause_first spec context given old new (Answered n (answer.Refused refusal)) cause = cause.0
cause_first spec context given old new (Answered n (answer.PvFailed pv)) cause = cause.0
cause_first spec context given old new (Answered n answer.NoMemory) cause = cause.0
cause_first spec context given old new (Answered n _) cause = absurd cause
cause_first spec context given old new (Reported text whole) cause = tt

refused_first : (old : State) (outcome : Outcome) (new : State) → IsRefused old outcome new → IsOfLineOne outcome
refused_first old outcome new refused = ⊎_elim (λ is. subst IsOfLineOne (sym is) tt) (λ is. subst IsOfLineOne (sym is) tt) refused.0

line_first : (names : List Word) (line : Line) (now : ℕ) (text : List ℕ) (from to : SourceState) (old : State) (outcome : Outcome)
    (new : State) → RunsLine names line now text from to old outcome new → IsOfLineOne outcome
line_first names line now text from to old outcome new = by (is_built line.command)
  where
    by : (built : Bool)
        → MatchBool built (MeetsSourced names line now text from to old outcome new ⊎ EndsUnread line.command from to old outcome new)
        (IsRefusedUnread from to old outcome new) → IsOfLineOne outcome
    by true runs =
        ⊎_elim (λ m. cause_first (spec_of (with_text text line).command) (context_with names line.id now old) m.meets.given old new outcome
        m.meets.cause)
        (λ e. subst IsOfLineOne (sym e.is) tt) runs
    by false refused = refused_first old outcome new refused.refused

request_first : (names : List Word) (request : Request) (ids : ℕ → List ℕ) (now : ℕ) (text : List ℕ) (from to : SourceState) (old : State)
    (outcome : Outcome) (new : State)
    → RunsRequest names request ids now text from to old outcome new → IsOfLineOne outcome
request_first names (One command) ids now text from to old outcome new runs =
    line_first names (line_of 1 command ids) now text from to old outcome new runs
request_first names (Session session) ids now text from to old outcome new runs = refused_first old outcome new runs.refused
request_first names (Demo seed count workers) ids now text from to old outcome new runs = refused_first old outcome new runs.refused

pub words_first : (words : List Word) (now : ℕ) (text : List ℕ) (from to : SourceState) (ids : ℕ → List ℕ) (old : State) (outcome : Outcome)
    (after : ℕ → List ℕ) (new : State)
    → RunsWords words now text from to ids old outcome after new → IsOfLineOne outcome
words_first words now text from to ids old outcome after new runs = by (command_line_of words) refl
  where
    by : (o : Option CommandLine) → command_line_of words ≡ o → IsOfLineOne outcome
    by None is = refused_first old outcome new (runs.refused is).0.refused
    by (Some line) is = request_first line.names line.request ids now text from to old outcome new (runs.lines line is)

-- the text of one answer
one_text : (names : List Word) (number : ℕ) (said : Answer) → number ≡ 1
    → output_of names (Answered number said) ≡ answers_text names ((1, Some said) ∷ [])
one_text names number said first =
    ap (λ (n : ℕ). decimal n ++ codes ": " ++ answer_text names said ++ codes "\n") first
    ∙ sym (append-nil (decimal 1 ++ codes ": " ++ answer_text names said ++ codes "\n"))

pub printed_answers : (names : List Word) (outcome : Outcome) → IsOfLineOne outcome → is_answer outcome ≡ true
    → output_of names outcome ≡ answers_text names (ByOutcome outcome)
printed_answers names (Ended ending) first is = absurd cc
printed_answers names (Answered n answer.Fine) first is = one_text names n answer.Fine first
printed_answers names (Answered n (answer.Read sectors)) first is = one_text names n (answer.Read sectors) first
printed_answers names (Answered n (answer.Listed volumes)) first is = one_text names n (answer.Listed volumes) first
printed_answers names (Answered n (answer.Refused refusal)) first is = one_text names n (answer.Refused refusal) first
printed_answers names (Answered n (answer.ReadFailed pv)) first is = one_text names n (answer.ReadFailed pv) first
printed_answers names (Answered n (answer.PvFailed pv)) first is = one_text names n (answer.PvFailed pv) first
printed_answers names (Answered n (answer.Fenced pv)) first is = one_text names n (answer.Fenced pv) first
printed_answers names (Answered n (answer.Stopped pv)) first is = one_text names n (answer.Stopped pv) first
printed_answers names (Answered n answer.Aborted) first is = one_text names n answer.Aborted first
printed_answers names (Answered n answer.NoMemory) first is = absurd cc
printed_answers names (Reported text whole) first is = absurd cc
