-- Words that ask for a session, and others.
use Rattle.std.proofs.Common.{◌≡◌, ◌≤◌, ◌∙◌, ℕ, Bool, true, false, is_some, List, [], length, Option, Some, None, refl, sym, ap, subst}
use Rattle.std.proofs.Common.{true≢false}
use Rattle.std.specs.Prelude.{MatchOption}
use Rattle.std.specs.Bool.{MatchBool}
use Rattle.std.specs.Option.{option_and_then, option_map_or}
use Rattle.command_table.specs.Options.{Word}
use Rattle.command_table.specs.declared.request.Session.{Session}
use Rattle.line_answers.specs.declared.answer.Answer.{Answer}
use Rattle.line_table.specs.declared.journal.JournalEntry.{JournalEntry}
use Rattle.lvm_words.specs.declared.command_line.CommandLine.{CommandLine}
use Rattle.lvm_words.specs.CommandLines.{command_line_of}
use Rattle.disk_model.specs.State.{State}
use Rattle.lvm_words.proofs.LineNames.{names_of_line}
use Rattle.lvm_run.specs.Disks.{AreDisks, HasDisks}
use Rattle.lvm_run.specs.Runs.{names_of}
use Rattle.lvm_run.specs.Sessions.{AsksFor, ProgramRuns, RunsSession, asks_session, session_in, session_of}
use Rattle.lvm_run.specs.Sourced.{SourceState}
use Rattle.lvm_run.specs.declared.session_words.AskedSession.{AskedSession}
use Rattle.lvm_run.proofs.EachNamed.{are_named}

-- one of two, by the test
pub by_test : {A B : Type 0} (test : Bool) → (test ≡ true → A) → (test ≡ false → B) → MatchBool test A B
by_test true a b = a refl
by_test false a b = b refl

pub at_false : (A B : Type 0) (test : Bool) → test ≡ false → B → MatchBool test A B
at_false A B true is b = absurd (true≢false is)
at_false A B false is b = b

at_true : (A B : Type 0) (test : Bool) → test ≡ true → A → MatchBool test A B
at_true A B true is a = a
at_true A B false is a = absurd (true≢false (sym is))

-- the session that is asked for, where one is
pub some_session : (asked : Option Session) → is_some asked ≡ true → (session : Session) × (asked ≡ Some session)
some_session None is = absurd (true≢false (sym is))
some_session (Some session) is = (session, refl)

-- words without a meaning ask for none
pub unmeant_asks : (words : List Word) → command_line_of words ≡ None → asks_session words ≡ false
unmeant_asks words none =
    ap (λ (o : Option CommandLine). is_some (option_and_then (λ (line : CommandLine). session_in line.request) o)) none

-- and none do that ask for something else
pub other_asks : (words : List Word) (line : CommandLine) → command_line_of words ≡ Some line → session_in line.request ≡ None
    → asks_session words ≡ false
other_asks words line meant other =
    ap (λ (o : Option CommandLine). is_some (option_and_then (λ (l : CommandLine). session_in l.request) o)) meant ∙ ap is_some other

-- the session of the command line, if it asks for one
pub by_line : (words : List Word) (line : CommandLine) → command_line_of words ≡ Some line → (found : Option AskedSession)
    → MatchOption found (session_in line.request ≡ None)
    (λ asked. (line.names ≡ asked.names) × (session_in line.request ≡ Some asked.session))
    → MatchOption found (asks_session words ≡ false) (λ asked. AsksFor words asked.names asked.session)
by_line words line meant None none = other_asks words line meant none
by_line words line meant (Some asked) is = record { line = line; meant = meant; names_is = is.0; session_is = is.1 }

module _ (words names : List Word) (session : Session) (asks : AsksFor words names session) where
  session_by : session_of words ≡ Some session
  session_by =
      ap (λ (o : Option CommandLine). option_and_then (λ (l : CommandLine). session_in l.request) o) asks.meant ∙ asks.session_is

  names_by : names ≡ names_of words
  names_by =
      sym asks.names_is ∙ sym (ap (λ (o : Option CommandLine). option_map_or (λ (l : CommandLine). l.names) o []) asks.meant)

  -- its disks are those of the words, 1 to 64
  pub its_disks : (state : State) → HasDisks words state → AreDisks (length names) state
  its_disks state disks =
      subst (λ (l : List Word). AreDisks (length l) state) asks.names_is
      (disks asks.line.names (names_of_line words asks.line asks.meant))

  pub are_some : 1 ≤ length names
  are_some = subst (λ (l : List Word). 1 ≤ length l) asks.names_is (are_named words asks.line asks.meant).some

  pub are_few : length names ≤ 64
  are_few = subst (λ (l : List Word). length l ≤ 64) asks.names_is (are_named words asks.line asks.meant).few

  -- what it did the words did
  pub session_ran : {S : Type 0} (forced : Bool) (now : ℕ) (state : S → State) (from to : SourceState) (ids ids_after : ℕ → List ℕ)
      (old : State)
      (status : ℕ) (before : Option (List ℕ)) (faults_before : ℕ) (after : Option (List ℕ)) (faults_after : ℕ)
      (journal : List JournalEntry) (answers : List (ℕ × Option Answer)) (shelf : S)
      → RunsSession forced session names state from to ids ids_after old status before faults_before after faults_after journal answers
      shelf
      → ProgramRuns forced words now state from to ids ids_after old status before faults_before after faults_after journal answers shelf
  session_ran forced now state from to ids ids_after old status before faults_before after faults_after journal answers shelf runs =
      at_true _ _ (asks_session words) (ap is_some session_by) (record {
        session = session;
        asked = session_by;
        runs = subst
            (λ (l : List Word). RunsSession forced session l state from to ids ids_after old status before faults_before after
            faults_after journal answers shelf) names_by runs;
      })
