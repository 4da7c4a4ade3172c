-- A run for whose words memory was wanting.
use Rattle.std.proofs.Common.{◌≡◌, ◌∙◌, ℕ, Bool, true, List, [], Option, Some, None, refl, sym, ap, subst, true≢false}
use Rattle.std.proofs.lemmas.List.{append-nil}
use Rattle.byte_streams.specs.Streams.{with_more}
use Rattle.command_table.specs.Options.{Word}
use Rattle.line_answers.specs.declared.answer.Answer.{Answer}
use Rattle.line_table.specs.declared.journal.JournalEntry.{JournalEntry}
use Rattle.disk_model.specs.State.{State}
use Rattle.lvm_run.specs.Disks.{HasDisks}
use Rattle.lvm_run.specs.History.{HasEntered, IsEntered, Said, answers_of, lines_of_words}
use Rattle.lvm_run.specs.Runs.{names_of}
use Rattle.lvm_run.specs.Sessions.{EndedBefore, ProgramRuns, Unknown, asks_session, session_of}
use Rattle.lvm_run.specs.Sourced.{SourceState}
use Rattle.lvm_run.specs.declared.ending.Ending.TheVariants.{NoMemory}
use Rattle.lvm_run.specs.declared.outcome.Outcome.TheVariants.{Ended}
use Rattle.lvm_run.proofs.AskedLines.{none_asked}
use Rattle.lvm_run.proofs.Promised.{IsTold, kept_undone}
use Rattle.lvm_run.proofs.SessionWords.{by_test, some_session}
use Rattle.lvm_run.proofs.Undone.{undone_words}

-- nothing is written
with_nothing : (written : Option (List ℕ)) → written ≡ with_more written []
with_nothing None = refl
with_nothing (Some bytes) = ap (λ (b : List ℕ). Some b) (sym (append-nil bytes))

-- and nothing entered
entered_nothing : (words : List Word) (now : ℕ) (ids : ℕ → List ℕ) (old : State) → IsTold old → (journal : List JournalEntry)
    (answers : List (ℕ × Option Answer)) → journal ≡ [] → answers ≡ []
    → HasEntered words now [] ids old (Ended NoMemory) journal answers old
entered_nothing words now ids old told journal answers none_entered none_answered =
    let none = none_asked words [] ids NoMemory in
    record {
      answers_is = none_answered ∙ sym (ap answers_of none);
      printed = λ is. absurd (true≢false (sym is));
      entered = subst
          (λ (j : List JournalEntry). IsEntered (names_of words) now old j (lines_of_words words [] ids (Ended NoMemory)) old)
          (sym none_entered)
          (subst (λ (lines : List Said). IsEntered (names_of words) now old [] lines old) (sym none)
          (kept_undone (names_of words) now old told));
    }

-- such a run
pub unread : {S : Type 0} (forced : Bool) (state : S → State) (words : List Word) (now : ℕ) (from : SourceState) (ids : ℕ → List ℕ)
    (written : Option (List ℕ)) (faults : ℕ) (shelf : S) → IsTold (state shelf) → HasDisks words (state shelf)
    → (journal : List JournalEntry) (answers : List (ℕ × Option Answer)) → journal ≡ [] → answers ≡ []
    → ProgramRuns forced words now state from from ids ids (state shelf) 2 written faults written faults journal answers shelf
unread forced state words now from ids written faults shelf told disks journal answers none_entered none_answered =
    by_test (asks_session words)
    (λ asks. let asked = some_session (session_of words) asks in record {
      session = asked.0;
      asked = asked.1;
      runs = record {
        outcome = EndedBefore NoMemory;
        cause = (
          Unknown (record { wanting = refl; unread = refl; undrawn = refl; nothing = refl }),
          none_entered,
          none_answered,
          λ at. (kept_undone (names_of words) at (state shelf) told).promise,
        );
        ends = (true, refl, (with_nothing written, refl));
      };
    })
    (λ other. (
      Ended NoMemory,
      [],
      undone_words words now [] from ids (state shelf) disks,
      (true, refl, (with_nothing written, refl)),
      entered_nothing words now ids (state shelf) told journal answers none_entered none_answered,
    ))
