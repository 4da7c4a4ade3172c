use Rattle.std.proofs.Common.{◌≡◌, ℕ, List, Option, sym, ap, subst, ◌∙◌}
use Rattle.std.specs.declared.string.String.{String}
use Rattle.byte_streams.specs.Streams.{WritesText}
use Rattle.command_table.specs.Options.{Word, words_of}
use Rattle.line_answers.specs.declared.answer.Answer.{Answer}
use Rattle.line_table.specs.declared.journal.JournalEntry.{JournalEntry}
use Rattle.lvm_report.specs.AnswerLines.{answers_text}
use Rattle.lvm_run.specs.declared.outcome.Outcome.{Outcome}
use Rattle.lvm_run.specs.History.{IsEntered, journal_by, lines_of_words}
use Rattle.lvm_run.specs.Outcomes.{Ends, output_of}
use Rattle.lvm_run.specs.Runs.{RunsWords, names_of}
use Rattle.lvm_run.specs.Sourced.{source}
use Rattle.lvm_run.proofs.AskedLines.{entered_answers, printed_answers, words_first}
use Rattle.lvm_run.proofs.run.run_single.Goals as goal

-- names that print alike
ends_alike : (a b : List Word) (outcome : Outcome) (status f0 f1 : ℕ) (b0 b1 : Option (List ℕ)) → output_of a outcome ≡ output_of b outcome
    → Ends a outcome status b0 f0 b1 f1 → Ends b outcome status b0 f0 b1 f1
ends_alike a b outcome status f0 f1 b0 b1 alike e = (e.0, e.1, subst (λ (t : List ℕ). WritesText b0 f0 t e.0 b1 f1) alike e.2)

pub finish-status-requires-clause-first : goal.finish-status-requires-clause-first
finish-status-requires-clause-first g c =
    let ran = c.run_words-ran.result.0 in
    let e = c.run_words-ran.ensures.run in
    let from = source (g.R.Source.left c.args.script.now) (g.R.Source.fault_count c.args.script.now) in
    let to = source (g.R.Source.left c.run_words-ran.new.script) (g.R.Source.fault_count c.run_words-ran.new.script) in
    words_first (words_of c.deref.result.now) c.args.now e.0 from to (g.N.Words64.upcoming c.args.ids.now) (g.S.Shelf.state c.args.shelf)
    ran.outcome (g.N.Words64.upcoming c.run_words-ran.new.ids) (g.S.Shelf.state c.run_words-ran.new.shelf) e.1

pub returns : goal.returns
returns g c =
    let ran = c.run_words-ran.result.0 in
    let e = c.run_words-ran.ensures.run in
    let s0 = g.S.Shelf.state c.args.shelf in
    let s1 = g.S.Shelf.state c.run_words-ran.new.shelf in
    let from = source (g.R.Source.left c.args.script.now) (g.R.Source.fault_count c.args.script.now) in
    let to = source (g.R.Source.left c.run_words-ran.new.script) (g.R.Source.fault_count c.run_words-ran.new.script) in
    let ids = g.N.Words64.upcoming c.args.ids.now in
    let after = g.N.Words64.upcoming c.run_words-ran.new.ids in
    let words = words_of c.args.words.now.items in
    let words_are = c.deref.ensures.value in
    let runs : RunsWords words c.args.now e.0 from to ids s0 ran.outcome after s1 =
    subst (λ (w : List (String _)). RunsWords (words_of w) c.args.now e.0 from to ids s0 ran.outcome after s1) words_are e.1 in
    let journal = c.finish-status.ensures.journal ∙ ap (λ (n : ℕ). journal_by ran.begun ran.took n ran.outcome) c.steps.ensures in
    record {
      run = (
        ran.outcome,
        e.0,
        runs,
        ends_alike c.run_words-ran.result.1 (names_of words) ran.outcome c.finish-status.result _ _ _ _
            (c.run_words-ran.ensures.output ∙ ap (λ (w : List (String _)). output_of (names_of (words_of w)) ran.outcome) words_are)
            c.finish-status.ensures.ends,
        record {
          printed = λ is.
              printed_answers (names_of words) ran.outcome (words_first words c.args.now e.0 from to ids s0 ran.outcome after s1 runs) is
              ∙ ap (λ (l : List (ℕ × Option Answer)). answers_text (names_of words) l) (sym c.finish-status.ensures.answers);
          answers_is =
              c.finish-status.ensures.answers ∙ sym (entered_answers words c.args.now e.0 from to ids s0 ran.outcome after s1 runs);
          entered =
              subst (λ (j : List JournalEntry). IsEntered (names_of words) c.args.now s0 j (lines_of_words words e.0 ids ran.outcome) s1)
              (sym {A = List JournalEntry} journal)
              (subst (λ (w : List (String _)). IsEntered (names_of (words_of w)) c.args.now s0
              (journal_by ran.begun ran.took s1.steps ran.outcome) (lines_of_words (words_of w) e.0 ids ran.outcome) s1) words_are e.2);
        },
      );
    }
