use Rattle.std.proofs.Common.{◌≡◌, ℕ, List, Option, is_none, length, sym, ap, subst, ◌∙◌, arith}
use Rattle.line_answers.specs.declared.answer.Answer.{Answer}
use Rattle.line_table.specs.declared.journal.JournalEntry.{JournalEntry}
use Rattle.world_history.specs.Faults.{NameFaults}
use Rattle.world_history.specs.Ordered.{IsOrderedHistory}
use Rattle.world_history.proofs.Faults.Runs.{run_faults}
use Rattle.world_history.proofs.Runs.{run_ordered}
use Rattle.world_tracks.specs.Histories.{KeepsHistory}
use Rattle.session_run.specs.Running.{said_in}
use Rattle.session_run.proofs.Unbegun.{unbegun_fit}
use Rattle.session_run.proofs.running.run_lines.Goals as goal

-- what holds of a run's shelf, journal and answers holds of what is given back of it
given_back : {S : Type 0} (P : S → List JournalEntry → List (ℕ × Option Answer) → Type 0) {s t : S} {j k : List JournalEntry}
    {a b : List (ℕ × Option Answer)} → t ≡ s → k ≡ j → b ≡ a → P s j a → P t k b
given_back P {s} {t} {j} {k} {a} {b} shelf journal answers has =
    subst (λ x. P x k b) (sym shelf) (subst (λ x. P s x b) (sym journal) (subst (λ x. P s j x) (sym answers) has))

pub ran_of-requires-clause-room : goal.ran_of-requires-clause-room
ran_of-requires-clause-room g c =
    let run = c.run_alone.result in
    let fit = unbegun_fit _ run.refused run.rest.items c.args.lines.items c.run_alone.ensures.whole_script in
    omega (arith, fit, c.in-Ok.ensures.exact, c.len.ensures, c.args.lines.ok.0)

pub returns-in-Ok-open : goal.returns-in-Ok-open
returns-in-Ok-open g c =
    let state = g.S.Shelf.state in
    let start = c.in-Ok-open.world in
    let run = c.run_alone.result in
    let e = c.run_alone.ensures in
    let ran = c.ran_of.ensures in
    let opened = c.in-Ok-open.ensures.opened in
    let kept = c.in-Ok-open.ensures.kept in
    let cover = c.pieces_cover_requests.ensures.cover in
    let disks : ℕ = length (state c.args.shelf).sizes in
    record {
      start = start;
      run = run;
      over = opened.0;
      opened = opened.1;
      carried = record {
        continued = e.continued;
        whole_script = e.whole_script;
        all_begun = e.all_begun;
        longer = e.longer;
        none_in_flight = e.none_in_flight;
        none_due = e.none_due;
        all_answered = e.all_answered;
      };
      disks = ran.shelf;
      journal = ran.journal;
      answers = ran.answers;
      unbegun = ran.unbegun;
      history =
          given_back (λ s j a. IsOrderedHistory (state c.args.shelf).steps j (said_in run.world a)) ran.shelf ran.journal
          ran.answers
          (subst (λ s. IsOrderedHistory (state s).steps run.world.core.lines.journal
          (said_in run.world run.world.core.lines.answers)) opened.0
          (run_ordered state cover start c.args.lines.items c.requires.session c.args.whole disks (λ w line. is_none w.core.barrier)
          run.world run.wanted run.refused opened.1 kept e.continued));
      faults =
          given_back (λ s j a. NameFaults (state c.args.shelf) (state s) a) ran.shelf ran.journal ran.answers
          (subst (λ s. NameFaults (state s) (state run.world.shelf) run.world.core.lines.answers) opened.0
          (run_faults state cover start c.args.lines.items c.requires.session c.args.whole disks (λ w line. is_none w.core.barrier)
          run.world run.wanted run.refused opened.1 kept e.continued));
      consistent =
          given_back (λ s j a. KeepsHistory c.args.whole (state c.args.shelf) (state s) j (said_in run.world a)) ran.shelf
          ran.journal ran.answers
          (subst (λ s. KeepsHistory c.args.whole (state s) (state run.world.shelf) run.world.core.lines.journal
          (said_in run.world run.world.core.lines.answers)) opened.0
          (c.runs_keep_histories.ensures start c.args.lines.items c.requires.session c.args.whole disks
          (λ w line. is_none w.core.barrier) run.world run.wanted run.refused opened.1 kept
          (ap (λ s. (state s).in_flight) opened.0 ∙ c.requires.idle) e.continued));
    }
