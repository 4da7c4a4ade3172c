use Rattle.std.proofs.Common.{◌≡◌, ◌∙◌, false, true≢false, List, Option, None, Some, sym, subst}
use Rattle.std.specs.Prelude.{MatchOption}
use Rattle.std.specs.declared.string.String.{String}
use Rattle.command_table.specs.Options.{Word, words_of}
use Rattle.lvm_run.specs.InUse.{LeavesInUse}
use Rattle.lvm_run.specs.Sessions.{AsksFor, asks_session}
use Rattle.lvm_run.specs.Sourced.{source}
use Rattle.lvm_run.specs.declared.session_words.AskedSession.{AskedSession}
use Rattle.lvm_run.proofs.LeftInUse.{left_same}
use Rattle.lvm_run.proofs.SessionWords.{are_few, are_some, at_false, its_disks, session_ran}
use Rattle.lvm_run.proofs.run.lvm_run.Goals as goal

-- what words ask for
abbrev Asked : List Word → Option AskedSession → Type 0
Asked words found =
    MatchOption found (asks_session words ≡ false) (λ (asked : AskedSession). AsksFor words asked.names asked.session)

-- the same words ask for it
asked_by : {A : Type 0} (own words : List (String A)) → own ≡ words → (found found_is : Option AskedSession) → found ≡ found_is
    → Asked (words_of own) found → Asked (words_of words) found_is
asked_by {A} own words same found found_is is asked =
    subst (λ (o : Option AskedSession). Asked (words_of words) o) is
    (subst (λ (w : List (String A)). Asked (words_of w) found) same asked)

pub run_session-requires-clause-disks : goal.run_session-requires-clause-disks
run_session-requires-clause-disks g c =
    let own = c.in-Ok-Some.field-0-0 in
    its_disks (words_of c.args.words.now.items) own.names own.session
    (asked_by c.deref.result.now c.args.words.now.items c.deref.ensures.value c.in-Ok-Some.field-0 (Some own) c.in-Ok-Some.field-0-is
    c.in-Ok-Some.ensures) (g.S.Shelf.state c.args.shelf) c.requires.disks

pub run_session-requires-clause-some : goal.run_session-requires-clause-some
run_session-requires-clause-some g c =
    let own = c.in-Ok-Some.field-0-0 in
    are_some (words_of c.args.words.now.items) own.names own.session
    (asked_by c.deref.result.now c.args.words.now.items c.deref.ensures.value c.in-Ok-Some.field-0 (Some own) c.in-Ok-Some.field-0-is
    c.in-Ok-Some.ensures)

pub run_session-requires-clause-few : goal.run_session-requires-clause-few
run_session-requires-clause-few g c =
    let own = c.in-Ok-Some.field-0-0 in
    are_few (words_of c.args.words.now.items) own.names own.session
    (asked_by c.deref.result.now c.args.words.now.items c.deref.ensures.value c.in-Ok-Some.field-0 (Some own) c.in-Ok-Some.field-0-is
    c.in-Ok-Some.ensures)

pub returns-in-Ok-Some : goal.returns-in-Ok-Some
returns-in-Ok-Some g c =
    let own = c.in-Ok-Some.field-0-0 in
    let ended = c.run_session.result in
    record {
      run = session_ran (words_of c.args.words.now.items) own.names own.session
          (asked_by c.deref.result.now c.args.words.now.items c.deref.ensures.value c.in-Ok-Some.field-0 (Some own)
          c.in-Ok-Some.field-0-is c.in-Ok-Some.ensures)
          c.args.forced c.args.now g.S.Shelf.state (source (g.R.Source.left c.args.script.now) (g.R.Source.fault_count c.args.script.now))
          (source (g.R.Source.left c.run_session.new.script) (g.R.Source.fault_count c.run_session.new.script))
          (g.N.Words64.upcoming c.args.ids.now) (g.N.Words64.upcoming c.run_session.new.ids) (g.S.Shelf.state c.args.shelf)
          ended.status (g.W.Sink.written c.args.out.now) (g.W.Sink.fault_count c.args.out.now)
          (g.W.Sink.written c.run_session.new.out) (g.W.Sink.fault_count c.run_session.new.out)
          ended.entered.journal.items ended.entered.answers.items ended.shelf c.run_session.ensures.runs;
      kept = λ unforced asks. c.run_session.ensures.kept unforced;
    }

pub returns-in-Ok-None : goal.returns-in-Ok-None
returns-in-Ok-None g c =
    let words = words_of c.args.words.now.items in
    let none : asks_session words ≡ false =
    asked_by c.deref.result.now c.args.words.now.items c.deref.ensures.value c.in-Ok-None.field-0 None c.in-Ok-None.field-0-is
    c.in-Ok-None.ensures in
    record {
      run = at_false _ _ (asks_session words) none c.run_single.ensures.run;
      kept = λ unforced asks. absurd (true≢false (sym asks ∙ none));
    }

pub returns-in-Err : goal.returns-in-Err
returns-in-Err g c = record {
  run = c.end_unread.ensures.unread c.args.forced (words_of c.args.words.now.items) c.args.now
      (source (g.R.Source.left c.args.script.now) (g.R.Source.fault_count c.args.script.now)) (g.N.Words64.upcoming c.args.ids.now)
      (g.W.Sink.written c.args.out.now) (g.W.Sink.fault_count c.args.out.now) c.requires.disks;
  kept = λ unforced asks.
      let old = g.S.Shelf.state c.args.shelf in
      subst (λ (s : g.row.S.Denot). LeavesInUse old (g.S.Shelf.state s)) (sym c.end_unread.ensures.same) (left_same old);
}
