use Rattle.std.proofs.Common.{◌∙◌, ℕ, length, refl, sym, ap, subst, arith}
use Rattle.lvm_run.specs.Disks.{AreDisks}
use Rattle.lvm_run.specs.InUse.{LeavesInUse}
use Rattle.lvm_run.specs.Sessions.{NoLines, Ran, Unbegun, Unbuilt, Unready}
use Rattle.lvm_run.specs.Sourced.{source}
use Rattle.lvm_run.specs.declared.ending.Ending.TheVariants.{NoMemory, WordsRefused}
use Rattle.lvm_run.proofs.LeftInUse.{left_free_all, left_same}
use Rattle.lvm_run.proofs.Promised.{told_of}
use Rattle.lvm_run.proofs.SessionCauses.{ended}
use Rattle.lvm_run.proofs.SessionHistory.{session_history}
use Rattle.lvm_run.proofs.session.run_session.Goals as goal

pub returns-then-not-is_built_session-clause-runs : goal.returns-then-not-is_built_session-clause-runs
returns-then-not-is_built_session-clause-runs g c =
    let e = c.end_before.ensures in
    let from = source (g.R.Source.left c.args.script.now) (g.R.Source.fault_count c.args.script.now) in
    ended {from = from} {to = from} c.end_before.result.entered WordsRefused c.args.shelf
    (Unbuilt (record {
      unbuilt = sym c.is_built_session.ensures ∙ c.if-not-is_built_session.true;
      refused = refl;
      unread = refl;
      undrawn = refl;
      nothing = refl;
    }))
    (told_of (g.S.Shelf.state c.args.shelf) (g.met.S.Shelf.lawful c.args.shelf))
    (told_of (g.S.Shelf.state c.args.shelf) (g.met.S.Shelf.lawful c.args.shelf))
    e.shelf e.nothing e.ends

pub returns-in-Err-clause-runs : goal.returns-in-Err-clause-runs
returns-in-Err-clause-runs g c =
    let e = c.end_before-in-Err.ensures in
    let from = source (g.R.Source.left c.args.script.now) (g.R.Source.fault_count c.args.script.now) in
    let to = source (g.R.Source.left c.read_lines.new.script) (g.R.Source.fault_count c.read_lines.new.script) in
    ended {from = from} {to = to} c.end_before-in-Err.result.entered c.in-Err.ending c.args.shelf
    (NoLines (sym c.is_built_session.ensures ∙ c.if-not-is_built_session.false) c.in-Err.ensures.read refl)
    (told_of (g.S.Shelf.state c.args.shelf) (g.met.S.Shelf.lawful c.args.shelf))
    (told_of (g.S.Shelf.state c.args.shelf) (g.met.S.Shelf.lawful c.args.shelf))
    e.shelf e.nothing e.ends

pub open_whole-requires-clause-disks : goal.open_whole-requires-clause-disks
open_whole-requires-clause-disks g c =
    subst (λ (n : ℕ). AreDisks n (g.S.Shelf.state c.args.shelf)) (sym c.requires.disks.many) c.requires.disks

pub open_whole-requires-clause-some : goal.open_whole-requires-clause-some
open_whole-requires-clause-some g c = omega (arith, c.requires.disks.many, c.requires.some)

pub open_whole-requires-clause-few : goal.open_whole-requires-clause-few
open_whole-requires-clause-few g c = omega (arith, c.requires.disks.many, c.requires.few)

pub returns-in-Err-open_whole-clause-runs : goal.returns-in-Err-open_whole-clause-runs
returns-in-Err-open_whole-clause-runs g c =
    let e = c.end_before-in-Err-open_whole.ensures in
    let from = source (g.R.Source.left c.args.script.now) (g.R.Source.fault_count c.args.script.now) in
    let to = source (g.R.Source.left c.read_lines.new.script) (g.R.Source.fault_count c.read_lines.new.script) in
    ended {from = from} {to = to} c.end_before-in-Err-open_whole.result.entered c.in-Err-open_whole.ending c.open_whole.new.shelf
    (Unready (sym c.is_built_session.ensures ∙ c.if-not-is_built_session.false) c.in-Ok.lines.items c.in-Ok.ensures.read
    c.in-Err-open_whole.ensures.ready)
    (told_of (g.S.Shelf.state c.args.shelf) (g.met.S.Shelf.lawful c.args.shelf))
    (told_of (g.S.Shelf.state c.open_whole.new.shelf) (g.met.S.Shelf.lawful c.open_whole.new.shelf)) e.shelf e.nothing e.ends

pub run_lines-requires-clause-few : goal.run_lines-requires-clause-few
run_lines-requires-clause-few g c =
    omega (arith, ap length c.open_whole.ensures.again.sizes, c.requires.disks.many, c.requires.few)

pub returns-in-Ok-run_lines-clause-runs : goal.returns-in-Ok-run_lines-clause-runs
returns-in-Ok-run_lines-clause-runs g c =
    let e = c.end_lines.ensures in
    let ran = c.in-Ok-run_lines.ran in
    let state = g.S.Shelf.state in
    record {
      outcome = Ran ran.answers.items ran.unbegun.items;
      cause = record {
        built = sym c.is_built_session.ensures ∙ c.if-not-is_built_session.false;
        lines = c.in-Ok.lines.items;
        reads = c.in-Ok.ensures.read;
        repaired = c.in-Ok-open_whole.whole;
        ready = c.open_whole.new.shelf;
        opened = c.in-Ok-open_whole.ensures.ready;
        ran = ran;
        runs = c.in-Ok-run_lines.ensures;
        promise =
            session_history c.repair_scans.ensures.at_the_end c.parts_make_consistent.ensures c.args.names.now state (state c.args.shelf)
            (told_of (state c.args.shelf) (g.met.S.Shelf.lawful c.args.shelf)) c.in-Ok-open_whole.whole c.in-Ok-open_whole.ensures.shape
            c.in-Ok-open_whole.ensures.whole c.open_whole.new.shelf
            (told_of (state c.open_whole.new.shelf) (g.met.S.Shelf.lawful c.open_whole.new.shelf)) c.in-Ok-open_whole.ensures.ready
            c.in-Ok.lines.items ran c.in-Ok-run_lines.ensures;
        begun_is = refl;
        unbegun_is = refl;
        journal_is = e.journal;
        answers_is = e.answers;
        shelf_is = e.shelf;
      };
      ends = e.ends;
    }

pub returns-in-Err-run_lines-clause-runs : goal.returns-in-Err-run_lines-clause-runs
returns-in-Err-run_lines-clause-runs g c =
    let e = c.end_before-in-Err-run_lines.ensures in
    let from = source (g.R.Source.left c.args.script.now) (g.R.Source.fault_count c.args.script.now) in
    let to = source (g.R.Source.left c.read_lines.new.script) (g.R.Source.fault_count c.read_lines.new.script) in
    ended {from = from} {to = to} c.end_before-in-Err-run_lines.result.entered NoMemory c.open_whole.new.shelf
    (Unbegun (sym c.is_built_session.ensures ∙ c.if-not-is_built_session.false) c.in-Ok.lines.items c.in-Ok.ensures.read
    (record { wanting = refl; repaired = c.in-Ok-open_whole.whole; ready = c.in-Ok-open_whole.ensures.ready }))
    (told_of (g.S.Shelf.state c.args.shelf) (g.met.S.Shelf.lawful c.args.shelf))
    (told_of (g.S.Shelf.state c.open_whole.new.shelf) (g.met.S.Shelf.lawful c.open_whole.new.shelf))
    (e.shelf ∙ c.in-Err-run_lines.ensures) e.nothing e.ends

pub returns-then-not-is_built_session-clause-kept : goal.returns-then-not-is_built_session-clause-kept
returns-then-not-is_built_session-clause-kept g c = λ unforced.
    let old = g.S.Shelf.state c.args.shelf in
    subst (λ (s : g.row.S.Denot). LeavesInUse old (g.S.Shelf.state s)) (sym c.end_before.ensures.shelf) (left_same old)

pub returns-in-Err-clause-kept : goal.returns-in-Err-clause-kept
returns-in-Err-clause-kept g c = λ unforced.
    let old = g.S.Shelf.state c.args.shelf in
    subst (λ (s : g.row.S.Denot). LeavesInUse old (g.S.Shelf.state s)) (sym c.end_before-in-Err.ensures.shelf) (left_same old)

pub returns-in-Err-open_whole-clause-kept : goal.returns-in-Err-open_whole-clause-kept
returns-in-Err-open_whole-clause-kept g c = λ unforced.
    subst (λ (s : g.row.S.Denot). LeavesInUse (g.S.Shelf.state c.args.shelf) (g.S.Shelf.state s))
    (sym c.end_before-in-Err-open_whole.ensures.shelf)
    (c.in-Err-open_whole.ensures.kept unforced)

pub returns-in-Ok-run_lines-clause-kept : goal.returns-in-Ok-run_lines-clause-kept
returns-in-Ok-run_lines-clause-kept g c = λ unforced.
    left_free_all (g.S.Shelf.state c.args.shelf) (g.S.Shelf.state c.end_lines.result.shelf) (c.in-Ok-open_whole.ensures.free unforced)

pub returns-in-Err-run_lines-clause-kept : goal.returns-in-Err-run_lines-clause-kept
returns-in-Err-run_lines-clause-kept g c = λ unforced.
    left_free_all (g.S.Shelf.state c.args.shelf) (g.S.Shelf.state c.end_before-in-Err-run_lines.result.shelf)
    (c.in-Ok-open_whole.ensures.free unforced)
