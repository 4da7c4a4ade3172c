use Rattle.std.proofs.Common.{refl}
use Rattle.command_table.specs.Options.{words_of}
use Rattle.lvm_run.specs.Sourced.{source}
use Rattle.lvm_run.proofs.AskedTasks.{done, unmeant, wanting}
use Rattle.lvm_run.proofs.EachNamed.{are_named}
use Rattle.lvm_run.proofs.PlannedWords.{can_plan}
use Rattle.lvm_run.proofs.Promised.{told_of}
use Rattle.lvm_run.proofs.run.run_asked.Goals as goal

pub run_task-requires-clause-named : goal.run_task-requires-clause-named
run_task-requires-clause-named g c = are_named (words_of c.args.words.now) _ c.in-Ok.ensures.line

pub run_task-requires-clause-planned : goal.run_task-requires-clause-planned
run_task-requires-clause-planned g c =
    can_plan (words_of c.args.words.now) _ _ (g.N.Words64.upcoming c.args.ids.now) c.in-Ok.ensures.line refl c.in-Ok.ensures.task
    c.in-Ok.ensures.valid

pub returns-in-Ok-clause-run : goal.returns-in-Ok-clause-run
returns-in-Ok-clause-run g c =
    done (words_of c.args.words.now) c.args.now (g.N.Words64.upcoming c.args.ids.now) (g.S.Shelf.state c.args.shelf.now) _ _
    c.in-Ok.ensures.line refl c.in-Ok.ensures.task
    (source (g.R.Source.left c.args.script.now) (g.R.Source.fault_count c.args.script.now))
    (source (g.R.Source.left c.run_task.new.script) (g.R.Source.fault_count c.run_task.new.script))
    c.run_task.result (g.N.Words64.upcoming c.read_words.new.ids) (g.S.Shelf.state c.run_task.new.shelf) c.in-Ok.ensures.drawn
    c.run_task.ensures

pub returns-in-Err-NoMeaning-clause-run : goal.returns-in-Err-NoMeaning-clause-run
returns-in-Err-NoMeaning-clause-run g c =
    let s0 = g.S.Shelf.state c.args.shelf.now in
    let e = c.in-Err-NoMeaning.ensures in
    unmeant (words_of c.args.words.now) c.args.now (g.N.Words64.upcoming c.args.ids.now) s0
    (e.no_meaning (rw c.in-Err-NoMeaning.field-0-is refl)) (told_of s0 (g.met.S.Shelf.lawful c.args.shelf.now))
    (source (g.R.Source.left c.args.script.now) (g.R.Source.fault_count c.args.script.now))
    c.ended.result c.ended.ensures (g.N.Words64.upcoming c.read_words.new.ids) e.undrawn

pub returns-in-Err-NoMemory-clause-run : goal.returns-in-Err-NoMemory-clause-run
returns-in-Err-NoMemory-clause-run g c =
    let s0 = g.S.Shelf.state c.args.shelf.now in
    wanting (words_of c.args.words.now) c.args.now (g.N.Words64.upcoming c.args.ids.now) s0 c.requires.disks
    (told_of s0 (g.met.S.Shelf.lawful c.args.shelf.now))
    (source (g.R.Source.left c.args.script.now) (g.R.Source.fault_count c.args.script.now))
    c.ended-in-Err-NoMemory.result c.ended-in-Err-NoMemory.ensures (g.N.Words64.upcoming c.read_words.new.ids)
    c.in-Err-NoMemory.ensures.undrawn
