use Rattle.std.proofs.Common.{refl}
use Rattle.command_table.specs.Options.{words_of}
use Rattle.lvm_run.specs.Sourced.{source}
use Rattle.lvm_run.proofs.AskedTasks.{wanting}
use Rattle.lvm_run.proofs.Promised.{told_of}
use Rattle.lvm_run.proofs.run.run_words.Goals as goal

pub returns-in-Err-clause-run : goal.returns-in-Err-clause-run
returns-in-Err-clause-run g c =
    let s0 = g.S.Shelf.state c.args.shelf.now in
    let ids = g.N.Words64.upcoming c.args.ids.now in
    wanting (words_of c.args.words.now) c.args.now ids s0 c.requires.disks (told_of s0 (g.met.S.Shelf.lawful c.args.shelf.now))
    (source (g.R.Source.left c.args.script.now) (g.R.Source.fault_count c.args.script.now)) c.ended.result c.ended.ensures ids refl
