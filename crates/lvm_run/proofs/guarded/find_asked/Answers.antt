use Rattle.command_table.specs.Options.{words_of}
use Rattle.lvm_run.proofs.LookedFirst.{asked_cause, none_taken}
use Rattle.lvm_run.proofs.guarded.find_asked.Goals as goal

pub returns-in-Ok-clause-cause : goal.returns-in-Ok-clause-cause
returns-in-Ok-clause-cause g c =
    asked_cause (words_of c.args.words.now) c.in-Ok.line c.in-Ok.ensures.ok (g.S.Shelf.state c.args.shelf.now)
    (g.S.Shelf.state c.find_use.new.shelf) c.find_use.result c.find_use.ensures.cause c.find_use.ensures.taken

pub returns-in-Ok-clause-session : goal.returns-in-Ok-clause-session
returns-in-Ok-clause-session g c = λ asks.
    c.find_use.ensures.untouched (none_taken (words_of c.args.words.now) c.in-Ok.line c.in-Ok.ensures.ok asks)
