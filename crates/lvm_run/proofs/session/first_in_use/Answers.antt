use Rattle.lvm_run.proofs.LeftInUse.{asked_of}
use Rattle.lvm_run.proofs.session.first_in_use.Goals as goal

pub returns : goal.returns
returns c =
    asked_of c.args.forced c.if-forced.false c.found.result.now c.args.whole.now c.found.ensures.found c.first_unlisted.result
    c.first_unlisted.ensures
