use Rattle.dev_shelf.specs.MemShelf.{plan_left}
use Rattle.dev_shelf.proofs.HeldCalls.{submits_back}
use Rattle.dev_shelf.proofs.mem_shelf.MemShelfShelf.submit.Goals as goal

pub returns-clause-submits : goal.returns-clause-submits
returns-clause-submits c =
    submits_back (plan_left c.args.self.now) c.args.self.now.row c.submit.new.self c.args.op c.submit.result c.submit.ensures.submits
