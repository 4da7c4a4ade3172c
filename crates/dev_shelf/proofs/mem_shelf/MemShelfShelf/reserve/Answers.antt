use Rattle.std.proofs.lemmas.Result.{on_ok_weaker}
use Rattle.dev_shelf.specs.DiskRow.{state_of}
use Rattle.dev_shelf.specs.MemShelf.{plan_left}
use Rattle.dev_shelf.proofs.HeldCalls.{reserves_back}
use Rattle.dev_shelf.proofs.mem_shelf.MemShelfShelf.reserve.Goals as goal

pub returns-clause-ok : goal.returns-clause-ok
returns-clause-ok c =
    on_ok_weaker c.reserve.result
    (reserves_back (plan_left c.args.self.now) (state_of c.args.self.now.row) (state_of c.reserve.new.self) c.args.ops c.args.sectors)
    c.reserve.ensures.ok
