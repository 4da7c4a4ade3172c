use Rattle.std.proofs.Common.{refl}
use Rattle.dev_shelf.specs.MemShelf.{plan_left, state_of_shelf}
use Rattle.dev_shelf.proofs.HeldCalls.{completes_ready}
use Rattle.dev_shelf.proofs.LettingGo.{makes_settled}
use Rattle.dev_shelf.proofs.mem_shelf.MemShelfShelf.settle.Goals as goal

pub returns-clause-cases : goal.returns-clause-cases
returns-clause-cases c =
    let old = state_of_shelf c.args.self.now in
    let mid = state_of_shelf c.make_ready.new.self in
    let makes =
    makes_settled old.ready (plan_left c.args.self.now) (plan_left c.make_ready.new.self) old mid refl refl c.make_ready.ensures.plan
    c.make_ready.ensures.state in
    completes_ready old mid (state_of_shelf c.complete_ready.new.self) c.complete_ready.result makes c.complete_ready.ensures.completes
