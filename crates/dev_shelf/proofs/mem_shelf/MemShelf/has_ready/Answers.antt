use Rattle.std.proofs.Common.{refl}
use Rattle.dev_shelf.specs.MemShelf.{plan_left, state_of_shelf}
use Rattle.dev_shelf.proofs.ReadyRecord.{has_some, ready_many}
use Rattle.dev_shelf.proofs.mem_shelf.MemShelf.has_ready.Goals as goal

pub returns : goal.returns
returns c =
    let shelf = c.args.self.now in
    has_some c.ready_count.result (state_of_shelf shelf).ready
    (ready_many (plan_left shelf) shelf.holding shelf.row c.ready_count.result refl refl shelf.good c.ready_count.ensures)
