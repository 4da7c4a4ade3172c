use Rattle.dev_shelf.specs.DiskRow.{state_of}
use Rattle.dev_shelf.specs.DiskRowInvariant.{lawful_of}
use Rattle.dev_shelf.specs.HeldLaws.{lawful_back}
use Rattle.dev_shelf.specs.MemShelf.{plan_left, state_of_shelf}
use Rattle.cow_store.proofs.ShelfCalls.{carried}
use Rattle.cow_store.proofs.mem_vols.run.Goals as goal

pub returns-clause-carries_out : goal.returns-clause-carries_out
returns-clause-carries_out c =
    let shelf = c.args.shelf.now in
    carried (state_of_shelf shelf) (state_of_shelf c.submit-tag.new.self) (state_of_shelf c.settle.new.self) c.args.op c.submit-tag.result
    c.in-Some.done (lawful_back (plan_left shelf) (state_of shelf.row) (lawful_of shelf.row shelf.good)) c.requires.idle
    c.submit-tag.ensures.submits c.in-Some.ensures.cases
