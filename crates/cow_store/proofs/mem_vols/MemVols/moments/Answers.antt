use Rattle.std.proofs.Common.{◌∙◌}
use Rattle.dev_shelf.specs.DiskRow.{state_of}
use Rattle.dev_shelf.specs.DiskRowInvariant.{lawful_of}
use Rattle.dev_shelf.specs.HeldLaws.{lawful_back}
use Rattle.dev_shelf.specs.MemShelf.{plan_left}
use Rattle.cow_store.proofs.mem_vols.MemVols.moments.Goals as goal

pub returns : goal.returns
returns c =
    let shelf = c.args.self.now.shelf in
    c.moments.ensures ∙ (lawful_back (plan_left shelf) (state_of shelf.row) (lawful_of shelf.row shelf.good)).steps
