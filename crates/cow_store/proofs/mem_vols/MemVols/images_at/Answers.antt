use Rattle.std.proofs.Common.{arith}
use Rattle.dev_shelf.specs.DiskRow.{state_of}
use Rattle.dev_shelf.specs.DiskRowInvariant.{lawful_of}
use Rattle.dev_shelf.specs.HeldLaws.{lawful_back}
use Rattle.dev_shelf.specs.MemShelf.{plan_left}
use Rattle.cow_store.proofs.mem_vols.MemVols.images_at.Goals as goal

pub images_at-requires : goal.images_at-requires
images_at-requires c =
    let shelf = c.args.self.now.shelf in
    omega (arith, c.requires, (lawful_back (plan_left shelf) (state_of shelf.row) (lawful_of shelf.row shelf.good)).steps)
