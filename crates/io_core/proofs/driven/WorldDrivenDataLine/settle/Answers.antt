use Rattle.world_acts.specs.Acts.{world}
use Rattle.io_core.proofs.Happened.{turned_begun, turned_longer}
use Rattle.io_core.proofs.driven.WorldDrivenDataLine.settle.Goals as goal

pub returns-clause-begun : goal.returns-clause-begun
returns-clause-begun g c =
    turned_begun (world (g.S.Shelf.state c.args.self.now.shelf) c.args.self.now.core)
    (world (g.S.Shelf.state c.settle.new.self.shelf) c.settle.new.self.core) c.settle.result _ c.settle.ensures.made

pub returns-clause-longer : goal.returns-clause-longer
returns-clause-longer g c =
    turned_longer (world (g.S.Shelf.state c.args.self.now.shelf) c.args.self.now.core)
    (world (g.S.Shelf.state c.settle.new.self.shelf) c.settle.new.self.core) c.settle.result _ c.settle.ensures.made
