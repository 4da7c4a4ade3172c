use Rattle.world_acts.specs.Acts.{world}
use Rattle.io_core.proofs.Happened.{turned_begun, turned_longer}
use Rattle.io_core.proofs.driven.WorldDrivenDataLine.turn.Goals as goal

pub returns-clause-begun : goal.returns-clause-begun
returns-clause-begun g c =
    turned_begun (world (g.S.Shelf.state c.args.self.now.shelf) c.args.self.now.core)
    (world (g.S.Shelf.state c.turn.new.self.shelf) c.turn.new.self.core) c.turn.result _ c.turn.ensures

pub returns-clause-longer : goal.returns-clause-longer
returns-clause-longer g c =
    turned_longer (world (g.S.Shelf.state c.args.self.now.shelf) c.args.self.now.core)
    (world (g.S.Shelf.state c.turn.new.self.shelf) c.turn.new.self.core) c.turn.result _ c.turn.ensures
