use Rattle.world_acts.specs.Acts.{world}
use Rattle.io_core.proofs.Happened.{begun_longer, begun_more}
use Rattle.io_core.proofs.driven.WorldDrivenDataLine.begin.Goals as goal

pub returns-in-Ok-clause-begun : goal.returns-in-Ok-clause-begun
returns-in-Ok-clause-begun g c =
    begun_more (world (g.S.Shelf.state c.args.self.now.shelf) c.args.self.now.core)
    (world (g.S.Shelf.state c.begin.new.self.shelf) c.begin.new.self.core) c.args.line c.in-Ok.ensures.begun

pub returns-in-Ok-clause-longer : goal.returns-in-Ok-clause-longer
returns-in-Ok-clause-longer g c =
    begun_longer (world (g.S.Shelf.state c.args.self.now.shelf) c.args.self.now.core)
    (world (g.S.Shelf.state c.begin.new.self.shelf) c.begin.new.self.core) c.args.line c.in-Ok.ensures.begun
