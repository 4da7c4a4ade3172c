use Rattle.std.proofs.Common.{◌/◌}
use Rattle.cow_store.specs.Views.{view_of}
use Rattle.cow_store.proofs.Keeping.{keeps_more}
use Rattle.cow_store.proofs.cow_store.CowStore.set_by.Goals as goal

pub returns-in-None-clause-keeps : goal.returns-in-None-clause-keeps
returns-in-None-clause-keeps g c =
    keeps_more (c.args.at / 8) (view_of g.V.Vols.state c.args.self.now) (view_of g.V.Vols.state c.write.new.self) c.write.ensures.keeps
