use Rattle.std.proofs.Common.{◌/◌}
use Rattle.cow_store.specs.Answers.{refused_set}
use Rattle.cow_store.specs.Views.{view_of}
use Rattle.cow_store.proofs.Keeping.{keeps_more, keeps_same}
use Rattle.cow_store.proofs.Setting.{early_same}
use Rattle.cow_store.proofs.cow_store.CowStore.set.Goals as goal

pub returns-in_err-slot-clause-keeps : goal.returns-in_err-slot-clause-keeps
returns-in_err-slot-clause-keeps g c =
    let old = view_of g.V.Vols.state c.args.self.now in
    let new = view_of g.V.Vols.state c.prepare_set.new.self in
    keeps_more (c.args.at / 8) old new
    (keeps_same old new c.requires (early_same (refused_set old c.args.at) old new _ c.in_err-slot.ensures.prepares))
