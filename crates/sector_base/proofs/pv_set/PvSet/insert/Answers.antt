use Rattle.std.proofs.Common.{◌∙◌, ap, arith}
use Rattle.std.specs.FinSet.{insert}
use Rattle.sector_base.proofs.PvSetLemmas.{places_from-insert}
use Rattle.sector_base.proofs.pv_set.PvSet.insert.Goals as goal

pub returns : goal.returns
returns c = places_from-insert c.self.inside.has c.args.pv (omega arith) ∙ ap (λ s. insert s c.args.pv) c.self.view_is
