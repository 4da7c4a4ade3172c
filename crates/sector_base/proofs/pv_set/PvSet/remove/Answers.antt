use Rattle.std.proofs.Common.{◌∙◌, ap, arith}
use Rattle.std.specs.FinSet.{remove}
use Rattle.sector_base.proofs.PvSetLemmas.{places_from-remove}
use Rattle.sector_base.proofs.pv_set.PvSet.remove.Goals as goal

pub returns : goal.returns
returns c = places_from-remove c.self.inside.has c.args.pv (omega arith) ∙ ap (λ s. remove s c.args.pv) c.self.view_is
