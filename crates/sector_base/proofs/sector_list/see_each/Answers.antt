use Rattle.std.proofs.Common.{List, ℕ, subst}
use Rattle.std.specs.List.{All}
use Rattle.std.proofs.lemmas.List.{take_all}
use Rattle.std.proofs.lemmas.List.Elements.{All-more}
use Rattle.sector_base.specs.Sectors.{IsSector}
use Rattle.sector_base.proofs.sector_list.see_each.Goals as goal

pub loop-sector-preserved : goal.loop-sector-preserved
loop-sector-preserved c =
    All-more IsSector c.args.list.now c.loop-sector.sector-index c.sector-item.result c.loop-sector-test.true c.loop-sector.invariant
    (subst IsSector c.sector-item.is c.as_bytes-bytes.ensures.valid)

pub returns : goal.returns
returns c =
    subst (λ (l : List (List ℕ)). All IsSector l) (take_all c.loop-sector.sector-index c.args.list.now c.loop-sector-test.false)
    c.loop-sector.invariant
