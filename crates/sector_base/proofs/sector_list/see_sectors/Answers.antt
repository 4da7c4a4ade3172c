use Rattle.std.proofs.Common.{List, ℕ, subst}
use Rattle.std.specs.List.{All}
use Rattle.std.proofs.lemmas.List.{take_all}
use Rattle.std.proofs.lemmas.List.Elements.{All-more}
use Rattle.sector_base.specs.Sectors.{IsSector}
use Rattle.sector_base.proofs.sector_list.see_sectors.Goals as goal

pub loop-sectors-preserved : goal.loop-sectors-preserved
loop-sectors-preserved c =
    let P : List (List ℕ) → Type 0 = λ sectors. All IsSector sectors in
    All-more P c.args.disks.now c.loop-sectors.sectors-index c.sectors-item.result c.loop-sectors-test.true c.loop-sectors.invariant
    (subst P c.sectors-item.is c.len-count.ensures.valid)

pub returns : goal.returns
returns c =
    let P : List (List ℕ) → Type 0 = λ sectors. All IsSector sectors in
    subst (λ (l : List (List (List ℕ))). All P l) (take_all c.loop-sectors.sectors-index c.args.disks.now c.loop-sectors-test.false)
    c.loop-sectors.invariant
