use Rattle.std.proofs.Common.{arith, sym, subst}
use Rattle.vg_check.specs.Ids.{IsNumbered}
use Rattle.vg_check.proofs.BlockOfIds.{block_tells}
use Rattle.vg_check.proofs.ids.block_differs.Goals as goal

pub returns : goal.returns
returns c =
    block_tells c.args.group.now c.args.kind c.args.from c.args.to c.number_block.new.block c.sort_by_id.new.block
    c.sorted_block_differs.result
    (subst (λ n. IsNumbered c.args.from n c.number_block.new.block) (sym c.number_block.auto.block) c.number_block.ensures)
    c.sort_by_id.ensures.moved (omega (arith, c.number_block.auto.block)) c.requires.within c.sort_by_id.ensures.order
    c.sorted_block_differs.ensures
