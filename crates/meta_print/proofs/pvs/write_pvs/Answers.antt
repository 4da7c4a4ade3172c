use Rattle.conf_text.proofs.Adding.{prints_both}
use Rattle.meta_print.specs.Layout.{pv_entries}
use Rattle.meta_print.proofs.Chains.{prints_as}
use Rattle.meta_print.proofs.RowLists.{rows_more}
use Rattle.meta_print.proofs.pvs.write_pvs.Goals as goal

pub loop-number-preserved : goal.loop-number-preserved
loop-number-preserved g c =
    prints_as (prints_both g.S.TextSink.laws c.loop-number.invariant c.in_ok-write_pv.ensures.added)
    (rows_more pv_entries c.args.pvs.now c.loop-number.number (c.get.result.0.now, c.get.result.1.now) c.get.ensures)
