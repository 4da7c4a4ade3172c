use Rattle.conf_text.proofs.Adding.{prints_both}
use Rattle.meta_print.specs.Layout.{lv_entries}
use Rattle.meta_print.proofs.Chains.{prints_as}
use Rattle.meta_print.proofs.RowLists.{rows_more}
use Rattle.meta_print.proofs.lvs.write_lv_rows.Goals as goal

pub loop-number-preserved : goal.loop-number-preserved
loop-number-preserved g c =
    prints_as (prints_both g.S.TextSink.laws c.loop-number.invariant c.in_ok-write_lv.ensures.added)
    (rows_more (lv_entries c.args.group.now) c.args.group.now.lvs c.loop-number.number (c.get.result.0.now, c.get.result.1.now)
    c.get.ensures)
