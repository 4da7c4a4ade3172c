use Rattle.std.proofs.Common.{arith}
use Rattle.conf_text.proofs.Adding.{prints_both}
use Rattle.meta_print.proofs.Chains.{prints_whole}
use Rattle.meta_print.proofs.RowLists.{lvs_section}
use Rattle.meta_print.proofs.lvs.write_lvs.Goals as goal

pub returns-clause-added : goal.returns-clause-added
returns-clause-added g c =
    let front = prints_both g.S.TextSink.laws c.in_ok-write_open.ensures.added c.in_ok-write_lv_rows.ensures.added in
    prints_whole g.S.TextSink.laws _ _ c.write_close.result _ front c.write_close.ensures.added
    (lvs_section c.args.group.now c.args.group.now.lvs (λ e. omega (arith, e, c.len.ensures.count)))
