use Rattle.std.proofs.Common.{append_assoc, refl}
use Rattle.conf_text.proofs.Adding.{prints_both}
use Rattle.meta_print.proofs.Chains.{prints_whole}
use Rattle.meta_print.proofs.group.write_group.Goals as goal

pub returns-clause-added : goal.returns-clause-added
returns-clause-added g c =
    let laws = g.S.TextSink.laws in
    let keys = prints_both laws c.in_ok-write_open.ensures.added c.in_ok-write_group_keys.ensures.added in
    let pvs =
    prints_both laws (prints_both laws (prints_both laws keys c.in_ok-write_open-2.ensures.added) c.in_ok-write_pvs.ensures.added)
    c.in_ok-write_close.ensures.added in
    let lvs = prints_both laws pvs c.in_ok-write_lvs.ensures.added in
    prints_whole laws _ _ c.write_close-2.result _ lvs c.write_close-2.ensures.added (rw c.as_bytes.ensures (simp append_assoc refl))
