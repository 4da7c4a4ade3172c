use Rattle.std.proofs.Common.{refl}
use Rattle.conf_text.proofs.Adding.{prints_both}
use Rattle.meta_print.proofs.Chains.{prints_whole}
use Rattle.meta_print.proofs.group.write_group_keys.Goals as goal

pub returns-clause-added : goal.returns-clause-added
returns-clause-added g c =
    let laws = g.S.TextSink.laws in
    let first = prints_both laws c.in_ok-write_text.ensures.added c.in_ok-write_number.ensures.added in
    let words =
    prints_both laws (prints_both laws (prints_both laws first c.in_ok-write_text-2.ensures.added)
    c.in_ok-write_vg_status.ensures.added) c.in_ok-write_words.ensures.added in
    let numbers =
    prints_both laws (prints_both laws (prints_both laws words c.in_ok-write_number-2.ensures.added)
    c.in_ok-write_number-3.ensures.added) c.in_ok-write_number-4.ensures.added in
    prints_whole laws _ _ c.write_number-5.result _ numbers c.write_number-5.ensures.added (rw c.hyphen.ensures.value refl)
