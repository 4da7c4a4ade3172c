use Rattle.std.proofs.Common.{refl}
use Rattle.std.proofs.lemmas.List.{append-nil}
use Rattle.conf_text.proofs.Adding.{prints_both}
use Rattle.meta_print.proofs.Chains.{prints_whole}
use Rattle.meta_print.proofs.pvs.write_pv.Goals as goal

pub returns-clause-added : goal.returns-clause-added
returns-clause-added g c =
    let laws = g.S.TextSink.laws in
    let names =
    prints_both laws (prints_both laws c.in_ok-write_open.ensures.added c.in_ok-write_text.ensures.added)
    c.in_ok-write_text-2.ensures.added in
    let words = prints_both laws (prints_both laws names c.in_ok-write_words_set.ensures.added) c.in_ok-write_words_set-2.ensures.added in
    let numbers =
    prints_both laws (prints_both laws (prints_both laws words c.in_ok-write_number.ensures.added) c.in_ok-write_number-2.ensures.added)
    c.in_ok-write_number-3.ensures.added in
    prints_whole laws _ _ c.write_close.result _ numbers c.write_close.ensures.added
    (rw (c.as_bytes.ensures, c.hyphen.ensures.value, c.as_bytes-2.ensures) (simp append-nil refl))
