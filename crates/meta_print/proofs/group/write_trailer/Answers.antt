use Rattle.std.proofs.Common.{refl}
use Rattle.conf_text.proofs.Adding.{prints_both}
use Rattle.meta_print.proofs.Chains.{prints_whole}
use Rattle.meta_print.proofs.group.write_trailer.Goals as goal

pub returns-clause-added : goal.returns-clause-added
returns-clause-added g c =
    let laws = g.S.TextSink.laws in
    let first = prints_both laws c.in_ok-write_text.ensures.added c.in_ok-write_number.ensures.added in
    let front = prints_both laws (prints_both laws first c.in_ok-write_text-2.ensures.added) c.in_ok-write_text-3.ensures.added in
    prints_whole laws _ _ c.write_number-2.result _ front c.write_number-2.ensures.added refl
