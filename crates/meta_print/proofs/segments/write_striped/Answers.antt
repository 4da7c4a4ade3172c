use Rattle.std.proofs.Common.{refl}
use Rattle.conf_text.proofs.Adding.{prints_both}
use Rattle.meta_print.proofs.Chains.{prints_whole}
use Rattle.meta_print.proofs.segments.write_striped.Goals as goal

pub returns-clause-added : goal.returns-clause-added
returns-clause-added g c =
    let laws = g.S.TextSink.laws in
    let front =
    prints_both laws (prints_both laws c.in_ok-write_text.ensures.added c.in_ok-write_number.ensures.added)
    c.in_ok-write_stripe.ensures.added in
    prints_whole laws _ _ c.write_legs.result _ front c.write_legs.ensures.added refl
