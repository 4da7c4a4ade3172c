use Rattle.std.proofs.Common.{append_assoc, refl}
use Rattle.conf_text.proofs.Adding.{prints_with}
use Rattle.conf_text.proofs.writer.write_numbered_open.Goals as goal

pub returns-clause-added : goal.returns-clause-added
returns-clause-added g c =
    let laws = g.S.TextSink.laws in
    prints_with laws _ _ c.push-2.result _ (laws.both c.in_ok-push.ensures.added c.in_ok-write_digits.ensures.added) c.push-2.ensures.added
    (simp append_assoc refl)
