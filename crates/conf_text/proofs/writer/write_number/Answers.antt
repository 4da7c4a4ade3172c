use Rattle.std.proofs.Common.{append_assoc, refl}
use Rattle.conf_text.proofs.Adding.{prints_with}
use Rattle.conf_text.proofs.writer.write_number.Goals as goal

pub returns-clause-added : goal.returns-clause-added
returns-clause-added g c =
    prints_with g.S.TextSink.laws _ _ c.push.result _
    (g.S.TextSink.laws.both c.in_ok-write_key.ensures.added c.in_ok-write_digits.ensures.added) c.push.ensures.added
    (simp append_assoc refl)
