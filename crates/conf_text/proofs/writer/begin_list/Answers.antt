use Rattle.std.proofs.Common.{append_assoc, refl}
use Rattle.conf_text.proofs.Adding.{ends_with}
use Rattle.conf_text.proofs.writer.begin_list.Goals as goal

pub returns-clause-added : goal.returns-clause-added
returns-clause-added g c =
    ends_with g.S.TextSink.laws _ _ c.push.result _ c.in_ok-write_key.ensures.added c.push.ensures.added (simp append_assoc refl)
