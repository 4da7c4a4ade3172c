use Rattle.std.proofs.Common.{refl}
use Rattle.meta_print.proofs.Chains.{prints_whole}
use Rattle.meta_print.proofs.group.write_backup.Goals as goal

pub returns-clause-added : goal.returns-clause-added
returns-clause-added g c =
    prints_whole g.S.TextSink.laws _ _ c.write_group.result _ c.in_ok-write_trailer.ensures.added c.write_group.ensures.added refl
