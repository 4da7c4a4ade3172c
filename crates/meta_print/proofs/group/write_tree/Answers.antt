use Rattle.std.proofs.Common.{refl}
use Rattle.meta_print.proofs.Chains.{prints_whole}
use Rattle.meta_print.proofs.group.write_tree.Goals as goal

pub returns-clause-added : goal.returns-clause-added
returns-clause-added g c =
    prints_whole g.S.TextSink.laws _ _ c.write_trailer.result _ c.in_ok-write_group.ensures.added c.write_trailer.ensures.added refl
