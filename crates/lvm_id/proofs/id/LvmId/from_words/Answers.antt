use Rattle.std.proofs.Common.{sym, ap, ◌∙◌}
use Rattle.lvm_id.specs.LvmId.{id_of_words}
use Rattle.lvm_id.proofs.Drawn.{four_drawn, moved_by_four}
use Rattle.lvm_id.proofs.id.LvmId.from_words.Goals as goal

pub returns-clause-drawn : goal.returns-clause-drawn
returns-clause-drawn g c =
    c.of_four.ensures.value ∙ ap id_of_words
    (sym (four_drawn g.N.Words64.upcoming _ _ _ _ _ _ _ _ _ c.next-first.ensures c.next-second.ensures c.next-third.ensures
    c.next-fourth.ensures (g.met.N.Words64.counted _)))

pub returns-clause-moved_on : goal.returns-clause-moved_on
returns-clause-moved_on g c =
    moved_by_four g.N.Words64.upcoming _ _ _ _ _ _ _ _ _ c.next-first.ensures c.next-second.ensures c.next-third.ensures
    c.next-fourth.ensures (g.met.N.Words64.counted _)
