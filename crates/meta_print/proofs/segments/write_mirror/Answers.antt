use Rattle.conf_text.proofs.Adding.{prints_both}
use Rattle.meta_print.proofs.Chains.{prints_whole}
use Rattle.meta_print.proofs.SegmentLists.{mirror_parts}
use Rattle.meta_print.proofs.segments.write_mirror.Goals as goal

pub returns-clause-added : goal.returns-clause-added
returns-clause-added g c =
    let laws = g.S.TextSink.laws in
    let numbers =
    prints_both laws (prints_both laws c.in_ok-write_text.ensures.added c.in_ok-write_number.ensures.added)
    c.in_ok-write_number-2.ensures.added in
    prints_whole laws _ _ c.write_legs.result _ (prints_both laws numbers c.in_ok-write_moved.ensures.added) c.write_legs.ensures.added
    (mirror_parts c.args.group.now c.args.region c.args.moved c.args.legs.now)
