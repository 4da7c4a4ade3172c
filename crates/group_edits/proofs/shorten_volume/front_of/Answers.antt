use Rattle.std.proofs.Common.{ap, ◌∙◌, arith}
use Rattle.std.proofs.lemmas.Bool.Decides.{nat_tests}
use Rattle.meta_model.specs.declared.segment.Segment.{Segment}
use Rattle.group_edits.proofs.ShortFront.{cut}
use Rattle.group_edits.proofs.ShortRows.{next_front}
use Rattle.group_edits.proofs.shorten_volume.front_of.Goals as goal

pub loop-segment-preserved : goal.loop-segment-preserved
loop-segment-preserved c =
    next_front c.args.segments.now c.loop-segment.front.items c.push.new.self.items c.args.count c.loop-segment.segment-index
    c.loop-segment.left c.min-left.result c.segment-item.result
    (cut c.in_ok-copy.copy c.min.result) c.loop-segment.invariant (grind (arith, nat_tests, c.loop-segment-test.true)) c.segment-item.is
    (λ is. grind (arith, nat_tests, is, c.if-left-eq0.false))
    (ap (λ (s : Segment). cut s c.min.result) c.in_ok-copy.ensures ∙ ap (cut c.segment-item.result) c.min.ensures)
    c.in_ok-push.ensures.items c.min-left.ensures
