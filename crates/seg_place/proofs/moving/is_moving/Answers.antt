use Rattle.std.proofs.Common.{◌≡◌, ℕ, ap, sym, ◌∙◌, arith}
use Rattle.seg_place.proofs.MarkedVolumes.{after_more, leads_after, marked_after, no_move, none_leads, none_marked}
use Rattle.seg_place.proofs.Volumes.{volumes_are_few}
use Rattle.seg_place.proofs.moving.is_moving.Goals as goal

pub returns-then-not-has_move : goal.returns-then-not-has_move
returns-then-not-has_move c =
    sym (none_leads c.args.group.now (no_move c.args.group.now (sym c.has_move.ensures ∙ c.if-not-has_move.true)) 4 c.args.lv)

pub loop-round-init : goal.loop-round-init
loop-round-init c = none_marked 1024

pub marks_above-marks-requires : goal.marks_above-marks-requires
marks_above-marks-requires c = volumes_are_few c.args.group.now c.requires

pub loop-round-preserved : goal.loop-round-preserved
loop-round-preserved c =
    after_more c.args.group.now c.loop-round.marks c.marks_above-marks.result c.loop-round._round c.loop-round.invariant
    c.marks_above-marks.ensures

pub returns : goal.returns
returns c =
    let five : c.loop-round._round ≡ 5 = omega arith in
    c.lies_on_marked.ensures ∙ c.loop-round.invariant c.args.lv ∙ ap (λ (n : ℕ). marked_after c.args.group.now n c.args.lv) five
    ∙ leads_after c.args.group.now 4 c.args.lv
