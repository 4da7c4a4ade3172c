-- A row more.
use Rattle.std.proofs.Common.{sym, ◌∙◌}
use Rattle.meta_model.proofs.TableLemmas.{pushed}
use Rattle.group_edits.proofs.LastSegment.{next_changed}
use Rattle.group_edits.specs.LongerVolume.{longer_row}
use Rattle.group_edits.proofs.lengthen.longer_lvs.Goals as goal

pub loop-number-preserved : goal.loop-number-preserved
loop-number-preserved c =
    next_changed c.args.name.now (longer_row c.args.given.now) c.args.lvs.now c.loop-number.all c.push.new.self c.loop-number.number _
    c.in_ok-own.own _ c.in_ok-next.next c.loop-number.invariant c.get.ensures
    c.in_ok-next.ensures c.in_ok-own.ensures (pushed _ _ _ _ _ c.push.ensures (sym c.is_err.ensures.value ∙ c.if-is_err.false))
