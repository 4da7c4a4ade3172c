-- One that is there goes last.
use Rattle.std.proofs.Common.{sym, ◌∙◌}
use Rattle.meta_model.proofs.TableLemmas.{pushed}
use Rattle.group_edits.proofs.LastRows.{mapped_last}
use Rattle.group_edits.specs.RestoredGroup.{found_pv}
use Rattle.group_edits.proofs.restore_group.found_pvs.Goals as goal

pub loop-place-preserved : goal.loop-place-preserved
loop-place-preserved c =
    let last = pushed _ _ _ _ _ c.push.ensures (sym c.is_err.ensures.value ∙ c.if-is_err.false) in
    mapped_last found_pv c.args.pvs.now c.loop-place.all c.push.new.self c.loop-place.place (c.get.result.0.now, c.get.result.1.now)
    (c.in_ok-name.name, c.in_ok-pv.pv)
    c.loop-place.invariant c.get.ensures (λ i. (c.in_ok-name.ensures i, c.in_ok-pv.ensures i)) last
