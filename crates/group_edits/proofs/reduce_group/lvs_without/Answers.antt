-- A renumbered volume goes last.
use Rattle.std.proofs.Common.{sym, ◌∙◌}
use Rattle.meta_model.proofs.TableLemmas.{pushed}
use Rattle.group_edits.proofs.LastRows.{mapped_last}
use Rattle.group_edits.specs.ReducedGroup.{on_without_pv}
use Rattle.group_edits.specs.Renumbered.{renumbered_row}
use Rattle.group_edits.proofs.reduce_group.lvs_without.Goals as goal

pub loop-place-preserved : goal.loop-place-preserved
loop-place-preserved c =
    let last = pushed _ _ _ _ _ c.push.ensures (sym c.is_err.ensures.value ∙ c.if-is_err.false) in
    mapped_last (renumbered_row (on_without_pv c.args.without.now.number)) c.args.lvs.now c.loop-place.rest c.push.new.self
    c.loop-place.place (c.get.result.0.now, c.get.result.1.now) (c.in_ok-name.name, c.in_ok-lv.lv)
    c.loop-place.invariant c.get.ensures (λ i. (c.in_ok-name.ensures i, c.in_ok-lv.ensures i)) last
