use Rattle.std.proofs.Common.{ℕ, option_map, sym, ap, ◌∙◌}
use Rattle.meta_model.specs.declared.lv.Lv.{Lv}
use Rattle.group_edits.proofs.Visible.{found_here, is_seen, past_hidden, past_other}
use Rattle.group_edits.specs.Visible.{visible_named}
use Rattle.group_edits.proofs.finding.find_visible.Goals as goal
use Rattle.group_edits.proofs.finding.find_visible.Goals.{else-is_visible-via-then-is_visible+else-is_volume}
use Rattle.group_edits.proofs.finding.find_visible.Goals.{else-is_visible-via-else-is_visible}

pub returns-then-is_volume-clause-found : goal.returns-then-is_volume-clause-found
unfolding visible_named
returns-then-is_volume-clause-found c =
    sym (ap (option_map (λ (v : ℕ × Lv). v.0))
    (sym c.loop-number.invariant ∙ found_here c.args.name.now c.args.group.now.lvs c.loop-number.number _ c.get.ensures
    (sym c.is_visible.ensures ∙ c.if-is_visible.true)
    (sym c.is_volume.ensures ∙ c.if-is_volume.true)))

pub returns-then-is_volume-clause-visible : goal.returns-then-is_volume-clause-visible
returns-then-is_volume-clause-visible c =
    is_seen c.args.group.now c.loop-number.number _ c.get.ensures (sym c.is_visible.ensures ∙ c.if-is_visible.true)

pub loop-number-preserved : goal.loop-number-preserved
loop-number-preserved c =
    elim c.else-is_visible.branch [
      | else-is_visible-via-then-is_visible+else-is_volume w ↦ sym
          (past_other c.args.name.now c.args.group.now.lvs c.loop-number.number _ c.get.ensures
          (sym w.is_volume.ensures ∙ w.if-is_volume.false)) ∙ c.loop-number.invariant
      | else-is_visible-via-else-is_visible w ↦ sym
          (past_hidden c.args.name.now c.args.group.now.lvs c.loop-number.number _ c.get.ensures
          (sym c.is_visible.ensures ∙ w.if-is_visible.false))
          ∙ c.loop-number.invariant
    ]
