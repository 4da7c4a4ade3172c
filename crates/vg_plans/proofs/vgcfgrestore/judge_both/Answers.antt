use Rattle.std.proofs.Common.{List, sym, ap, subst, ◌∙◌}
use Rattle.std.specs.Prelude.{All}
use Rattle.vg_found.specs.declared.disk.Disk.{Disk}
use Rattle.group_plan.proofs.StateFacts.{IsBelow}
use Rattle.vg_plans.proofs.SoundBackup.{held_below}
use Rattle.vg_plans.specs.Vgcfgrestore.{disks_held}
use Rattle.vg_plans.proofs.vgcfgrestore.judge_both.Goals as goal

pub judge_areas-requires : goal.judge_areas-requires
judge_areas-requires c =
    subst (All IsBelow) (sym (c.as_slice-3.ensures ∙ c.in_ok-held.ensures
    ∙ ap (λ (l : List Disk). disks_held c.args.said.now l) c.as_slice.ensures)) (held_below c.args.state.now c.requires c.args.said.now)
