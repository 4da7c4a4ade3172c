-- One step more.
use Rattle.std.proofs.Common.{◌∙◌}
use Rattle.lvm_report.proofs.MarkedVolumes.{more_steps}
use Rattle.lvm_report.proofs.moving.moving_volumes.Goals as goal

pub loop-preserved : goal.loop-preserved
loop-preserved c =
    c.in_ok-moving-2.ensures ∙ more_steps c.args.group.now c.deref.result.now c.loop.counter (c.deref.ensures.value ∙ c.loop.invariant)
