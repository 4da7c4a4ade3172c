use Rattle.vg_plans.proofs.SoundBackup.{lacked_next}
use Rattle.vg_plans.specs.Vgcfgrestore.{id_lacked}
use Rattle.vg_plans.proofs.same_group.id_lacked.Goals as goal

pub loop-place-preserved : goal.loop-place-preserved
loop-place-preserved c =
    lacked_next c.args.other.now c.loop-place.least c.least_with-least.result c.args.group.now.pvs c.loop-place.place
    (c.get.result.0.now, c.get.result.1.now) (id_lacked c.args.other.now c.args.group.now)
    c.get.ensures c.least_with-least.ensures c.loop-place.invariant
