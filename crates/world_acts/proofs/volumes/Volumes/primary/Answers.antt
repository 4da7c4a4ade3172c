use Rattle.std.proofs.Common.{◌≤◌, IfSome, Option, length, subst, arith}
use Rattle.meta_model.specs.declared.group.Group.{Group}
use Rattle.volume_view.proofs.Views.{primary_pv}
use Rattle.world_acts.proofs.volumes.Volumes.primary.Goals as goal

pub on_disk-requires : goal.on_disk-requires
on_disk-requires c =
    let group : Group = c.in-Some.group in
    let most : length group.pvs ≤ length c.args.self.now.disk_of =
    subst (λ (o : Option Group). IfSome o (λ (g : Group). length g.pvs ≤ length c.args.self.now.disk_of)) c.in-Some.is
    c.requires.laid.1.disks in
    omega (arith, most, primary_pv group c.in-Some-number_of.lv c.args.sector c.primary.result c.primary.ensures)
