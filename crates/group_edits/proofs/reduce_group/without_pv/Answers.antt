use Rattle.group_edits.proofs.ReducedGroup.{reduced_made}
use Rattle.group_edits.proofs.reduce_group.without_pv.Goals as goal

pub returns : goal.returns
returns c =
    reduced_made c.args.group.now c.in_ok-next.next c.args.number c.in_ok-pvs.pvs c.in_ok-lvs.lvs c.in_ok-next.ensures c.in_ok-pvs.ensures
    c.in_ok-lvs.ensures
