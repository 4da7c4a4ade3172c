use Rattle.std.proofs.Common.{◌≤◌, arith}
use Rattle.group_edits.proofs.RestoredGroup.{greater_most, restored_made}
use Rattle.group_edits.proofs.restore_group.restored.Goals as goal

pub overflow_add-next : goal.overflow_add-next
overflow_add-next c =
    let most : c.max-greater.result ≤ 4294967295 =
    greater_most c.args.found.now.seqno c.args.said.now.seqno 4294967295 c.max-greater.result c.max-greater.ensures c.requires.found
    c.requires.said in
    omega (arith, most)

pub returns : goal.returns
returns c =
    restored_made c.args.found.now c.args.said.now c.in_ok-next.next c.max-greater.result c.in_ok-pvs.pvs c.in_ok-next.ensures
    c.max-greater.ensures c.in_ok-pvs.ensures
