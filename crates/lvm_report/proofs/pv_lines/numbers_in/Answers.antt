use Rattle.std.proofs.Common.{arith}
use Rattle.lvm_report.proofs.GroupLine.{pvs_are_few}
use Rattle.lvm_report.proofs.pv_lines.numbers_in.Goals as goal

pub pvs_by_id-requires : goal.pvs_by_id-requires
pvs_by_id-requires c = record { few = omega (arith, pvs_are_few c.group.result.now c.group.ensures.accepted) }
