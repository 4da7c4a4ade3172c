use Rattle.std.proofs.Common.{arith}
use Rattle.volume_rules.specs.declared.rule.Rule.TheVariants.{Volumes}
use Rattle.id_index.proofs.members.Members.of.Goals as goal

pub pvs_by_id-requires : goal.pvs_by_id-requires
pvs_by_id-requires c = let few = (c.group-group.ensures.accepted Volumes).pvs.1 in record { few = omega (arith, few) }
