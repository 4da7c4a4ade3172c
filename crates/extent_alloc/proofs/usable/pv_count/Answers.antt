use Rattle.std.proofs.Common.{arith}
use Rattle.volume_rules.specs.declared.rule.Rule.TheVariants.{Volumes}
use Rattle.extent_alloc.proofs.usable.pv_count.Goals as goal

pub overflow_cast-result : goal.overflow_cast-result
overflow_cast-result c = omega (arith, c.len.ensures.count, (c.requires Volumes).pvs.1)
