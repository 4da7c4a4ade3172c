use Rattle.volume_rules.specs.declared.rule.Rule.TheVariants.{Volumes}
use Rattle.world_acts.proofs.volumes.rows_of.Goals as goal

pub visible_rows-requires : goal.visible_rows-requires
visible_rows-requires c = (c.group.ensures.accepted Volumes).lvs
