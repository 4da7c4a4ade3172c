use Rattle.std.proofs.Common.{◌<◌, length, sym, subst}
use Rattle.std.specs.Prelude.{All}
use Rattle.world_acts.specs.declared.volumes.VolumeRow.{VolumeRow}
use Rattle.line_plans.proofs.ListedRows.{rows_within}
use Rattle.line_plans.proofs.preparing.listed.Goals as goal

pub listed_in-requires : goal.listed_in-requires
listed_in-requires c =
    subst (All (λ (r : VolumeRow). r.lv < length c.in-Some.group.lvs)) (sym c.deref.ensures.value)
    (rows_within c.args.volumes.now c.requires.0 c.in-Some.group c.requires.1 c.in-Some.is)
