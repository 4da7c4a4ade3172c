use Rattle.std.proofs.Common.{◌∙◌}
use Rattle.extent_map.proofs.LegsOnVolume.{each_has_leg}
use Rattle.extent_map.proofs.free.free_runs.Goals as goal

pub runs_there-requires : goal.runs_there-requires
runs_there-requires c = each_has_leg c.args.group.now c.requires.accepted

pub free_beside-requires-clause-runs : goal.free_beside-requires-clause-runs
free_beside-requires-clause-runs c = c.deref_mut.ensures.value ∙ c.in_ok-runs.ensures
