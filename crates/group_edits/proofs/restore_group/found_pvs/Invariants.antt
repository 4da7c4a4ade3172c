-- The physical volumes so far.
use Rattle.std.proofs.Common.{◌≡◌, map, take}
use Rattle.group_edits.specs.RestoredGroup.{found_pv}
use Rattle.group_edits.proofs.restore_group.found_pvs.Given as goal

abbrev pub invariant-loop-place : goal.invariant-loop-place
invariant-loop-place l = l.all ≡ map found_pv (take l.place l.pvs)
