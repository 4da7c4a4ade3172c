-- The logical volumes so far.
use Rattle.std.proofs.Common.{◌≡◌, map, take}
use Rattle.group_edits.specs.ReducedGroup.{on_without_pv}
use Rattle.group_edits.specs.Renumbered.{renumbered_row}
use Rattle.group_edits.proofs.reduce_group.lvs_without.Given as goal

abbrev pub invariant-loop-place : goal.invariant-loop-place
invariant-loop-place l = l.rest ≡ map (renumbered_row (on_without_pv l.without.number)) (take l.place l.lvs)
