-- The physical volumes so far, without this one.
use Rattle.std.proofs.Common.{◌≡◌, take}
use Rattle.std.specs.List.{remove}
use Rattle.group_edits.proofs.reduce_group.pvs_without.Given as goal

abbrev pub invariant-loop-place : goal.invariant-loop-place
invariant-loop-place l = l.rest ≡ remove (take l.place l.pvs) l.number
