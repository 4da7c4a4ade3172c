use Rattle.std.proofs.Common.{◌≡◌, ◌++◌, drop}
use Rattle.vg_found.specs.Disks.{held_areas}
use Rattle.vg_found.proofs.areas.held_areas.Given as goal

abbrev pub invariant-loop-number : goal.invariant-loop-number
invariant-loop-number l = l.held.items ++ held_areas l.number (drop l.number l.disks) ≡ held_areas 0 l.disks
