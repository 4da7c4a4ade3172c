use Rattle.std.proofs.Common.{◌≡◌, ◌++◌, drop}
use Rattle.scan_rules.specs.Flat.{held_on}
use Rattle.scan_rules.proofs.held.held_copies.Given as goal

abbrev pub invariant-loop-number : goal.invariant-loop-number
invariant-loop-number l = l.held.items ++ held_on l.number (drop l.number l.disks) ≡ held_on 0 l.disks
