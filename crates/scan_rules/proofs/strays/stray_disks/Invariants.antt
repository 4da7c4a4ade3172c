use Rattle.std.proofs.Common.{◌≡◌, drop}
use Rattle.std.specs.FinSet as set
use Rattle.scan_rules.specs.Flat.{strays_on}
use Rattle.scan_rules.proofs.strays.stray_disks.Given as goal

abbrev pub invariant-loop-number : goal.invariant-loop-number
invariant-loop-number l = l.strays ≡ set.from_list (strays_on l.members l.number (drop l.number l.disks))
