use Rattle.std.proofs.Common.{◌≡◌, [], drop}
use Rattle.scan_rules.specs.Found.{misplaced_from}
use Rattle.scan_rules.specs.Decision.{first_misplaced}
use Rattle.scan_rules.specs.Readings.{readings_of}
use Rattle.scan_rules.proofs.shape.find_misplaced.Given as goal

abbrev pub invariant-loop-number : goal.invariant-loop-number
invariant-loop-number l =
    misplaced_from l.members l.number (readings_of [] (drop l.number l.disks)) ≡ first_misplaced l.members (readings_of [] l.disks)
