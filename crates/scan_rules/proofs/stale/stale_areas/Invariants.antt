use Rattle.std.proofs.Common.{◌≡◌, ◌++◌, drop}
use Rattle.std.specs.List.{AllByRecursion}
use Rattle.scan_rules.specs.Found.{HasFewAreas, stale_on}
use Rattle.scan_rules.specs.Readings.{readings_of}
use Rattle.scan_rules.proofs.stale.stale_areas.Given as goal

abbrev pub invariant-loop-number : goal.invariant-loop-number
invariant-loop-number l =
    (l.stale.items ++ stale_on l.members l.copy.text l.number (readings_of l.copies (drop l.number l.disks))
    ≡ stale_on l.members l.copy.text 0 (readings_of l.copies l.disks)) × AllByRecursion HasFewAreas (drop l.number l.disks)
