use Rattle.std.proofs.Common.{◌≡◌, ◌++◌, [], drop}
use Rattle.scan_rules.specs.Decision.{ids_from}
use Rattle.scan_rules.specs.Readings.{readings_of}
use Rattle.scan_rules.proofs.duplicates.found_ids.Given as goal

abbrev pub invariant-loop-number : goal.invariant-loop-number
invariant-loop-number l = l.ids.items ++ ids_from l.number (readings_of [] (drop l.number l.disks)) ≡ ids_from 0 (readings_of [] l.disks)
