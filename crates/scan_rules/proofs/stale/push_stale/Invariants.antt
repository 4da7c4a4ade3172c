use Rattle.std.proofs.Common.{◌≡◌, ◌++◌, drop}
use Rattle.std.specs.Prelude.{map}
use Rattle.scan_rules.specs.Found.{stale_from}
use Rattle.scan_rules.specs.Readings.{area_of}
use Rattle.scan_rules.proofs.stale.push_stale.Given as goal

abbrev pub invariant-loop-number : goal.invariant-loop-number
invariant-loop-number l =
    l.stale.items ++ stale_from l.copy.text l.disk l.number (map (area_of l.copies) (drop l.number l.areas))
    ≡ l.fn.stale.items ++ stale_from l.copy.text l.disk 0 (map (area_of l.copies) l.areas)
