use Rattle.std.proofs.Common.{◌≡◌, ◌++◌, drop}
use Rattle.scan_rules.specs.Found.{missing_by}
use Rattle.scan_rules.proofs.missing.missing_ids.Given as goal

abbrev pub invariant-loop-i : goal.invariant-loop-i
invariant-loop-i l = l.missing.items ++ missing_by l.found (drop l.i l.group.pvs) ≡ missing_by l.found l.group.pvs
