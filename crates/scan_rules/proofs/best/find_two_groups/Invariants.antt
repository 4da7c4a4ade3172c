use Rattle.std.proofs.Common.{◌≡◌, drop}
use Rattle.scan_rules.specs.Decision.{two_groups}
use Rattle.scan_rules.specs.Flat.{all_held}
use Rattle.scan_rules.proofs.best.find_two_groups.Given as goal

abbrev pub invariant-loop-i : goal.invariant-loop-i
invariant-loop-i l = two_groups (all_held l.copies (drop l.i l.held)) ≡ two_groups (all_held l.copies l.held)
