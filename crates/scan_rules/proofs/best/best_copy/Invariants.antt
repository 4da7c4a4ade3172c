use Rattle.std.proofs.Common.{drop}
use Rattle.scan_rules.specs.Decision.{best}
use Rattle.scan_rules.specs.Flat.{IsThat, all_held}
use Rattle.scan_rules.proofs.best.best_copy.Given as goal

abbrev pub invariant-loop-i : goal.invariant-loop-i
invariant-loop-i l = IsThat l.copies l.best (best (all_held l.copies (drop l.i l.held)))
