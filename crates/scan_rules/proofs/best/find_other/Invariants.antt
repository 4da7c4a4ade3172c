use Rattle.std.proofs.Common.{◌≡◌, drop}
use Rattle.scan_rules.specs.Flat.{all_held, other_among}
use Rattle.scan_rules.proofs.best.find_other.Given as goal

abbrev pub invariant-loop-one : goal.invariant-loop-one
invariant-loop-one l =
    other_among l.id (all_held l.copies (drop l.one-index l.one-items)) ≡ other_among l.id (all_held l.copies l.one-items)
