use Rattle.std.proofs.Common.{◌≡◌, drop}
use Rattle.scan_rules.specs.Answers.{denying_disk}
use Rattle.scan_rules.specs.Flat.{all_held}
use Rattle.scan_rules.proofs.texts.find_conflict.Given as goal

abbrev pub invariant-loop-one : goal.invariant-loop-one
invariant-loop-one l = denying_disk l.copy (all_held l.copies (drop l.one-index l.held)) ≡ denying_disk l.copy (all_held l.copies l.held)
