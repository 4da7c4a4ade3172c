use Rattle.std.proofs.Common.{◌≡◌, length}
use Rattle.scan_rules.specs.Flat.{refused_on}
use Rattle.scan_rules.proofs.refusals.all_refusals.Given as goal

abbrev pub invariant-loop-disk : goal.invariant-loop-disk
invariant-loop-disk l = (l.refused.items ≡ refused_on 0 l.yielded) × (l.number ≡ length l.yielded)
