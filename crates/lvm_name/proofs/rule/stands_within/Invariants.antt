-- What was passed over doesn't begin with the part.
use Rattle.std.proofs.Common.{◌≡◌, length}
use Rattle.lvm_name.specs.Names.{has_within}
use Rattle.lvm_name.proofs.rule.stands_within.Given as goal

abbrev pub invariant-loop-rest : goal.invariant-loop-rest
invariant-loop-rest l = has_within l.part l.text ≡ has_within l.part l.rest

abbrev pub decreases-loop-rest : goal.decreases-loop-rest
decreases-loop-rest l = length l.rest
