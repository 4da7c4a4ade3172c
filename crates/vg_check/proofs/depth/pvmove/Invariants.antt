use Rattle.std.proofs.Common.{◌≡◌, ◌+◌, drop}
use Rattle.volume_rules.specs.Rules.{pvmove_number}
use Rattle.vg_check.proofs.depth.pvmove.Given as goal

abbrev pub invariant-loop-number : goal.invariant-loop-number
invariant-loop-number l = pvmove_number l.group.lvs ≡ l.number + pvmove_number (drop l.number l.group.lvs)
