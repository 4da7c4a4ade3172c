use Rattle.std.proofs.Common.{ℕ, ◌<◌, ◌≤◌}
use Rattle.volume_rules.specs.Rules.{IsPvmove}
use Rattle.vg_check.proofs.moves.none_moves.Given as goal

abbrev pub invariant-loop-number : goal.invariant-loop-number
invariant-loop-number l = (number : ℕ) → l.from ≤ number → number < l.number → IsPvmove l.group number → ⊥
