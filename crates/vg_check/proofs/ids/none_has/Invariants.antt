use Rattle.std.proofs.Common.{ℕ, ◌<◌, ◌≤◌}
use Rattle.vg_check.specs.Ids.{HasId, id_of}
use Rattle.vg_check.proofs.ids.none_has.Given as goal

abbrev pub invariant-loop-number : goal.invariant-loop-number
invariant-loop-number l =
    (number : ℕ) → l.from ≤ number → number < l.number → HasId l.group l.kind l.block (id_of l.group l.other number) → ⊥
