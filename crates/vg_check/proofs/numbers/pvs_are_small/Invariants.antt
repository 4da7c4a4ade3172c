-- The rows so far have small numbers.
use Rattle.std.proofs.Common.{List, ℕ, All, take}
use Rattle.meta_model.specs.declared.pv.Pv.{Pv}
use Rattle.volume_rules.specs.Rules.{PvIsSmall}
use Rattle.vg_check.proofs.numbers.pvs_are_small.Given as goal

abbrev pub invariant-loop-number : goal.invariant-loop-number
invariant-loop-number l = All (λ (row : List ℕ × Pv). PvIsSmall row.1) (take l.number l.pvs)
