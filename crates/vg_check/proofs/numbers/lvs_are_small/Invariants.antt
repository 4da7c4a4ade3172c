-- The rows so far have small numbers.
use Rattle.std.proofs.Common.{List, ℕ, All, take}
use Rattle.meta_model.specs.declared.lv.Lv.{Lv}
use Rattle.volume_rules.specs.Rules.{LvIsSmall}
use Rattle.vg_check.proofs.numbers.lvs_are_small.Given as goal

abbrev pub invariant-loop-number : goal.invariant-loop-number
invariant-loop-number l = All (λ (row : List ℕ × Lv). LvIsSmall row.1) (take l.number l.lvs)
