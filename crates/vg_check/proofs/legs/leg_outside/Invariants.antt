use Rattle.std.proofs.Common.{◌≡◌, ℕ, ◌<◌, List, Some, slice_get}
use Rattle.std.specs.Prelude.{All}
use Rattle.meta_model.specs.declared.lv.Lv.{Lv}
use Rattle.vg_check.specs.Outside.{LegsLieInside}
use Rattle.vg_check.proofs.legs.leg_outside.Given as goal

abbrev pub invariant-loop-number : goal.invariant-loop-number
invariant-loop-number l =
    (n : ℕ) (row : List ℕ × Lv) → n < l.number → slice_get l.group.lvs n ≡ Some row → All (LegsLieInside l.group) row.1.segments
