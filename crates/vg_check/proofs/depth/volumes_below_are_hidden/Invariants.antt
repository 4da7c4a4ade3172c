use Rattle.std.proofs.Common.{◌≡◌, ℕ, ◌<◌, List, Some}
use Rattle.std.specs.Prelude.{All, slice_get}
use Rattle.meta_model.specs.declared.lv.Lv.{Lv}
use Rattle.vg_check.specs.Hidden.{LegsAreHidden}
use Rattle.vg_check.proofs.depth.volumes_below_are_hidden.Given as goal

abbrev pub invariant-loop-number : goal.invariant-loop-number
invariant-loop-number l =
    (n : ℕ) (row : List ℕ × Lv) → n < l.number → slice_get l.group.lvs n ≡ Some row → All (LegsAreHidden l.group) row.1.segments
