use Rattle.std.proofs.Common.{◌≡◌, ℕ}
use Rattle.seg_place.specs.Marks.{is_marked}
use Rattle.seg_place.proofs.MarkedVolumes.{marked_after}
use Rattle.seg_place.proofs.moving.is_moving.Given as goal

abbrev pub invariant-loop-round : goal.invariant-loop-round
invariant-loop-round l = (lv : ℕ) → is_marked l.marks lv ≡ marked_after l.group l._round lv
