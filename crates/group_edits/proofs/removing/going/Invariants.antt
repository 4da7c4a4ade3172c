use Rattle.std.proofs.Common.{◌≡◌, ◌≤◌, ◌<◌, ℕ, false}
use Rattle.seg_place.specs.Marks.{is_marked}
use Rattle.group_edits.specs.Removing.{goes_with}
use Rattle.group_edits.proofs.removing.going.Given as goal

abbrev pub invariant-loop-round : goal.invariant-loop-round
invariant-loop-round l =
    ((lv : ℕ) → lv < 1024 → is_marked l.goes lv ≡ goes_with l.group l.removed l._round lv)
    × ((lv : ℕ) → 1024 ≤ lv → is_marked l.goes lv ≡ false)
