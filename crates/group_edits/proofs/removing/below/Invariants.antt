use Rattle.std.proofs.Common.{◌≡◌, ◌<◌, ◌-◌, ◌||◌, ℕ, length}
use Rattle.std.specs.List.{list_any, range_with_len}
use Rattle.seg_place.specs.Marks.{is_marked}
use Rattle.group_edits.specs.Marking.{holds}
use Rattle.group_edits.specs.Removing.{lv_numbers}
use Rattle.group_edits.proofs.removing.below.Given as goal

abbrev pub invariant-loop-number : goal.invariant-loop-number
invariant-loop-number l =
    (lv : ℕ) → lv < 1024 → (is_marked l.all lv
    || list_any (holds l.group l.skipped lv) (range_with_len l.number (length l.group.lvs - l.number)))
    ≡ list_any (holds l.group l.skipped lv) (lv_numbers l.group)
