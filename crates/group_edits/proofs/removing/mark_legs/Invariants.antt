use Rattle.std.proofs.Common.{◌≡◌, ◌<◌, ◌||◌, ℕ, drop}
use Rattle.std.specs.List.{list_any}
use Rattle.seg_place.specs.Marks.{is_marked}
use Rattle.group_edits.specs.Marking.{leg_names}
use Rattle.group_edits.proofs.removing.mark_legs.Given as goal

abbrev pub invariant-loop-leg : goal.invariant-loop-leg
invariant-loop-leg l =
    (x : ℕ) → x < 1024 → (is_marked l.all x || list_any (leg_names x) (drop l.leg-index l.legs))
    ≡ (is_marked l.fn.all x || list_any (leg_names x) l.legs)
