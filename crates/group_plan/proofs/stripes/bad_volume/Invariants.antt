use Rattle.std.proofs.Common.{◌≡◌, ℕ, List, drop, map}
use Rattle.meta_model.specs.declared.lv.Lv.{Lv}
use Rattle.group_plan.specs.Judging.{first_refusal}
use Rattle.group_plan.specs.Stripes.{segments_row, stripes_row}
use Rattle.group_plan.proofs.stripes.bad_volume.Given as goal

abbrev pub invariant-loop-place : goal.invariant-loop-place
invariant-loop-place l =
    first_refusal (map (λ (lv : List ℕ × Lv). segments_row l.group.extent_size lv.1.segments) (drop l.place l.group.lvs))
    ≡ stripes_row l.group
