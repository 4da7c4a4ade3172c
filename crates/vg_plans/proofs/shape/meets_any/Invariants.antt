use Rattle.std.proofs.Common.{◌≡◌, drop, map}
use Rattle.std.specs.List.{list_any}
use Rattle.scan_rules.specs.Decision.{meets_area}
use Rattle.vg_found.specs.Disks.{area_shape}
use Rattle.vg_plans.proofs.shape.meets_any.Given as goal

abbrev pub invariant-loop-area : goal.invariant-loop-area
invariant-loop-area l =
    list_any (meets_area l.start l.end) (map area_shape (drop l.area-index l.areas))
    ≡ list_any (meets_area l.start l.end) (map area_shape l.areas)
