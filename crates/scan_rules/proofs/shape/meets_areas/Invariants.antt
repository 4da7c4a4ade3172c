use Rattle.std.proofs.Common.{◌≡◌, [], drop}
use Rattle.std.specs.Prelude.{map}
use Rattle.std.specs.List.{list_any}
use Rattle.scan_rules.specs.Decision.{meets_area}
use Rattle.scan_rules.specs.Readings.{area_of}
use Rattle.scan_rules.proofs.shape.meets_areas.Given as goal

abbrev pub invariant-loop-area : goal.invariant-loop-area
invariant-loop-area l =
    list_any (meets_area l.start l.end) (map (area_of []) (drop l.area-index l.areas))
    ≡ list_any (meets_area l.start l.end) (map (area_of []) l.areas)
