use Rattle.std.proofs.Common.{◌≡◌, ◌++◌, drop}
use Rattle.std.specs.Prelude.{filter_map}
use Rattle.scan_rules.specs.Flat.{held_in}
use Rattle.scan_rules.proofs.held.push_held.Given as goal

abbrev pub invariant-loop-area : goal.invariant-loop-area
invariant-loop-area l =
    l.held.items ++ filter_map (held_in l.disk) (drop l.area-index l.areas) ≡ l.fn.held.items ++ filter_map (held_in l.disk) l.areas
