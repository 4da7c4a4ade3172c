use Rattle.std.proofs.Common.{◌≡◌, ◌++◌, drop}
use Rattle.std.specs.Prelude.{filter_map}
use Rattle.vg_found.specs.Disks.{held_area}
use Rattle.vg_found.proofs.areas.push_held.Given as goal

abbrev pub invariant-loop-found : goal.invariant-loop-found
invariant-loop-found l =
    l.held.items ++ filter_map (held_area l.disk) (drop l.found-index l.areas) ≡ l.fn.held.items ++ filter_map (held_area l.disk) l.areas
