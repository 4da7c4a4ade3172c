use Rattle.std.proofs.Common.{◌≡◌, drop}
use Rattle.std.specs.List.{flat_map, list_any}
use Rattle.extent_map.specs.Covered.{is_in, lv_on}
use Rattle.extent_map.proofs.used_extents.volumes_have.Given as goal

abbrev pub invariant-loop-number : goal.invariant-loop-number
invariant-loop-number l =
    list_any (is_in l.extent) (flat_map (lv_on l.pv) l.lvs) ≡ list_any (is_in l.extent) (flat_map (lv_on l.pv) (drop l.number l.lvs))
