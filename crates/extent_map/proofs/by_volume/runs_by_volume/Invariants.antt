use Rattle.std.proofs.Common.{◌≡◌, drop, map}
use Rattle.std.specs.List.{flat_map, range_with_len}
use Rattle.extent_map.specs.ByVolume.{each_with, lists_of}
use Rattle.extent_map.specs.Covered.{lv_on, lvs_on}
use Rattle.extent_map.proofs.by_volume.runs_by_volume.Given as goal

abbrev pub invariant-loop-number : goal.invariant-loop-number
invariant-loop-number l =
    each_with (λ pv. flat_map (lv_on pv) (drop l.number l.lvs)) 0 (lists_of l.buckets.items)
    ≡ map (λ pv. lvs_on pv l.lvs) (range_with_len 0 l.pvs)
