use Rattle.std.proofs.Common.{◌≡◌, ◌++◌, drop, map}
use Rattle.change_batches.specs.Batches.{area_put, area_puts}
use Rattle.change_batches.proofs.batches.push_areas.Given as goal

abbrev pub invariant-loop-area : goal.invariant-loop-area
invariant-loop-area l = l.list.items ++ map (area_put l.label.disk) (drop l.area-index l.area-items) ≡ l.fn.list.items ++ area_puts l.label
