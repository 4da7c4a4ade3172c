use Rattle.std.proofs.Common.{◌≡◌, ◌++◌, drop, filter}
use Rattle.extent_alloc.specs.AllRuns.{has_room_at}
use Rattle.extent_alloc.proofs.more_legs.with_room.Given as goal

abbrev pub invariant-loop-pv : goal.invariant-loop-pv
invariant-loop-pv l = l.fit.items ++ filter (has_room_at l.all l.want) (drop l.pv-index l.pvs) ≡ filter (has_room_at l.all l.want) l.pvs
