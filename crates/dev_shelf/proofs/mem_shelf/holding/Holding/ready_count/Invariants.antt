use Rattle.std.proofs.Common.{◌≡◌, filter, length, not, take}
use Rattle.dev_shelf.specs.RowHolds.{is_held_at}
use Rattle.dev_shelf.proofs.mem_shelf.holding.Holding.ready_count.Given as goal

abbrev pub invariant-loop-op : goal.invariant-loop-op
invariant-loop-op l = l.count ≡ length (filter (λ op. not (is_held_at l.self l.row.steps.items op)) (take l.op-index l.row.in_flight.items))
