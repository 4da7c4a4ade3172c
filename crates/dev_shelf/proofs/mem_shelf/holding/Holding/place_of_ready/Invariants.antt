use Rattle.std.proofs.Common.{◌≡◌, ◌+◌, filter, length, not, take}
use Rattle.dev_shelf.specs.RowHolds.{is_held_at}
use Rattle.dev_shelf.proofs.mem_shelf.holding.Holding.place_of_ready.Given as goal

abbrev pub invariant-loop-at : goal.invariant-loop-at
invariant-loop-at l =
    length (filter (λ op. not (is_held_at l.self l.row.steps.items op)) (take l.at l.row.in_flight.items)) + l.left ≡ l.number
