use Rattle.std.proofs.Common.{[], take}
use Rattle.dev_shelf.specs.DiskRow.{steps_onto}
use Rattle.dev_shelf.specs.RowValues.{IsSeen}
use Rattle.dev_shelf.proofs.mem_shelf.values.is_dropped_at.Given as goal

abbrev pub invariant-loop-i : goal.invariant-loop-i
invariant-loop-i l = IsSeen l.seen (steps_onto l.written.items [] (take l.i l.steps.items)) l.flush l.disk l.sector l.write
