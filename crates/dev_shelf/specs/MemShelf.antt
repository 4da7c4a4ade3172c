-- What is known of a shelf in memory: its state, and what is left of its plan.
use Rattle.std.specs.Prelude.{drop}
use Rattle.dev_shelf.specs.declared.mem_shelf.MemShelf.{MemShelf}
use Rattle.disk_model.specs.State.{State}
use Rattle.dev_shelf.specs.Plan.{PlanLeft, held_back}
use Rattle.dev_shelf.specs.DiskRow.{state_of}

-- the picks to come, the planned failures, what is held back, and what was let go
abbrev pub plan_left : MemShelf → PlanLeft
plan_left shelf = record {
  picks = drop shelf.picked shelf.picks.items;
  fails = shelf.row.fails.items;
  holds = shelf.holding.holds.items;
  limit = shelf.holding.limit;
  vain = shelf.holding.vain;
  let_go = shelf.holding.let_go;
  forced = shelf.holding.forced;
}

-- the state of the shelf, as every layer above sees it: of what the row has in flight all is ready that isn't held
abbrev pub state_of_shelf : MemShelf → State
state_of_shelf shelf = held_back (plan_left shelf) (state_of shelf.row)
