use Rattle.std.proofs.Common.{◌≡◌}
use Rattle.shelf_tests.proofs.shelves.complete.Given as goal

abbrev pub invariant-loop : goal.invariant-loop
invariant-loop g l = (g.S.Shelf.state l.shelf).sizes ≡ (g.S.Shelf.state l.fn.shelf).sizes
