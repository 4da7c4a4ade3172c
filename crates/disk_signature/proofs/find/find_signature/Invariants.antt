-- Nothing failed, and the first row that stands is among those that are left.
use Rattle.std.proofs.Common.{drop}
use Rattle.disk_signature.proofs.Passing.{IsLeft, Read}
use Rattle.disk_signature.proofs.find.find_signature.Given as goal

abbrev pub invariant-loop-row : goal.invariant-loop-row
invariant-loop-row g l =
    Read (g.S.Shelf.state l.initial.shelf) (g.S.Shelf.state l.shelf)
    × IsLeft l.disk (g.S.Shelf.state l.initial.shelf) (drop l.row-index l.rows)
