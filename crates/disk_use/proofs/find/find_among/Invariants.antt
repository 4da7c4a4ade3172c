-- The disks so far were looked at.
use Rattle.disk_use.proofs.Finding.{AreLookedAt}
use Rattle.disk_use.proofs.find.find_among.Given as goal

abbrev pub invariant-loop-disk : goal.invariant-loop-disk
invariant-loop-disk g l = AreLookedAt l.new (g.S.Shelf.state l.initial.shelf) l.taken l.disk-index l.marked.items (g.S.Shelf.state l.shelf)
