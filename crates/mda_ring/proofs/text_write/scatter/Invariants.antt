use Rattle.std.proofs.Common.{◌≡◌}
use Rattle.mda_ring.specs.Texts.{text_sectors}
use Rattle.mda_ring.proofs.text_write.scatter.Given as goal

abbrev pub invariant-loop-k : goal.invariant-loop-k
invariant-loop-k l = l.list.items ≡ text_sectors l.bytes l.k
