-- The first sectors are copied.
use Rattle.std.proofs.Common.{◌≡◌, ◌<◌, ◌+◌, ℕ, [], slice_index_or}
use Rattle.file_shelf.specs.Bytes.{sector_of}
use Rattle.file_shelf.proofs.copying.gather.Given as goal

abbrev pub invariant-loop-k : goal.invariant-loop-k
invariant-loop-k l = (j : ℕ) → j < l.k → sector_of l.bytes j ≡ slice_index_or l.from (l.at + j) []
