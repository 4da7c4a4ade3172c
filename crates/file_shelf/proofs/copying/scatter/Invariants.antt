-- The first sectors are copied, and the others are as before.
use Rattle.std.proofs.Common.{◌≡◌, ◌+◌, ◌-◌, ◌&&◌, ℕ, [], length, slice_index_or, nat_le, nat_lt, if◌then◌else◌}
use Rattle.file_shelf.specs.Bytes.{sector_of}
use Rattle.file_shelf.proofs.copying.scatter.Given as goal

abbrev pub invariant-loop-k : goal.invariant-loop-k
invariant-loop-k l = record {
  len : length l.into ≡ length l.initial.into;
  each : (s : ℕ) → slice_index_or l.into s [] ≡ (if nat_le l.at s && nat_lt s (l.at + l.k)
      then sector_of l.bytes (s - l.at) else slice_index_or l.initial.into s []);
}
