use Rattle.std.proofs.Common.{◌≡◌, ℕ, ◌+◌, ◌<◌, length, slice_index_or, []}
use Rattle.sector_base.proofs.sector_list.Sectors.fill_from.Given as goal

abbrev pub invariant-loop-k : goal.invariant-loop-k
invariant-loop-k l = record {
  len : length l.self ≡ length l.fn.self;
  each : (s : ℕ) → s < l.k → slice_index_or l.self s [] ≡ slice_index_or l.from (l.first + s) [];
}
