use Rattle.std.proofs.Common.{◌≡◌, ℕ, ◌+◌, ◌-◌, length, slice_index_or, []}
use Rattle.std.specs.Prelude.{nat_le, nat_lt, ◌&&◌, if◌then◌else◌}
use Rattle.sector_base.proofs.sector_list.Sectors.copy_in.Given as goal

abbrev pub invariant-loop-k : goal.invariant-loop-k
invariant-loop-k l = record {
  len : length l.self ≡ length l.fn.self;
  each : (s : ℕ) → slice_index_or l.self s []
      ≡ (if nat_le l.first s && nat_lt s (l.first + l.k) then slice_index_or l.from (s - l.first) [] else slice_index_or l.fn.self s []);
}
