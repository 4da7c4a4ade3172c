-- With the segments of the volumes that are left they are all.
use Rattle.std.proofs.Common.{◌≡◌, ◌≤◌, ◌+◌, drop}
use Rattle.std.specs.Prelude.{min, sum_by}
use Rattle.vg_plans.proofs.CountedSegments.{segments}
use Rattle.vg_plans.specs.Limits.{segment_count}
use Rattle.vg_plans.proofs.limits.segment_count.Given as goal

abbrev pub invariant-loop-place : goal.invariant-loop-place
invariant-loop-place l = record {
  fits : l.count ≤ 18446744073709551615;
  all : min (l.count + sum_by segments (drop l.place l.lvs)) 18446744073709551615 ≡ segment_count l.lvs;
}
