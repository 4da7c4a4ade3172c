-- How many segments the volumes so far have, each at least one.
use Rattle.std.proofs.Common.{◌≡◌, ◌≤◌, List, ℕ, length, sum_by, All, take}
use Rattle.meta_model.specs.declared.lv.Lv.{Lv}
use Rattle.vg_check.proofs.counts.lvs_have_few_segments.Given as goal

abbrev pub invariant-loop-number : goal.invariant-loop-number
invariant-loop-number l = record {
  counted : l.total ≡ sum_by (λ (row : List ℕ × Lv). length row.1.segments) (take l.number l.lvs);
  few : l.total ≤ 16384;
  some : All (λ (row : List ℕ × Lv). 1 ≤ length row.1.segments) (take l.number l.lvs);
}
