-- The extents of those so far, which are below 2^48 each.
use Rattle.std.proofs.Common.{◌≡◌, ◌≤◌, ℕ, ◌+◌, ◌*◌, ◌^◌, List, drop, sum_by}
use Rattle.meta_model.specs.declared.pv.Pv.{Pv}
use Rattle.lvm_report.specs.Volumes.{extents_of_group}
use Rattle.lvm_report.proofs.group_line.count_extents.Given as goal

abbrev pub invariant-loop-number : goal.invariant-loop-number
invariant-loop-number l = record {
  counted : l.extents + sum_by (λ (pv : List ℕ × Pv). pv.1.pe_count) (drop l.number l.group.pvs) ≡ extents_of_group l.group;
  few : l.extents ≤ l.number * 2 ^ 48;
}
