use Rattle.std.proofs.Common.{ℕ, List, take}
use Rattle.std.specs.List.{flat_map}
use Rattle.meta_model.specs.declared.lv.Lv.{Lv}
use Rattle.vg_check.specs.SortedRuns.{volume_runs, Puts}
use Rattle.vg_check.proofs.apart.put_group.Given as goal

abbrev pub invariant-loop-number : goal.invariant-loop-number
invariant-loop-number l =
    Puts l.fn.runs 0 (flat_map (λ (row : List ℕ × Lv). volume_runs row.1.segments) (take l.number l.group.lvs)) l.runs l.count
