use Rattle.std.proofs.Common.{◌≡◌, ◌++◌, drop}
use Rattle.std.specs.List.{enumerate_from, filter_map}
use Rattle.group_plan.specs.Cleared.{marked_label, marked_labels}
use Rattle.change_batches.proofs.marked_labels.marked_labels.Given as goal

abbrev pub invariant-loop-number : goal.invariant-loop-number
invariant-loop-number l =
    l.labels.items ++ filter_map (marked_label l.in_use l.among) (enumerate_from l.number (drop l.number l.disks))
    ≡ marked_labels l.in_use l.among l.disks
