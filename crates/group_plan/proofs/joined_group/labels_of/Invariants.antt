use Rattle.std.proofs.Common.{◌≡◌, map}
use Rattle.group_plan.specs.Added.{label_of}
use Rattle.group_plan.proofs.joined_group.labels_of.Given as goal

abbrev pub invariant-loop-added : goal.invariant-loop-added
invariant-loop-added l = l.labels.items ≡ map label_of l.yielded
