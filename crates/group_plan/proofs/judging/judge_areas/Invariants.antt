use Rattle.std.proofs.Common.{◌≡◌, drop}
use Rattle.std.specs.List.{list_any}
use Rattle.group_plan.specs.Judging.{lies_on, set_of}
use Rattle.group_plan.proofs.judging.judge_areas.Given as goal

abbrev pub invariant-loop-area : goal.invariant-loop-area
invariant-loop-area l = record {
  set : l.members ≡ set_of l.disks;
  none : list_any (lies_on (set_of l.disks)) (drop l.area-index l.areas) ≡ list_any (lies_on (set_of l.disks)) l.areas;
}
