-- None of those so far does.
use Rattle.std.proofs.Common.{◌≡◌, drop}
use Rattle.std.specs.List.{list_any}
use Rattle.lvm_report.specs.Marks.{names_marked}
use Rattle.lvm_report.proofs.moving.names_marked.Given as goal

abbrev pub invariant-loop-segment : goal.invariant-loop-segment
invariant-loop-segment l = list_any (names_marked l.marked) l.segments ≡ list_any (names_marked l.marked) (drop l.segment-index l.segments)
