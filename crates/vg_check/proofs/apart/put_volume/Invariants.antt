use Rattle.std.proofs.Common.{take}
use Rattle.vg_check.specs.SortedRuns.{volume_runs, Puts}
use Rattle.vg_check.proofs.apart.put_volume.Given as goal

abbrev pub invariant-loop-segment : goal.invariant-loop-segment
invariant-loop-segment l = Puts l.fn.runs l.fn.count (volume_runs (take l.segment-index l.segments)) l.runs l.count
