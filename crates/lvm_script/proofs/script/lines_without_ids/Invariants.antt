use Rattle.std.proofs.Common.{length, map}
use Rattle.lvm_script.specs.Script.{numbered}
use Rattle.lvm_script.proofs.ScriptLines.{ReadSoFar}
use Rattle.lvm_script.proofs.script.lines_without_ids.Given as goal

abbrev pub invariant-loop-rest : goal.invariant-loop-rest
invariant-loop-rest l = ReadSoFar l.text l.rest l.number l.sectors (map numbered l.lines.items)

abbrev pub decreases-loop-rest : goal.decreases-loop-rest
decreases-loop-rest l = length l.rest
