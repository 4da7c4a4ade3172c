-- The rows so far.
use Rattle.std.proofs.Common.{◌≡◌, map, take}
use Rattle.group_edits.specs.LongerVolume.{longer_row}
use Rattle.group_edits.specs.NextVersion.{changed_if}
use Rattle.group_edits.proofs.lengthen.longer_lvs.Given as goal

abbrev pub invariant-loop-number : goal.invariant-loop-number
invariant-loop-number l = l.all ≡ map (changed_if l.name (longer_row l.given)) (take l.number l.lvs)
