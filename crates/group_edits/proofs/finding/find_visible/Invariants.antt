use Rattle.std.proofs.Common.{◌≡◌, drop}
use Rattle.group_edits.specs.Visible.{visible_from}
use Rattle.group_edits.proofs.finding.find_visible.Given as goal

abbrev pub invariant-loop-number : goal.invariant-loop-number
invariant-loop-number l = visible_from l.number l.name (drop l.number l.group.lvs) ≡ visible_from 0 l.name l.group.lvs
