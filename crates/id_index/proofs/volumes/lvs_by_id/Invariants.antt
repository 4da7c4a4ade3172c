use Rattle.std.proofs.Common.{◌≡◌, drop}
use Rattle.id_index.specs.Ids.{lvs_by_id}
use Rattle.id_index.proofs.volumes.lvs_by_id.Given as goal

abbrev pub invariant-loop-number : goal.invariant-loop-number
invariant-loop-number l = l.numbers ≡ lvs_by_id l.number (drop l.number l.lvs)
