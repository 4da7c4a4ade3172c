use Rattle.std.proofs.Common.{◌≡◌, drop}
use Rattle.id_index.specs.Ids.{pvs_by_id}
use Rattle.id_index.proofs.volumes.pvs_by_id.Given as goal

abbrev pub invariant-loop-number : goal.invariant-loop-number
invariant-loop-number l = l.numbers ≡ pvs_by_id l.number (drop l.number l.pvs)
