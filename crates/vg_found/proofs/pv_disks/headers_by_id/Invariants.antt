use Rattle.std.proofs.Common.{◌≡◌, drop}
use Rattle.vg_found.specs.Disks.{headers_by_id}
use Rattle.vg_found.proofs.pv_disks.headers_by_id.Given as goal

abbrev pub invariant-loop-number : goal.invariant-loop-number
invariant-loop-number l = l.by_id ≡ headers_by_id l.number (drop l.number l.disks)
