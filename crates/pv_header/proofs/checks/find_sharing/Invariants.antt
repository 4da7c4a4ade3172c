use Rattle.std.proofs.Common.{◌≡◌, drop, find}
use Rattle.pv_header.specs.Areas.{shares_byte}
use Rattle.pv_header.proofs.checks.find_sharing.Given as goal

abbrev pub invariant-loop-other : goal.invariant-loop-other
invariant-loop-other l =
    find (shares_byte l.areas l.disk_bytes l.area) (drop l.other-index l.other-items)
    ≡ find (shares_byte l.areas l.disk_bytes l.area) l.other-items
