use Rattle.std.proofs.Common.{◌≡◌}
use Rattle.pv_header.specs.Areas.{first_overlap}
use Rattle.pv_header.proofs.Overlaps.{overlap_from}
use Rattle.pv_header.proofs.checks.find_overlap.Given as goal

abbrev pub invariant-loop-i : goal.invariant-loop-i
invariant-loop-i l = first_overlap l.areas l.disk_bytes ≡ overlap_from l.areas l.disk_bytes l.i
