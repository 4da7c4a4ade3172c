use Rattle.std.proofs.Common.{◌≡◌, false}
use Rattle.conf_text.specs.Scan.{Between, scan_at}
use Rattle.conf_text.proofs.scan.gap_end.Given as goal

abbrev pub invariant-loop-at : goal.invariant-loop-at
invariant-loop-at l = scan_at l.text (Between false) l.from ≡ scan_at l.text (Between l.comment) l.at
