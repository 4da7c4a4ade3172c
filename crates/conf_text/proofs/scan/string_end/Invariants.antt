use Rattle.std.proofs.Common.{◌≡◌, ◌+◌, false}
use Rattle.conf_text.specs.Scan.{InString, scan_at}
use Rattle.conf_text.proofs.scan.string_end.Given as goal

abbrev pub invariant-loop-at : goal.invariant-loop-at
invariant-loop-at l = scan_at l.text (InString false l.from) (l.from + 1) ≡ scan_at l.text (InString l.slash l.from) l.at
