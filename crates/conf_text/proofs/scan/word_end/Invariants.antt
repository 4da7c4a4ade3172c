use Rattle.std.proofs.Common.{◌≡◌, ◌+◌}
use Rattle.conf_text.specs.Scan.{InWord, scan_at}
use Rattle.conf_text.proofs.scan.word_end.Given as goal

abbrev pub invariant-loop-at : goal.invariant-loop-at
invariant-loop-at l = scan_at l.text (InWord l.from) (l.from + 1) ≡ scan_at l.text (InWord l.from) l.at
