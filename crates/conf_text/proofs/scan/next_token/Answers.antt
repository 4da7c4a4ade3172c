use Rattle.std.proofs.Common.{false, ◌∙◌, arith}
use Rattle.conf_text.specs.Scan.{Between}
use Rattle.conf_text.proofs.ScanBytes.{scan_end}
use Rattle.conf_text.proofs.scan.next_token.Goals as goal

pub returns-then-at-text-clause-found : goal.returns-then-at-text-clause-found
returns-then-at-text-clause-found c = c.in_ok-at.ensures.found ∙ scan_end c.args.text.now (Between false) c.in_ok-at.at (omega arith)
