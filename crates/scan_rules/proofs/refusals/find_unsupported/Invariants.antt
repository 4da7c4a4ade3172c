use Rattle.std.proofs.Common.{◌≡◌, drop}
use Rattle.scan_rules.specs.Answers.{unsupported_among, unsupported_disk}
use Rattle.scan_rules.specs.Flat.{refused_on}
use Rattle.scan_rules.proofs.refusals.find_unsupported.Given as goal

abbrev pub invariant-loop-number : goal.invariant-loop-number
invariant-loop-number l = unsupported_among (refused_on l.number (drop l.number l.disks)) ≡ unsupported_disk l.disks
