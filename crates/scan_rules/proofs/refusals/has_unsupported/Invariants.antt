use Rattle.std.proofs.Common.{◌≡◌, drop}
use Rattle.std.specs.List.{list_any}
use Rattle.scan_rules.specs.Flat.{is_unsupported}
use Rattle.scan_rules.proofs.refusals.has_unsupported.Given as goal

abbrev pub invariant-loop-area : goal.invariant-loop-area
invariant-loop-area l = list_any is_unsupported (drop l.area-index l.areas) ≡ list_any is_unsupported l.areas
