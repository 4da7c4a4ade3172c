use Rattle.std.proofs.Common.{◌≡◌, ◌++◌}
use Rattle.std.specs.Prelude.{filter_map}
use Rattle.scan_rules.specs.Flat.{refused_in}
use Rattle.scan_rules.proofs.refusals.push_refusals.Given as goal

abbrev pub invariant-loop-area : goal.invariant-loop-area
invariant-loop-area l = l.refused.items ≡ l.fn.refused.items ++ filter_map (refused_in l.disk) l.yielded
