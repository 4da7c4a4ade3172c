use Rattle.std.proofs.Common.{◌≡◌, drop}
use Rattle.std.specs.List.{list_any}
use Rattle.scan_rules.specs.Flat.{holds_something}
use Rattle.scan_rules.proofs.strays.hold_something.Given as goal

abbrev pub invariant-loop-area : goal.invariant-loop-area
invariant-loop-area l = list_any holds_something (drop l.area-index l.areas) ≡ list_any holds_something l.areas
