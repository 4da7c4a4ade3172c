use Rattle.std.proofs.Common.{◌≡◌, drop}
use Rattle.std.specs.List.{list_any}
use Rattle.scan_rules.specs.Decision.{gives}
use Rattle.scan_rules.specs.Readings.{given_by}
use Rattle.scan_rules.proofs.texts.has_area.Given as goal

abbrev pub invariant-loop-area : goal.invariant-loop-area
invariant-loop-area l =
    list_any (gives l.copy.text) (given_by l.copies (drop l.area-index l.areas)) ≡ list_any (gives l.copy.text) (given_by l.copies l.areas)
