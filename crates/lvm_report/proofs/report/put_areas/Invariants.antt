-- The lines of the areas so far.
use Rattle.std.proofs.Common.{◌≡◌, ◌++◌, flat_map, string_bytes, take}
use Rattle.lvm_report.specs.Report.{area_lines}
use Rattle.lvm_report.proofs.report.put_areas.Given as goal

abbrev pub invariant-loop-area : goal.invariant-loop-area
invariant-loop-area l = string_bytes l.text ≡ string_bytes l.initial.text ++ flat_map area_lines (take l.area-index l.areas)
