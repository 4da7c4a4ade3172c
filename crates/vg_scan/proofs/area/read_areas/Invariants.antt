-- The areas so far were read, and nothing failed.
use Rattle.std.proofs.Common.{◌≡◌, length, map, take}
use Rattle.disk_model.specs.Since.{HoldsOfDisk}
use Rattle.disk_contents.specs.Parts.{ReadsWell}
use Rattle.scan_rules.specs.Readings.{area_of}
use Rattle.vg_scan.specs.Collected.{Continues}
use Rattle.vg_scan.specs.Readings.{AreAreaReadings}
use Rattle.vg_scan.specs.Shapes.{AreasGiveAtMost, HavePlaces}
use Rattle.vg_scan.specs.TextReads.{text_spans_in}
use Rattle.vg_scan.proofs.area.read_areas.Given as goal

abbrev pub invariant-loop-found : goal.invariant-loop-found
invariant-loop-found g l =
    ReadsWell (g.S.Shelf.state l.initial.shelf) (text_spans_in l.disk (take l.found-index l.areas)) (g.S.Shelf.state l.shelf)
    × HoldsOfDisk (g.S.Shelf.state l.initial.shelf).told l.disk
    (λ sector_at. AreAreaReadings l.disk sector_at (take l.found-index l.areas) (map (area_of l.collected.copies) l.all.items))
    × HavePlaces (take l.found-index l.areas) (map (area_of l.collected.copies) l.all.items)
    × AreasGiveAtMost (length l.collected.copies) l.all.items
    × Continues l.initial.collected.copies l.collected.copies
    × (l.collected.disks ≡ l.initial.collected.disks)
