-- The areas so far were looked at, and nothing failed.
use Rattle.std.proofs.Common.{◌≡◌, All, map, take}
use Rattle.disk_contents.specs.declared.contents.AreaFound.{AreaFound}
use Rattle.disk_contents.specs.Contents.{IsAreaFound}
use Rattle.disk_model.specs.Since.{HoldsOfDisk}
use Rattle.disk_contents.specs.Parts.{ReadsWell}
use Rattle.disk_contents.specs.Reads.{area_spans}
use Rattle.disk_contents.specs.Standing.{HasTextInside}
use Rattle.disk_contents.proofs.area_headers.read_areas.Given as goal

abbrev pub invariant-loop-area : goal.invariant-loop-area
invariant-loop-area g l =
    ReadsWell (g.S.Shelf.state l.initial.shelf) (area_spans l.disk (take l.area-index l.areas)) (g.S.Shelf.state l.shelf)
    × (map (λ (found : AreaFound). found.area) l.list.items ≡ take l.area-index l.areas)
    × HoldsOfDisk (g.S.Shelf.state l.initial.shelf).told l.disk (λ sector_at. All (IsAreaFound sector_at) l.list.items)
    × All HasTextInside l.list.items
