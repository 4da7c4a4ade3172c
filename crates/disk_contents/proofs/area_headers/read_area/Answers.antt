-- The sector that was read is the area's.
use Rattle.std.proofs.Common.{◌≡◌, ◌/◌}
use Rattle.disk_contents.specs.Contents.{IsAreaFound}
use Rattle.disk_contents.proofs.AreaList.{area_found}
use Rattle.disk_model.proofs.ReadingAlone.{holds_weaker}
use Rattle.disk_contents.proofs.area_headers.read_area.Goals as goal

pub returns-clause-found : goal.returns-clause-found
returns-clause-found g c =
    let area = c.args.area in (
      c.in_ok-sector.ensures.0,
      c.look.ensures.area,
      holds_weaker (g.S.Shelf.state c.args.shelf.now).told c.args.disk (λ sector_at. c.in_ok-sector.sector ≡ sector_at (area.offset / 512))
          (λ sector_at. IsAreaFound sector_at c.look.result)
          (λ sector_at at. area_found sector_at c.look.result area c.in_ok-sector.sector c.look.ensures.area c.look.ensures.header
          c.look.ensures.entry at) c.in_ok-sector.ensures.1,
    )
