-- The header sector of each area is one of the disk's.
use Rattle.std.proofs.Common.{◌<◌, ◌/◌, List, All, slice_index_or, subst, sym, ◌∙◌}
use Rattle.pv_header.specs.declared.extent_list.Extent.{Extent}
use Rattle.disk_contents.proofs.AreaList.{areas_within}
use Rattle.disk_contents.proofs.Usable.{all_usable}
use Rattle.disk_contents.proofs.find.find_areas.Goals as goal

pub read_areas-requires-clause-within : goal.read_areas-requires-clause-within
read_areas-requires-clause-within g c =
    let disk = slice_index_or (g.S.Shelf.state c.args.shelf.now).sizes c.args.disk 0 in
    subst (λ (l : List Extent). All (λ area. area.offset / 512 < disk) l) (sym c.as_slice.ensures)
    (areas_within c.args.header.data_areas c.args.header.areas disk c.requires.lie)

pub returns-clause-stands : goal.returns-clause-stands
returns-clause-stands g c =
    let disk = slice_index_or (g.S.Shelf.state c.args.shelf.now).sizes c.args.disk 0 in
    let header = c.args.header in
    let all = c.in_ok-areas.areas in
    let order = c.in_ok-areas.ensures.areas ∙ c.as_slice.ensures in (
      c.requires.among,
      c.requires.read,
      order,
      all_usable c.args.disk disk header.data_areas header.areas all c.requires.lie c.requires.most order c.in_ok-areas.ensures.inside,
    )
