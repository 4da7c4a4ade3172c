-- One area is looked at after another.
use Rattle.std.proofs.Common.{◌+◌, List, All, drop, take, sym, subst, ◌∙◌}
use Rattle.std.proofs.lemmas.List.{take_all}
use Rattle.std.proofs.lemmas.List.Elements.{All-push}
use Rattle.std.proofs.lemmas.Result.{err_from_is_err_and}
use Rattle.sector_base.specs.declared.spans.Span.{Span}
use Rattle.disk_model.specs.Since.{HoldsOfDisk}
use Rattle.disk_model.proofs.ReadingAlone.{holds_before, holds_both, holds_weaker}
use Rattle.pv_header.specs.declared.extent_list.Extent.{Extent}
use Rattle.disk_contents.specs.declared.contents.AreaFound.{AreaFound}
use Rattle.disk_contents.specs.Contents.{AreAreasFound, IsAreaFound}
use Rattle.disk_contents.specs.Parts.{ReadsWell}
use Rattle.disk_contents.specs.Reads.{area_spans}
use Rattle.disk_contents.specs.Standing.{HasTextInside}
use Rattle.disk_contents.proofs.AreaList.{all_more, areas_more, spans_all, spans_more}
use Rattle.disk_contents.proofs.ReadingParts.{until_after, until_sooner, until_wanting, well_both}
use Rattle.disk_contents.proofs.area_headers.read_areas.Goals as goal

pub returns-in_err-found-clause-found : goal.returns-in_err-found-clause-found
returns-in_err-found-clause-found g c =
    let before = g.S.Shelf.state c.args.shelf.now in
    let there = g.S.Shelf.state c.loop-area.shelf in
    let after = g.S.Shelf.state c.read_area.new.shelf in
    let areas = c.args.areas.now in
    let i = c.loop-area.area-index in
    let pv = c.args.disk in
    let p = err_from_is_err_and c.from_residual.result c.from_residual.ensures.1 in
    let so_far = area_spans pv (take i areas) in
    let rest = area_spans pv (drop (i + 1) areas) in
    rw (p.1, p.2)
    (until_sooner pv before after _ rest (area_spans pv areas) c.in_err-found.field-0.0 (spans_all pv areas i _ c.loop-area-test.true)
    (until_after pv before there after so_far _ c.in_err-found.field-0.0 c.loop-area.invariant.0 c.in_err-found.ensures.found))

pub returns-in_err-push-clause-found : goal.returns-in_err-push-clause-found
returns-in_err-push-clause-found g c =
    let before = g.S.Shelf.state c.args.shelf.now in
    let there = g.S.Shelf.state c.loop-area.shelf in
    let after = g.S.Shelf.state c.read_area.new.shelf in
    let p = err_from_is_err_and c.from_residual-in_err-push.result c.from_residual-in_err-push.ensures.1 in
    let pv = c.args.disk in
    let areas = c.args.areas.now in
    let i = c.loop-area.area-index in
    let so_far = area_spans pv (take i areas) in
    rw (p.1, p.2)
    (until_wanting pv before after _ (area_spans pv (drop (i + 1) areas)) (area_spans pv areas)
    (spans_all pv areas i _ c.loop-area-test.true)
    (well_both before there after so_far _ c.loop-area.invariant.0 c.in_ok-found.ensures.found.0))

pub loop-area-preserved : goal.loop-area-preserved
loop-area-preserved g c =
    let before = g.S.Shelf.state c.args.shelf.now in
    let there = g.S.Shelf.state c.loop-area.shelf in
    let after = g.S.Shelf.state c.read_area.new.shelf in
    let all = c.loop-area.list.items in
    let found = c.in_ok-found.found in
    let pv = c.args.disk in
    let areas = c.args.areas.now in
    let i = c.loop-area.area-index in
    let so_far = area_spans pv (take i areas) in
    let was : ReadsWell before so_far there = c.loop-area.invariant.0 in
    let here : HoldsOfDisk before.told c.args.disk (λ sector_at. IsAreaFound sector_at found) =
    holds_before before.told there.told so_far pv (λ sector_at. IsAreaFound sector_at found) was.reads c.in_ok-found.ensures.found.2 in (
      subst (λ (l : List Span). ReadsWell before l after) (sym (spans_more pv areas i _ c.loop-area-test.true))
          (well_both before there after so_far _ was c.in_ok-found.ensures.found.0),
      areas_more c.args.areas.now c.loop-area.area-index _ all c.push.new.self.items found c.loop-area-test.true c.loop-area.invariant.1
          c.in_ok-found.ensures.found.1 c.in_ok-push.ensures.items,
      holds_both before.told c.args.disk (λ sector_at. All (IsAreaFound sector_at) all) (λ sector_at. IsAreaFound sector_at found)
          (λ sector_at. All (IsAreaFound sector_at) c.push.new.self.items)
          (λ sector_at each is. all_more sector_at all c.push.new.self.items found c.in_ok-push.ensures.items each is)
          c.loop-area.invariant.2 here,
      subst (λ (l : List AreaFound). All HasTextInside l) (sym c.in_ok-push.ensures.items)
          (All-push HasTextInside all found c.loop-area.invariant.3 c.in_ok-found.ensures.inside),
    )

pub returns-clause-found : goal.returns-clause-found
returns-clause-found g c =
    let areas = c.args.areas.now in
    let all = c.loop-area.list.items in
    let order = c.loop-area.invariant.1 ∙ take_all c.loop-area.area-index areas c.loop-area-test.false in (
      subst (λ (l : List Extent). ReadsWell (g.S.Shelf.state c.args.shelf.now) (area_spans c.args.disk l) (g.S.Shelf.state c.loop-area.shelf))
          (take_all c.loop-area.area-index areas c.loop-area-test.false) c.loop-area.invariant.0,
      holds_weaker (g.S.Shelf.state c.args.shelf.now).told c.args.disk (λ sector_at. All (IsAreaFound sector_at) all)
          (λ sector_at. AreAreasFound sector_at areas c.from_vec.result)
          (λ sector_at each. subst (λ (l : List AreaFound). AreAreasFound sector_at areas l) (sym c.from_vec.ensures)
          (record { in_order = order; each = each }))
          c.loop-area.invariant.2,
    )
