-- One area is read after another.
use Rattle.std.proofs.Common.{◌+◌, List, drop, map, take, sym, subst, ◌∙◌}
use Rattle.std.proofs.lemmas.List.{take_all}
use Rattle.std.proofs.lemmas.Result.{err_from_is_err_and}
use Rattle.sector_base.specs.declared.spans.Span.{Span}
use Rattle.disk_model.specs.Since.{HoldsOfDisk}
use Rattle.disk_contents.specs.declared.contents.AreaFound.{AreaFound}
use Rattle.disk_contents.specs.Parts.{ReadsWell}
use Rattle.disk_contents.proofs.ReadingParts.{until_after, until_sooner, until_wanting, well_both}
use Rattle.scan_rules.specs.Readings.{area_of}
use Rattle.vg_scan.specs.Readings.{AreAreaReadings}
use Rattle.vg_scan.specs.Shapes.{HavePlaces}
use Rattle.vg_scan.specs.TextReads.{text_spans_in}
use Rattle.vg_scan.proofs.AreaLists.{numbers_grown, places_grown, readings_grown, text_spans_all, text_spans_more}
use Rattle.vg_scan.proofs.Continued.{continues_both}
use Rattle.vg_scan.proofs.area.read_areas.Goals as goal

pub returns-in_err-area-clause-reads : goal.returns-in_err-area-clause-reads
returns-in_err-area-clause-reads g c =
    let before = g.S.Shelf.state c.args.shelf.now in
    let there = g.S.Shelf.state c.loop-found.shelf in
    let after = g.S.Shelf.state c.read_area.new.shelf in
    let areas = c.args.areas.now in
    let i = c.loop-found.found-index in
    let pv = c.args.disk in
    let p = err_from_is_err_and c.from_residual.result c.from_residual.ensures.1 in
    let so_far = text_spans_in pv (take i areas) in
    let rest = text_spans_in pv (drop (i + 1) areas) in
    rw (p.1, p.2)
    (until_sooner pv before after _ rest (text_spans_in pv areas) c.in_err-area.field-0.0
    (text_spans_all pv areas i _ c.loop-found-test.true)
    (until_after pv before there after so_far _ c.in_err-area.field-0.0 c.loop-found.invariant.0 c.in_err-area.ensures.reads))

pub returns-in_err-area-clause-continues : goal.returns-in_err-area-clause-continues
returns-in_err-area-clause-continues g c =
    continues_both c.args.collected.now.copies c.loop-found.collected.copies c.read_area.new.collected.copies c.loop-found.invariant.4
    c.read_area.ensures.continues

pub returns-in_err-push-clause-reads : goal.returns-in_err-push-clause-reads
returns-in_err-push-clause-reads g c =
    let before = g.S.Shelf.state c.args.shelf.now in
    let there = g.S.Shelf.state c.loop-found.shelf in
    let after = g.S.Shelf.state c.read_area.new.shelf in
    let p = err_from_is_err_and c.from_residual-in_err-push.result c.from_residual-in_err-push.ensures.1 in
    let pv = c.args.disk in
    let areas = c.args.areas.now in
    let i = c.loop-found.found-index in
    let so_far = text_spans_in pv (take i areas) in
    rw (p.1, p.2)
    (until_wanting pv before after _ (text_spans_in pv (drop (i + 1) areas)) (text_spans_in pv areas)
    (text_spans_all pv areas i _ c.loop-found-test.true)
    (well_both before there after so_far _ c.loop-found.invariant.0 c.in_ok-area.ensures.reads))

pub returns-in_err-push-clause-continues : goal.returns-in_err-push-clause-continues
returns-in_err-push-clause-continues g c =
    continues_both c.args.collected.now.copies c.loop-found.collected.copies c.read_area.new.collected.copies c.loop-found.invariant.4
    c.read_area.ensures.continues

pub loop-found-preserved : goal.loop-found-preserved
loop-found-preserved g c =
    let before = g.S.Shelf.state c.args.shelf.now in
    let there = g.S.Shelf.state c.loop-found.shelf in
    let after = g.S.Shelf.state c.read_area.new.shelf in
    let all = c.loop-found.all.items in
    let new = c.push.new.self.items in
    let area = c.in_ok-area.area in
    let pv = c.args.disk in
    let areas = c.args.areas.now in
    let i = c.loop-found.found-index in
    let so_far = text_spans_in pv (take i areas) in
    let was = c.loop-found.invariant.0 in
    let old_copies = c.loop-found.collected.copies in
    let new_copies = c.read_area.new.collected.copies in
    let within = c.loop-found-test.true in
    let goes_on = c.read_area.ensures.continues in
    let pushed = c.in_ok-push.ensures.items in
    let numbers = c.loop-found.invariant.3 in (
      subst (λ (l : List Span). ReadsWell before l after) (sym (text_spans_more pv areas i _ within))
          (well_both before there after so_far _ was c.in_ok-area.ensures.reads),
      readings_grown old_copies new_copies goes_on all new area pushed numbers areas i _ within before.told there.told pv so_far was.reads
          c.loop-found.invariant.1 c.in_ok-area.ensures.given,
      places_grown old_copies new_copies goes_on all new area pushed numbers areas i _ within c.loop-found.invariant.2
          c.in_ok-area.ensures.place,
      numbers_grown old_copies new_copies goes_on all new area pushed numbers c.in_ok-area.ensures.numbers,
      continues_both c.args.collected.now.copies old_copies new_copies c.loop-found.invariant.4 goes_on,
      c.read_area.ensures.disks ∙ c.loop-found.invariant.5,
    )

pub returns-clause-reads : goal.returns-clause-reads
returns-clause-reads g c =
    let before = g.S.Shelf.state c.args.shelf.now in
    let there = g.S.Shelf.state c.loop-found.shelf in
    subst (λ (l : List AreaFound). ReadsWell before (text_spans_in c.args.disk l) there)
    (take_all c.loop-found.found-index c.args.areas.now c.loop-found-test.false) c.loop-found.invariant.0

pub returns-clause-given : goal.returns-clause-given
returns-clause-given g c =
    let before = g.S.Shelf.state c.args.shelf.now in
    let readings = map (area_of c.loop-found.collected.copies) c.loop-found.all.items in
    subst (λ (l : List AreaFound). HoldsOfDisk before.told c.args.disk (λ sector_at. AreAreaReadings c.args.disk sector_at l readings))
    (take_all c.loop-found.found-index c.args.areas.now c.loop-found-test.false) c.loop-found.invariant.1

pub returns-clause-places : goal.returns-clause-places
returns-clause-places g c =
    let readings = map (area_of c.loop-found.collected.copies) c.loop-found.all.items in
    subst (λ (l : List AreaFound). HavePlaces l readings) (take_all c.loop-found.found-index c.args.areas.now c.loop-found-test.false)
    c.loop-found.invariant.2
