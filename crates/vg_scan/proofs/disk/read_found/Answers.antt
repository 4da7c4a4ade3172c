-- The areas of the physical volume are read, and no others.
use Rattle.std.proofs.Common.{List, All, Some, length, map, refl, slice_index_or, subst, sym}
use Rattle.std.proofs.lemmas.Result.{err_from_is_err_and}
use Rattle.disk_model.proofs.ReadingAlone.{holds_weaker}
use Rattle.disk_contents.specs.declared.contents.AreaFound.{AreaFound}
use Rattle.disk_contents.specs.Parts.{ReadsUntil, ReadsWell}
use Rattle.disk_contents.specs.declared.contents.PvFound.TheVariants.{Whole}
use Rattle.disk_contents.specs.Standing.{CanStand, IsUsable}
use Rattle.scan_rules.specs.Readings.{area_of}
use Rattle.scan_rules.specs.declared.readings.AreaRead.{AreaRead}
use Rattle.vg_scan.specs.Disks.{pv_read}
use Rattle.vg_scan.specs.Readings.{AreAreaReadings, IsPvReading}
use Rattle.vg_scan.specs.Shapes.{AreasGiveAtMost}
use Rattle.vg_scan.specs.TextReads.{text_spans_in}
use Rattle.vg_scan.proofs.PvParts.{numbers_read, places_passed, readings_passed, shape_read}
use Rattle.vg_scan.proofs.disk.read_found.Goals as goal

pub read_areas-requires-clause-usable : goal.read_areas-requires-clause-usable
read_areas-requires-clause-usable g c =
    let disk = slice_index_or (g.S.Shelf.state c.args.shelf.now).sizes c.args.disk 0 in
    subst (λ (l : List AreaFound). All (IsUsable c.args.disk disk) l) (sym c.as_slice.ensures)
    (subst (CanStand c.args.disk disk) c.in-Whole.is c.requires.stands).3

pub returns-in_err-areas-in-Whole-clause-reads : goal.returns-in_err-areas-in-Whole-clause-reads
returns-in_err-areas-in-Whole-clause-reads g c =
    let before = g.S.Shelf.state c.args.shelf.now in
    let after = g.S.Shelf.state c.read_areas.new.shelf in
    let p = err_from_is_err_and c.from_residual.result c.from_residual.ensures.1 in
    rw (p.1, p.2, c.in-Whole.is)
    (subst (λ (l : List AreaFound). ReadsUntil c.args.disk before (text_spans_in c.args.disk l) after c.in_err-areas-in-Whole.field-0.0)
    c.as_slice.ensures c.in_err-areas-in-Whole.ensures.reads)

pub returns-in_ok-areas-in-Whole-clause-reads : goal.returns-in_ok-areas-in-Whole-clause-reads
returns-in_ok-areas-in-Whole-clause-reads g c =
    let before = g.S.Shelf.state c.args.shelf.now in
    let after = g.S.Shelf.state c.read_areas.new.shelf in
    rw c.in-Whole.is (subst (λ (l : List AreaFound). ReadsWell before (text_spans_in c.args.disk l) after) c.as_slice.ensures
    c.in_ok-areas-in-Whole.ensures.reads)

pub returns-in_ok-areas-in-Whole-clause-read : goal.returns-in_ok-areas-in-Whole-clause-read
returns-in_ok-areas-in-Whole-clause-read g c =
    let before = g.S.Shelf.state c.args.shelf.now in
    let pv = c.args.disk in
    let copies = c.read_areas.new.collected.copies in
    let all = c.from_vec.result in
    let areas = c.in-Whole.areas in
    let read =
    readings_passed pv before.told c.as_slice.result.now areas c.in_ok-areas-in-Whole.areas.items all copies c.as_slice.ensures
    c.from_vec.ensures c.in_ok-areas-in-Whole.ensures.given in
    rw c.in-Whole.is
    (holds_weaker before.told pv (λ sector_at. AreAreaReadings pv sector_at areas (map (area_of copies) all))
    (λ sector_at. IsPvReading pv sector_at (Some (Whole c.in-Whole.label c.in-Whole.header areas))
    (pv_read copies (Some (record { id = c.in-Whole.header.id; areas = all }))))
    (λ sector_at is. (refl, is)) read)

pub returns-in_ok-areas-in-Whole-clause-shape : goal.returns-in_ok-areas-in-Whole-clause-shape
returns-in_ok-areas-in-Whole-clause-shape g c =
    let disk = slice_index_or (g.S.Shelf.state c.args.shelf.now).sizes c.args.disk 0 in
    let copies = c.read_areas.new.collected.copies in
    let all = c.from_vec.result in
    let areas = c.in-Whole.areas in
    let places =
    places_passed c.as_slice.result.now areas c.in_ok-areas-in-Whole.areas.items all copies c.as_slice.ensures c.from_vec.ensures
    c.in_ok-areas-in-Whole.ensures.places in
    rw c.in-Whole.is (shape_read c.args.disk disk c.in-Whole.label c.in-Whole.header areas
    (subst (CanStand c.args.disk disk) c.in-Whole.is c.requires.stands) copies all places)

pub returns-in_ok-areas-in-Whole-clause-numbers : goal.returns-in_ok-areas-in-Whole-clause-numbers
returns-in_ok-areas-in-Whole-clause-numbers g c =
    let disk = slice_index_or (g.S.Shelf.state c.args.shelf.now).sizes c.args.disk 0 in
    let copies = c.read_areas.new.collected.copies in
    let all = c.from_vec.result in
    let areas = c.in-Whole.areas in
    let places =
    places_passed c.as_slice.result.now areas c.in_ok-areas-in-Whole.areas.items all copies c.as_slice.ensures c.from_vec.ensures
    c.in_ok-areas-in-Whole.ensures.places in
    numbers_read c.args.disk disk c.in-Whole.label c.in-Whole.header areas (subst (CanStand c.args.disk disk) c.in-Whole.is c.requires.stands)
    copies all places (length copies)
    (subst (λ (l : List AreaRead). AreasGiveAtMost (length copies) l) (sym c.from_vec.ensures) c.in_ok-areas-in-Whole.ensures.numbers)
