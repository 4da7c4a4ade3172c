-- The area is read as its header sector says.
use Rattle.std.proofs.Common.{◌/◌, refl, option_map}
use Rattle.std.proofs.lemmas.Result.{err_from_is_err_and}
use Rattle.disk_model.proofs.ReadingAlone.{holds_weaker}
use Rattle.disk_contents.specs.Standing.{area_on}
use Rattle.scan_rules.specs.Readings.{area_of, gives_of}
use Rattle.vg_scan.specs.Readings.{IsAreaReading, IsGiven}
use Rattle.vg_scan.proofs.area.read_area.Goals as goal

pub read_entry-requires-clause-area : goal.read_entry-requires-clause-area
read_entry-requires-clause-area g c = c.requires.usable.area

pub read_entry-requires-clause-within : goal.read_entry-requires-clause-within
read_entry-requires-clause-within g c = c.requires.usable.within

pub read_entry-requires-clause-inside : goal.read_entry-requires-clause-inside
read_entry-requires-clause-inside g c = c.requires.usable.text

pub returns-in_err-gives-clause-reads : goal.returns-in_err-gives-clause-reads
returns-in_err-gives-clause-reads g c =
    let p = err_from_is_err_and c.from_residual.result c.from_residual.ensures.1 in
    rw (p.1, p.2) c.in_err-gives.ensures.reads

pub returns-clause-given : goal.returns-clause-given
returns-clause-given g c =
    let found = c.args.found.now in
    let pv = c.args.disk in
    let copies = c.read_entry.new.collected.copies in
    let gives = c.in_ok-gives.gives in
    holds_weaker (g.S.Shelf.state c.args.shelf.now).told pv
    (λ sector_at. IsGiven sector_at (area_on pv found.area) found.entry (option_map (gives_of copies) gives))
    (λ sector_at. IsAreaReading pv sector_at found
    (area_of copies (record { start = found.area.offset / 512; sectors = found.area.size / 512; gives = gives })))
    (λ sector_at is. record { start_is = refl; sectors_is = refl; given = is }) c.in_ok-gives.ensures.given
