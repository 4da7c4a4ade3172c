-- The sectors are read, and give what the bytes of the disk give.
use Rattle.std.proofs.Common.{ap}
use Rattle.std.proofs.lemmas.Result.{err_from_is_err_and, MatchResult-weaker}
use Rattle.scan_rules.specs.Readings.{AllRead}
use Rattle.vg_scan.specs.Texts.{text_spans}
use Rattle.vg_scan.proofs.Continued.{continues_same}
use Rattle.vg_scan.proofs.EntryReading.{given_by_sectors, wanting_after}
use Rattle.vg_scan.proofs.area.read_text.Goals as goal

pub returns-in_err-sectors-clause-reads : goal.returns-in_err-sectors-clause-reads
returns-in_err-sectors-clause-reads g c =
    let p = err_from_is_err_and c.from_residual.result c.from_residual.ensures.1 in
    rw (p.1, p.2) c.in_err-sectors.ensures.read

pub returns-in_err-sectors-clause-continues : goal.returns-in_err-sectors-clause-continues
returns-in_err-sectors-clause-continues g c =
    continues_same c.args.collected.now.copies c.take_buffer-buffer.new.self.copies
    (ap (λ (r : AllRead). r.copies) c.take_buffer-buffer.ensures)

pub returns-clause-reads : goal.returns-clause-reads
returns-clause-reads g c =
    let before = g.S.Shelf.state c.args.shelf.now in
    let after = g.S.Shelf.state c.read_text_sectors.new.shelf in
    let area = c.args.area.now in
    let texts = text_spans area c.args.locn in
    let went = c.in_ok-sectors.ensures.read.0 in
    MatchResult-weaker c.take_text-gives.result c.take_text-gives.ensures.given (λ gives is. went)
    (λ refusal wanting. wanting_after area.pv before after texts refusal wanting went)

pub returns-clause-given : goal.returns-clause-given
returns-clause-given g c =
    let before = g.S.Shelf.state c.args.shelf.now in
    rw c.keep_buffer.ensures
    (given_by_sectors c.args.area.now c.args.locn before c.in_ok-sectors.sectors c.take_text-gives.new.collected.copies c.requires.area
    c.requires.entry c.in_ok-sectors.ensures.count c.in_ok-sectors.ensures.read.1 c.take_text-gives.result c.take_text-gives.ensures.given)
