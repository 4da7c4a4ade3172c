-- Nothing is read where the header sector names no text.
use Rattle.std.proofs.Common.{Some, None, refl}
use Rattle.std.proofs.lemmas.Result.{err_from_is_err_and}
use Rattle.disk_model.proofs.ReadingAlone.{holds_always, holds_weaker}
use Rattle.mda_header.specs.declared.entry.HeaderEntry.TheVariants.{Ignored, Nothing, Text, Refused as RefusedFor}
use Rattle.disk_contents.proofs.ReadingParts.{well_nothing}
use Rattle.scan_rules.specs.Decision.{HoldsNone, Refused}
use Rattle.scan_rules.specs.Readings.{gives_of}
use Rattle.scan_rules.specs.declared.copy_refusal.CopyRefusal.TheVariants.{HeaderRefused}
use Rattle.vg_scan.specs.Readings.{IsGiven}
use Rattle.vg_scan.specs.Texts.{IsStored, stored_bytes}
use Rattle.vg_scan.proofs.Continued.{continues_same}
use Rattle.vg_scan.proofs.area.read_entry.Goals as goal

pub returns-in-Ignored-clause-reads : goal.returns-in-Ignored-clause-reads
returns-in-Ignored-clause-reads g c =
    let before = g.S.Shelf.state c.args.shelf.now in rw c.in-Ignored.is (well_nothing before before refl c.requires.idle)

pub returns-in-Ignored-clause-given : goal.returns-in-Ignored-clause-given
returns-in-Ignored-clause-given g c =
    let area = c.args.area.now in
    rw c.in-Ignored.is (holds_always (g.S.Shelf.state c.args.shelf.now).told area.pv (λ sector_at. IsGiven sector_at area Ignored None)
    (λ sector_at. refl))

pub returns-in-Ignored-clause-continues : goal.returns-in-Ignored-clause-continues
returns-in-Ignored-clause-continues g c = continues_same c.args.collected.now.copies c.args.collected.now.copies refl

pub returns-in-Nothing-clause-reads : goal.returns-in-Nothing-clause-reads
returns-in-Nothing-clause-reads g c =
    let before = g.S.Shelf.state c.args.shelf.now in rw c.in-Nothing.is (well_nothing before before refl c.requires.idle)

pub returns-in-Nothing-clause-given : goal.returns-in-Nothing-clause-given
returns-in-Nothing-clause-given g c =
    let area = c.args.area.now in
    rw c.in-Nothing.is (holds_always (g.S.Shelf.state c.args.shelf.now).told area.pv
    (λ sector_at. IsGiven sector_at area Nothing (Some HoldsNone)) (λ sector_at. refl))

pub returns-in-Nothing-clause-continues : goal.returns-in-Nothing-clause-continues
returns-in-Nothing-clause-continues g c = continues_same c.args.collected.now.copies c.args.collected.now.copies refl

pub returns-in_err-read_text-in-Text-clause-reads : goal.returns-in_err-read_text-in-Text-clause-reads
returns-in_err-read_text-in-Text-clause-reads g c =
    let p = err_from_is_err_and c.from_residual.result c.from_residual.ensures.1 in
    rw (p.1, p.2, c.in-Text.is) c.in_err-read_text-in-Text.ensures.reads

pub returns-in_ok-read_text-in-Text-clause-given : goal.returns-in_ok-read_text-in-Text-clause-given
returns-in_ok-read_text-in-Text-clause-given g c =
    let area = c.args.area.now in
    let locn = c.in-Text.locn in
    let given = gives_of c.read_text.new.collected.copies c.in_ok-read_text-in-Text.field-0 in
    rw c.in-Text.is
    (holds_weaker (g.S.Shelf.state c.args.shelf.now).told area.pv (λ sector_at. IsStored locn (stored_bytes sector_at area locn) given)
    (λ sector_at. IsGiven sector_at area (Text locn) (Some given))
    (λ sector_at is. (given, refl, is)) c.in_ok-read_text-in-Text.ensures.given)

pub returns-in-Refused-clause-reads : goal.returns-in-Refused-clause-reads
returns-in-Refused-clause-reads g c =
    let before = g.S.Shelf.state c.args.shelf.now in rw c.in-Refused.is (well_nothing before before refl c.requires.idle)

pub returns-in-Refused-clause-given : goal.returns-in-Refused-clause-given
returns-in-Refused-clause-given g c =
    let area = c.args.area.now in
    let why = c.in-Refused.refusal in
    rw c.in-Refused.is (holds_always (g.S.Shelf.state c.args.shelf.now).told area.pv
    (λ sector_at. IsGiven sector_at area (RefusedFor why) (Some (Refused (HeaderRefused why)))) (λ sector_at. refl))

pub returns-in-Refused-clause-continues : goal.returns-in-Refused-clause-continues
returns-in-Refused-clause-continues g c = continues_same c.args.collected.now.copies c.args.collected.now.copies refl
