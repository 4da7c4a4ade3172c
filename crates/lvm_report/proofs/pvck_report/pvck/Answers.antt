-- The report is the only one.
use Rattle.std.proofs.Common.{◌≡◌, ℕ, List, slice_index_or}
use Rattle.disk_contents.specs.Contents.{IsFound}
use Rattle.lvm_report.specs.Report.{IsReport}
use Rattle.lvm_report.proofs.OneReport.{one_report}
use Rattle.std.proofs.lemmas.Result.{err_from_is_err_and}
use Rattle.disk_contents.proofs.ReadsAll.{reads_first}
use Rattle.disk_model.proofs.ReadingAlone.{holds_weaker}
use Rattle.lvm_report.proofs.pvck_report.pvck.Goals as goal

pub returns-clause-one : goal.returns-clause-one
returns-clause-one g c =
    let before = g.S.Shelf.state c.args.shelf.now in
    let disk = slice_index_or before.sizes c.args.number 0 in
    let found = c.in_ok-found.found in
    let text = c.in_ok-report.field-0 in
    holds_weaker before.told c.args.number (λ sector_at. IsFound sector_at disk found)
    (λ sector_at. (other : List ℕ) → IsReport sector_at disk other → other ≡ text)
    (λ sector_at is other report. one_report sector_at disk other text report (found, is, c.in_ok-report.ensures))
    c.in_ok-found.ensures.found.1

pub returns-in_err-report-clause-reads : goal.returns-in_err-report-clause-reads
returns-in_err-report-clause-reads g c =
    let before = g.S.Shelf.state c.args.shelf.now in
    let p = err_from_is_err_and c.from_residual-in_err-report.result c.from_residual-in_err-report.ensures.1 in
    rw p.1
    (reads_first c.args.number (slice_index_or before.sizes c.args.number 0) before _
    (record { found = c.in_ok-found.found; is = c.in_ok-found.ensures.found.1; reads = c.in_ok-found.ensures.found.0.reads }))
