-- One disk is scanned after another.
use Rattle.std.proofs.Common.{◌<◌, ◌≤◌, ◌^◌, ℕ, List, length, slice_index_or, sym, subst, arith}
use Rattle.disk_model.proofs.IdleAgain.{again_both, again_nothing}
use Rattle.scan_rules.specs.Answers.{IsRefusedBy}
use Rattle.scan_rules.specs.Decision.{decide_scan}
use Rattle.scan_rules.specs.Readings.{AllRead}
use Rattle.vg_scan.specs.Outcome.{IsOutcome}
use Rattle.vg_scan.specs.Scanned.{HaveShapes}
use Rattle.vg_scan.proofs.ScanEnds.{few_scanned, scan_found, scan_refused, some_scanned, wanting}
use Rattle.vg_scan.proofs.ScannedDisks.{few_told, next_scanned, none_scanned, reads_stopped}
use Rattle.vg_scan.proofs.scanning.scan.Goals as goal

-- ---- what each call wants

pub scan_disk-requires-clause-disk : goal.scan_disk-requires-clause-disk
scan_disk-requires-clause-disk g c =
    let s0 = g.S.Shelf.state c.args.shelf.now in
    let within : c.loop-number.number < length s0.sizes = omega (arith, c.loop-number-test.true, c.count-number-end.ensures) in
    subst (λ (l : List ℕ). c.loop-number.number < length l) (sym c.loop-number.invariant.1.sizes) within

pub scan_disk-requires-clause-least : goal.scan_disk-requires-clause-least
scan_disk-requires-clause-least g c =
    let s0 = g.S.Shelf.state c.args.shelf.now in
    let within : c.loop-number.number < length s0.sizes = omega (arith, c.loop-number-test.true, c.count-number-end.ensures) in
    subst (λ (l : List ℕ). 8 ≤ slice_index_or l c.loop-number.number 0) (sym c.loop-number.invariant.1.sizes) (c.requires.least c.loop-number.number within)

pub scan_disk-requires-clause-most : goal.scan_disk-requires-clause-most
scan_disk-requires-clause-most g c =
    let s0 = g.S.Shelf.state c.args.shelf.now in
    let within : c.loop-number.number < length s0.sizes = omega (arith, c.loop-number-test.true, c.count-number-end.ensures) in
    subst (λ (l : List ℕ). slice_index_or l c.loop-number.number 0 ≤ 2 ^ 40) (sym c.loop-number.invariant.1.sizes) (c.requires.most c.loop-number.number within)

pub scan_disk-requires-clause-room : goal.scan_disk-requires-clause-room
scan_disk-requires-clause-room g c =
    omega (arith, c.loop-number-test.true, c.count-number-end.ensures, c.loop-number.invariant.0.reading_count, c.requires.few)

pub name_unread-requires : goal.name_unread-requires
name_unread-requires g c = omega (arith, c.loop-number-test.true, c.count-number-end.ensures, c.requires.few)

pub found_of-requires-clause-some : goal.found_of-requires-clause-some
found_of-requires-clause-some g c =
    some_scanned (g.S.Shelf.state c.args.shelf.now) (g.S.Shelf.state c.loop-number.shelf) c.loop-number.number c.loop-number.disks.items c.loop-number.unread
    c.loop-number.collected.disks c.loop-number.invariant.0
    (omega (arith, c.loop-number-test.false, c.count-number-end.ensures)) c.requires.some

pub found_of-requires-clause-few : goal.found_of-requires-clause-few
found_of-requires-clause-few g c =
    few_scanned (g.S.Shelf.state c.args.shelf.now) (g.S.Shelf.state c.loop-number.shelf) c.loop-number.number c.loop-number.disks.items c.loop-number.unread
    c.loop-number.collected.disks c.loop-number.invariant.0
    (omega (arith, c.loop-number.auto.number-end, c.count-number-end.ensures)) c.requires.few

pub found_of-requires-clause-shapes : goal.found_of-requires-clause-shapes
found_of-requires-clause-shapes g c =
    subst (λ (all : AllRead). HaveShapes c.loop-number.disks.items c.loop-number.unread all.disks) (sym c.into_readings.ensures)
    c.loop-number.invariant.0.shape

-- ---- none yet

pub loop-number-init : goal.loop-number-init
loop-number-init g c = (
  none_scanned c.new-disks.result.items c.new-unread.result c.new-collected.result.disks (g.S.Shelf.state c.args.shelf.now)
      c.new-disks.ensures.items c.new-unread.ensures c.new-collected.ensures.disks,
  again_nothing (g.S.Shelf.state c.args.shelf.now) c.requires.idle,
)

-- ---- one disk more

pub loop-number-preserved : goal.loop-number-preserved
loop-number-preserved g c =
    let s0 = g.S.Shelf.state c.args.shelf.now in
    let s1 = g.S.Shelf.state c.loop-number.shelf in
    let s2 = g.S.Shelf.state c.scan_disk.new.shelf in
    let pv = c.loop-number.number in
    let was = c.loop-number.invariant.1 in
    let within : pv < length s0.sizes = omega (arith, c.loop-number-test.true, c.count-number-end.ensures) in (
      next_scanned pv c.loop-number.disks.items c.push.new.self.items c.loop-number.unread c.name_unread.new.unread c.loop-number.collected.disks
          c.scan_disk.new.collected.disks c.in_ok-disk.disk s0 s1 s2 c.loop-number.invariant.0
          c.in_ok-disk.ensures.disk c.scan_disk.ensures.reads was.sizes within (c.requires.least pv within) (c.requires.most pv within)
          c.in_ok-push.ensures.items c.name_unread.ensures,
      again_both s0 s1 s2 was c.scan_disk.ensures.again,
    )

-- ---- memory is wanting

pub returns-in_err-disk-clause-scan : goal.returns-in_err-disk-clause-scan
returns-in_err-disk-clause-scan g c =
    wanting (g.S.Shelf.state c.args.shelf.now) (g.S.Shelf.state c.scan_disk.new.shelf) c.from_residual.result c.from_residual.ensures.1

pub returns-in_err-disk-clause-again : goal.returns-in_err-disk-clause-again
returns-in_err-disk-clause-again g c =
    again_both (g.S.Shelf.state c.args.shelf.now) (g.S.Shelf.state c.loop-number.shelf) (g.S.Shelf.state c.scan_disk.new.shelf)
    c.loop-number.invariant.1 c.scan_disk.ensures.again

pub returns-in_err-disk-clause-reads : goal.returns-in_err-disk-clause-reads
returns-in_err-disk-clause-reads g c =
    reads_stopped c.loop-number.number c.loop-number.disks.items c.loop-number.unread c.loop-number.collected.disks (g.S.Shelf.state c.args.shelf.now)
    (g.S.Shelf.state c.loop-number.shelf) (g.S.Shelf.state c.scan_disk.new.shelf) c.loop-number.invariant.0
    c.loop-number.invariant.1.sizes c.scan_disk.ensures.reads

pub returns-in_err-push-clause-scan : goal.returns-in_err-push-clause-scan
returns-in_err-push-clause-scan g c =
    wanting (g.S.Shelf.state c.args.shelf.now) (g.S.Shelf.state c.scan_disk.new.shelf) c.from_residual-in_err-push.result
    c.from_residual-in_err-push.ensures.1

pub returns-in_err-push-clause-again : goal.returns-in_err-push-clause-again
returns-in_err-push-clause-again g c =
    again_both (g.S.Shelf.state c.args.shelf.now) (g.S.Shelf.state c.loop-number.shelf) (g.S.Shelf.state c.scan_disk.new.shelf)
    c.loop-number.invariant.1 c.scan_disk.ensures.again

pub returns-in_err-push-clause-reads : goal.returns-in_err-push-clause-reads
returns-in_err-push-clause-reads g c =
    reads_stopped c.loop-number.number c.loop-number.disks.items c.loop-number.unread c.loop-number.collected.disks (g.S.Shelf.state c.args.shelf.now)
    (g.S.Shelf.state c.loop-number.shelf) (g.S.Shelf.state c.scan_disk.new.shelf) c.loop-number.invariant.0
    c.loop-number.invariant.1.sizes c.scan_disk.ensures.reads

-- ---- all disks were scanned

pub returns-in-Ok-clause-scan : goal.returns-in-Ok-clause-scan
returns-in-Ok-clause-scan g c =
    scan_found (g.S.Shelf.state c.args.shelf.now) (g.S.Shelf.state c.loop-number.shelf) c.loop-number.number c.loop-number.disks.items c.loop-number.unread
    c.loop-number.collected.disks c.in-Ok.found c.loop-number.invariant.0
    (omega (arith, c.loop-number-test.false, c.count-number-end.ensures))
    (subst (λ (all : AllRead). IsOutcome c.loop-number.disks.items c.loop-number.unread all.disks c.in-Ok.found) c.into_readings.ensures
    c.in-Ok.ensures)

pub returns-in-Ok-clause-reads : goal.returns-in-Ok-clause-reads
returns-in-Ok-clause-reads g c =
    let s0 = g.S.Shelf.state c.args.shelf.now in
    few_told c.loop-number.number s0.sizes s0.told (g.S.Shelf.state c.loop-number.shelf).told c.loop-number.invariant.0.reads

pub returns-in-Err-clause-scan : goal.returns-in-Err-clause-scan
returns-in-Err-clause-scan g c =
    scan_refused (g.S.Shelf.state c.args.shelf.now) (g.S.Shelf.state c.loop-number.shelf) c.loop-number.number c.loop-number.disks.items c.loop-number.unread
    c.loop-number.collected.disks c.in-Err.why c.loop-number.invariant.0
    (omega (arith, c.loop-number-test.false, c.count-number-end.ensures))
    (subst (λ (all : AllRead). IsRefusedBy (decide_scan all.disks) c.in-Err.why) c.into_readings.ensures c.in-Err.ensures)

pub returns-in-Err-clause-reads : goal.returns-in-Err-clause-reads
returns-in-Err-clause-reads g c =
    let s0 = g.S.Shelf.state c.args.shelf.now in
    few_told c.loop-number.number s0.sizes s0.told (g.S.Shelf.state c.loop-number.shelf).told c.loop-number.invariant.0.reads
