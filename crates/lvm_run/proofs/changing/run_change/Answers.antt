use Rattle.std.proofs.Common.{◌≡◌, ℕ, false, length, ap, sym, subst, arith}
use Rattle.std.proofs.lemmas.List.{length-map}
use Rattle.vg_found.specs.declared.disk.Disk.{Disk}
use Rattle.lvm_script.specs.declared.line.Line.{Line}
use Rattle.lvm_run.specs.Changing.{IsChanged}
use Rattle.lvm_run.specs.Disks.{AreDisks}
use Rattle.lvm_run.proofs.CarriedOut.{meets_changed, meets_unopened}
use Rattle.lvm_run.proofs.Promised.{kept_changed, kept_unopened, told_of}
use Rattle.lvm_run.proofs.changing.run_change.Goals as goal

pub open_disks-requires-clause-disks : goal.open_disks-requires-clause-disks
open_disks-requires-clause-disks g c =
    let s0 = g.S.Shelf.state c.args.shelf.now in
    subst (λ (n : ℕ). AreDisks n s0) (sym c.requires.disks.many) c.requires.disks

pub open_disks-requires-clause-some : goal.open_disks-requires-clause-some
open_disks-requires-clause-some g c = omega (arith, c.requires.disks.many, c.requires.some)

pub open_disks-requires-clause-few : goal.open_disks-requires-clause-few
open_disks-requires-clause-few g c = omega (arith, c.requires.disks.many, c.requires.few)

pub returns-in-Err-clause-meets : goal.returns-in-Err-clause-meets
returns-in-Err-clause-meets g c =
    let e = c.in-Err.ensures in
    meets_unopened c.args.names.now c.args.line.now.command c.args.line.now.id c.args.now (g.S.Shelf.state c.args.shelf.now)
    (g.S.Shelf.state c.open_disks.new.shelf) c.in-Err.ending e.again e.cause e.told

pub returns-in-Err-clause-entered : goal.returns-in-Err-clause-entered
returns-in-Err-clause-entered g c =
    let s1 = g.S.Shelf.state c.open_disks.new.shelf in
    kept_unopened false c.args.names.now c.args.now (g.S.Shelf.state c.args.shelf.now) s1 c.in-Err.ensures.again.later
    (told_of s1 (g.met.S.Shelf.lawful c.open_disks.new.shelf)) c.in-Err.ensures.told

pub returns-in-Ok-clause-meets : goal.returns-in-Ok-clause-meets
returns-in-Ok-clause-meets g c =
    let s0 = g.S.Shelf.state c.args.shelf.now in
    let s1 = g.S.Shelf.state c.open_disks.new.shelf in
    let s2 = g.S.Shelf.state c.change_whole.new.shelf in
    let e = c.in-Ok.ensures in
    let many = length-map c.in-Ok.whole.disks (λ (disk : Disk). disk.sectors) in
    let sizes = ap length c.in-Ok.ensures.cause.sizes in
    let count : length c.args.names.now ≡ length c.in-Ok.whole.disks = omega (arith, many, sizes, c.requires.disks.many) in
    let line = c.args.line.now in
    let same : line ≡ record { number = 1; id = line.id; command = line.command } =
    ap (λ (n : ℕ). record { number = n; id = line.id; command = line.command }) c.requires.first in
    let changed =
    subst (λ (l : Line). IsChanged c.in-Ok.whole c.args.names.now l c.args.now s1 c.change_whole.result.outcome
    c.change_whole.result.begun c.change_whole.result.took s2) same c.change_whole.ensures in
    meets_changed c.args.names.now line.command line.id c.args.now s0 c.in-Ok.whole s1 e.cause e.again e.told
    (told_of s0 (g.met.S.Shelf.lawful c.args.shelf.now)).record_is c.requires.planned c.requires.time count c.requires.named
    c.change_whole.result.outcome c.change_whole.result.begun c.change_whole.result.took s2
    (told_of s2 (g.met.S.Shelf.lawful c.change_whole.new.shelf)).record_is changed

pub returns-in-Ok-clause-entered : goal.returns-in-Ok-clause-entered
returns-in-Ok-clause-entered g c =
    let many = length-map c.in-Ok.whole.disks (λ (disk : Disk). disk.sectors) in
    let sizes = ap length c.in-Ok.ensures.cause.sizes in
    let count : length c.args.names.now ≡ length c.in-Ok.whole.disks = omega (arith, many, sizes, c.requires.disks.many) in
    let s0 = g.S.Shelf.state c.args.shelf.now in
    let s1 = g.S.Shelf.state c.open_disks.new.shelf in
    let s2 = g.S.Shelf.state c.change_whole.new.shelf in
    let e = c.in-Ok.ensures in
    kept_changed c.line_histories.ensures.lines c.line_histories.ensures.clears c.line_histories.ensures.ends c.done_sets_agree.ensures.done
    c.done_sets_agree.ensures.made c.args.names.now c.args.now c.args.line.now s0 c.in-Ok.whole s1 e.cause e.told count c.requires.named
    c.requires.planned c.requires.time
    (told_of s0 (g.met.S.Shelf.lawful c.args.shelf.now)) e.again.later s2 c.change_whole.result.outcome c.change_whole.result.begun
    c.change_whole.result.took (told_of s2 (g.met.S.Shelf.lawful c.change_whole.new.shelf)) c.change_whole.ensures
