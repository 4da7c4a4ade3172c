use Rattle.std.proofs.Common.{ap, refl, sym, true, subst, ◌∙◌}
use Rattle.command_table.specs.Options.{number_named}
use Rattle.disk_contents.specs.Causes.{IsReadCause}
use Rattle.disk_contents.specs.declared.read_refusal.ReadRefusal.TheVariants.{NoMemory, ReadFailed}
use Rattle.lvm_run.proofs.Checking.{meets_read_failed, meets_reported, meets_unknown, meets_without_memory}
use Rattle.lvm_run.proofs.commands.pvck.run_pvck.Goals as goal

pub returns-in_default : goal.returns-in_default
returns-in_default g c = λ id now.
    let s0 = g.S.Shelf.state c.args.shelf.now in
    meets_unknown c.args.names.now id c.args.pv now s0 s0
    (ap (number_named c.args.names.now) (sym c.as_bytes.ensures) ∙ sym c.in_default.ensures.number) c.requires.disks.idle

pub returns-in-Ok : goal.returns-in-Ok
returns-in-Ok g c = λ id now.
    let e = c.in-Ok.ensures in
    meets_reported c.args.names.now id c.args.pv now (g.S.Shelf.state c.args.shelf.now) (g.S.Shelf.state c.pvck.new.shelf) c.in-Some.disk
    (ap (number_named c.args.names.now) (sym c.as_bytes.ensures) ∙ sym c.in-Some.ensures.number) c.in-Ok.text true refl e.cause e.again
    e.reads e.report

pub returns-in-Err-ReadFailed : goal.returns-in-Err-ReadFailed
returns-in-Err-ReadFailed g c = λ id now.
    let s0 = g.S.Shelf.state c.args.shelf.now in
    let s1 = g.S.Shelf.state c.pvck.new.shelf in
    let e = c.in-Err-ReadFailed.ensures in
    let cause : IsReadCause c.in-Some.disk s0 s1 (ReadFailed c.in-Err-ReadFailed.fault) =
    subst (IsReadCause c.in-Some.disk s0 s1) c.in-Err-ReadFailed.field-0-is c.in-Err-ReadFailed.ensures.cause in
    meets_read_failed c.args.names.now id c.args.pv now s0 s1 c.in-Some.disk
    (ap (number_named c.args.names.now) (sym c.as_bytes.ensures) ∙ sym c.in-Some.ensures.number) c.in-Err-ReadFailed.fault.pv cause.1.0
    cause.0 cause.1.1 e.again e.reads

pub returns : goal.returns
returns g c = λ id now.
    let s0 = g.S.Shelf.state c.args.shelf.now in
    let s1 = g.S.Shelf.state c.pvck.new.shelf in
    let e = c.in-Err-NoMemory.ensures in
    let cause : IsReadCause c.in-Some.disk s0 s1 NoMemory =
    subst (IsReadCause c.in-Some.disk s0 s1) c.in-Err-NoMemory.field-0-is c.in-Err-NoMemory.ensures.cause in
    meets_without_memory c.args.names.now id c.args.pv now s0 s1 c.in-Some.disk
    (ap (number_named c.args.names.now) (sym c.as_bytes.ensures) ∙ sym c.in-Some.ensures.number) cause e.again e.reads
