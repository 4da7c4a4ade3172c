use Rattle.std.proofs.Common.{[]}
use Rattle.lvm_run.specs.Sourced.{source}
use Rattle.lvm_run.proofs.AskedTasks.{refused_alone}
use Rattle.lvm_run.proofs.Promised.{kept_undone, told_of}
use Rattle.lvm_run.proofs.run.run_task.Goals as goal

pub returns-in-One : goal.returns-in-One
returns-in-One g c = rw c.in-One.is c.run_line.ensures

pub returns-in-Session : goal.returns-in-Session
returns-in-Session g c =
    let s0 = g.S.Shelf.state c.args.shelf.now in
    let from = source (g.R.Source.left c.args.script.now) (g.R.Source.fault_count c.args.script.now) in
    rw (c.in-Session.is, c.ended.ensures) (
      [],
      refused_alone from s0,
      kept_undone c.args.names.now c.args.now s0 (told_of s0 (g.met.S.Shelf.lawful c.args.shelf.now)),
    )

pub returns : goal.returns
returns g c =
    let s0 = g.S.Shelf.state c.args.shelf.now in
    let from = source (g.R.Source.left c.args.script.now) (g.R.Source.fault_count c.args.script.now) in
    rw (c.in-Demo.is, c.ended-in-Demo.ensures)
    ([], refused_alone from s0, kept_undone c.args.names.now c.args.now s0 (told_of s0 (g.met.S.Shelf.lawful c.args.shelf.now)))
