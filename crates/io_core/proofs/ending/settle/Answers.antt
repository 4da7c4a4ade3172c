use Rattle.std.proofs.Common.{◌≡◌, length, sym, subst, arith}
use Rattle.disk_model.specs.declared.ops.Op.{Op}
use Rattle.piece_table.specs.Steps.{live_of}
use Rattle.world_acts.specs.Acts.{World, settling, world}
use Rattle.io_core.specs.Rest.{Settles}
use Rattle.io_core.proofs.Settled.{OpIs, settled_op}
use Rattle.io_core.proofs.ending.settle.Goals as goal

pub settle_write-requires-clause-write : goal.settle_write-requires-clause-write
settle_write-requires-clause-write g c =
    let w : World = world (g.S.Shelf.state c.args.shelf.now) c.args.core.now in
    let is = settled_op w c.args.number c.args.op c.requires.orderly c.requires.started c.requires.work c.requires.lies in
    (subst (λ (x : Op). OpIs w.shelf.sizes w.core.volumes (live_of w.core.pieces c.args.number) x) c.in-Write.is is).0

pub settle_write-requires-clause-disk : goal.settle_write-requires-clause-disk
settle_write-requires-clause-disk g c =
    let w : World = world (g.S.Shelf.state c.args.shelf.now) c.args.core.now in
    let is = settled_op w c.args.number c.args.op c.requires.orderly c.requires.started c.requires.work c.requires.lies in
    let disk = (subst (λ (x : Op). OpIs w.shelf.sizes w.core.volumes (live_of w.core.pieces c.args.number) x) c.in-Write.is is).1 in
    let many : length c.args.core.now.waits.disks ≡ length (g.S.Shelf.state c.args.shelf.now).sizes =
    c.requires.orderly.backed.places.many in
    omega (arith, disk, many)

pub settle_read-requires-clause-read : goal.settle_read-requires-clause-read
settle_read-requires-clause-read g c =
    let w : World = world (g.S.Shelf.state c.args.shelf.now) c.args.core.now in
    let is = settled_op w c.args.number c.args.op c.requires.orderly c.requires.started c.requires.work c.requires.lies in
    (subst (λ (x : Op). OpIs w.shelf.sizes w.core.volumes (live_of w.core.pieces c.args.number) x) c.in-Read.is is).0

pub settle_read-requires-clause-many : goal.settle_read-requires-clause-many
settle_read-requires-clause-many g c =
    let w : World = world (g.S.Shelf.state c.args.shelf.now) c.args.core.now in
    let is = settled_op w c.args.number c.args.op c.requires.orderly c.requires.started c.requires.work c.requires.lies in
    (subst (λ (x : Op). OpIs w.shelf.sizes w.core.volumes (live_of w.core.pieces c.args.number) x) c.in-Read.is is).1

pub unreachable-requires : goal.unreachable-requires
unreachable-requires g c =
    let w : World = world (g.S.Shelf.state c.args.shelf.now) c.args.core.now in
    let is = settled_op w c.args.number c.args.op c.requires.orderly c.requires.started c.requires.work c.requires.lies in
    subst (λ (x : Op). OpIs w.shelf.sizes w.core.volumes (live_of w.core.pieces c.args.number) x) c.in-Flush.is is

pub settle_write-requires-clause-place : goal.settle_write-requires-clause-place
settle_write-requires-clause-place g c =
    let w : World = world (g.S.Shelf.state c.args.shelf.now) c.args.core.now in
    let is = settled_op w c.args.number c.args.op c.requires.orderly c.requires.started c.requires.work c.requires.lies in
    (subst (λ (x : Op). OpIs w.shelf.sizes w.core.volumes (live_of w.core.pieces c.args.number) x) c.in-Write.is is).2

pub settle_read-requires-clause-place : goal.settle_read-requires-clause-place
settle_read-requires-clause-place g c =
    let w : World = world (g.S.Shelf.state c.args.shelf.now) c.args.core.now in
    let is = settled_op w c.args.number c.args.op c.requires.orderly c.requires.started c.requires.work c.requires.lies in
    (subst (λ (x : Op). OpIs w.shelf.sizes w.core.volumes (live_of w.core.pieces c.args.number) x) c.in-Read.is is).2

pub returns-in-Write : goal.returns-in-Write
returns-in-Write g c =
    let w : World = world (g.S.Shelf.state c.args.shelf.now) c.args.core.now in
    subst (λ (x : Op). Settles w c.args.number (settling c.args.number x c.args.well) (world w.shelf c.settle_write.new.core))
    (sym c.in-Write.is) c.settle_write.ensures

pub returns-in-Read : goal.returns-in-Read
returns-in-Read g c =
    let w : World = world (g.S.Shelf.state c.args.shelf.now) c.args.core.now in
    subst (λ (x : Op). Settles w c.args.number (settling c.args.number x c.args.well) (world w.shelf c.settle_read.new.core))
    (sym c.in-Read.is) c.settle_read.ensures
