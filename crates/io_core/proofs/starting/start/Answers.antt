use Rattle.std.proofs.Common.{◌≡◌, ◌≤◌, ◌<◌, None, Option, true, ap, sym, subst, ◌∙◌}
use Rattle.sector_base.specs.declared.places.At.{At}
use Rattle.line_answers.specs.declared.answer.Answer.TheVariants.{PvFailed}
use Rattle.disk_model.specs.declared.ops.Op.{Op}
use Rattle.disk_model.specs.Operations.{Lies, sectors_of}
use Rattle.piece_table.specs.declared.live.LivePiece.{LivePiece}
use Rattle.piece_table.specs.Pieces.{Pieces, flying_at, is_started, is_waiting_stage, live_at, owner_at}
use Rattle.world_acts.specs.declared.state.Core.{Core}
use Rattle.world_acts.specs.declared.room.Room.{Room}
use Rattle.world_acts.specs.Acts.{IsFailure, World, world}
use Rattle.world_acts.specs.Orderly.{IsOrderly}
use Rattle.world_acts.specs.Rooms.{Covers}
use Rattle.world_acts.specs.Volumes.{span_at}
use Rattle.io_core.proofs.PieceAsks.{MayStart, found, has_room, inside_at, may_start_at, start_covered}
use Rattle.io_core.proofs.Started.{asks_so, fails_so, may_fly, started_core, started_piece}
use Rattle.io_core.proofs.Waking.{may_start_now}
use Rattle.io_core.proofs.starting.start.Given.{Over}
use Rattle.io_core.proofs.starting.start.Goals as goal

pub primary-at-requires-clause-inside : goal.primary-at-requires-clause-inside
primary-at-requires-clause-inside g c =
    inside_at (world (g.S.Shelf.state c.args.shelf.now) c.args.core.now) c.args.number c.get.result.now c.requires.orderly c.get.ensures

pub shrink-requires : goal.shrink-requires
shrink-requires g c =
    let w : World = world (g.S.Shelf.state c.args.shelf.now) c.args.core.now in
    let l : LivePiece = c.get.result.now in
    let waits : is_waiting_stage l.stage ≡ true =
    found (λ (y : LivePiece). is_waiting_stage y.stage) (live_at c.args.core.now.pieces.lives c.args.number) l c.get.ensures
    (may_start_now c.args.core.now.pieces c.args.number c.requires.waiting).waits in
    subst (λ (r : Room). Covers c.args.core.now.owed r) (sym c.of_start.ensures)
    (start_covered c.args.core.now.owed l waits (has_room w c.args.number l c.requires.orderly c.get.ensures))

pub fail-requires-clause-orderly : goal.fail-requires-clause-orderly
fail-requires-clause-orderly g c =
    let w : World = world (g.S.Shelf.state c.args.shelf.now) c.args.core.now in
    subst (λ (x : Core). IsOrderly (world (g.S.Shelf.state c.args.shelf.now) x))
    (sym (started_core c.args.core.now c.args.number c.get.result.now c.start-sectors.new.self c.shrink.new.self c.of_start.result
    c.get.ensures c.start-sectors.ensures.after c.of_start.ensures c.shrink.ensures))
    (started_piece w c.args.number c.get.result.now c.requires.orderly c.get.ensures c.requires.waiting).orderly

pub fail-requires-clause-started : goal.fail-requires-clause-started
fail-requires-clause-started g c =
    let w : World = world (g.S.Shelf.state c.args.shelf.now) c.args.core.now in
    subst (λ (x : Pieces). is_started x c.args.number ≡ true) (sym c.start-sectors.ensures.after)
    (started_piece w c.args.number c.get.result.now c.requires.orderly c.get.ensures c.requires.waiting).started

pub fail-requires-clause-landed : goal.fail-requires-clause-landed
fail-requires-clause-landed g c =
    let w : World = world (g.S.Shelf.state c.args.shelf.now) c.args.core.now in
    subst (λ (x : Pieces). flying_at x c.args.number ≡ 0) (sym c.start-sectors.ensures.after)
    (started_piece w c.args.number c.get.result.now c.requires.orderly c.get.ensures c.requires.waiting).landed

its_disk : (g : Over) (c : goal.After-drop-sectors-inside g)
    → IsFailure c.args.core.now c.get.result.now.piece (PvFailed c.primary-at.result.pv)
its_disk g c = (
  ap (λ (o : Option At). (span_at c.get.result.now.piece.count o).pv) c.primary-at.ensures,
  sym c.contains.ensures ∙ c.if-contains.true,
)

pub returns-then-contains-clause-reaches : goal.returns-then-contains-clause-reaches
returns-then-contains-clause-reaches g c =
    (fails_so (g.S.Shelf.state c.args.shelf.now) c.args.core.now c.fail.new.core c.args.number c.get.result.now
    c.primary-at.result.pv c.start-sectors.new.self c.shrink.new.self c.of_start.result c.requires.orderly c.get.ensures
    c.requires.waiting c.start-sectors.ensures.after c.of_start.ensures c.shrink.ensures c.agree.ensures.claimed (its_disk g c) c.fail.ensures).reaches

pub returns-then-contains-clause-calm : goal.returns-then-contains-clause-calm
returns-then-contains-clause-calm g c =
    (fails_so (g.S.Shelf.state c.args.shelf.now) c.args.core.now c.fail.new.core c.args.number c.get.result.now
    c.primary-at.result.pv c.start-sectors.new.self c.shrink.new.self c.of_start.result c.requires.orderly c.get.ensures
    c.requires.waiting c.start-sectors.ensures.after c.of_start.ensures c.shrink.ensures c.agree.ensures.claimed (its_disk g c) c.fail.ensures).calm

pub returns-then-contains-clause-opens : goal.returns-then-contains-clause-opens
returns-then-contains-clause-opens g c =
    (fails_so (g.S.Shelf.state c.args.shelf.now) c.args.core.now c.fail.new.core c.args.number c.get.result.now
    c.primary-at.result.pv c.start-sectors.new.self c.shrink.new.self c.of_start.result c.requires.orderly c.get.ensures
    c.requires.waiting c.start-sectors.ensures.after c.of_start.ensures c.shrink.ensures c.agree.ensures.claimed (its_disk g c) c.fail.ensures).opens

pub returns-then-contains-clause-deferred : goal.returns-then-contains-clause-deferred
returns-then-contains-clause-deferred g c =
    (fails_so (g.S.Shelf.state c.args.shelf.now) c.args.core.now c.fail.new.core c.args.number c.get.result.now
    c.primary-at.result.pv c.start-sectors.new.self c.shrink.new.self c.of_start.result c.requires.orderly c.get.ensures
    c.requires.waiting c.start-sectors.ensures.after c.of_start.ensures c.shrink.ensures c.agree.ensures.claimed (its_disk g c) c.fail.ensures).deferred

pub submit-tag-requires-clause-lies : goal.submit-tag-requires-clause-lies
submit-tag-requires-clause-lies g c =
    let w : World = world (g.S.Shelf.state c.args.shelf.now) c.args.core.now in
    let l : LivePiece = c.get.result.now in
    let m : MayStart w l c.primary-at.result c.start-sectors.result =
    may_start_at w c.args.number l c.primary-at.result c.start-sectors.result c.requires.orderly c.get.ensures
    (found (λ (y : LivePiece). is_waiting_stage y.stage) (live_at c.args.core.now.pieces.lives c.args.number) l c.get.ensures
    (may_start_now c.args.core.now.pieces c.args.number c.requires.waiting).waits) c.primary-at.ensures c.start-sectors.ensures.sectors in
    subst (λ (x : Op). Lies (g.S.Shelf.state c.args.shelf.now).sizes x) (sym c.op_on.ensures) m.lies

pub submit-tag-requires-clause-ops : goal.submit-tag-requires-clause-ops
submit-tag-requires-clause-ops g c =
    let w : World = world (g.S.Shelf.state c.args.shelf.now) c.args.core.now in
    let l : LivePiece = c.get.result.now in
    let m : MayStart w l c.primary-at.result c.start-sectors.result =
    may_start_at w c.args.number l c.primary-at.result c.start-sectors.result c.requires.orderly c.get.ensures
    (found (λ (y : LivePiece). is_waiting_stage y.stage) (live_at c.args.core.now.pieces.lives c.args.number) l c.get.ensures
    (may_start_now c.args.core.now.pieces c.args.number c.requires.waiting).waits) c.primary-at.ensures c.start-sectors.ensures.sectors in
    m.ops

pub submit-tag-requires-clause-sectors : goal.submit-tag-requires-clause-sectors
submit-tag-requires-clause-sectors g c =
    let w : World = world (g.S.Shelf.state c.args.shelf.now) c.args.core.now in
    let l : LivePiece = c.get.result.now in
    let m : MayStart w l c.primary-at.result c.start-sectors.result =
    may_start_at w c.args.number l c.primary-at.result c.start-sectors.result c.requires.orderly c.get.ensures
    (found (λ (y : LivePiece). is_waiting_stage y.stage) (live_at c.args.core.now.pieces.lives c.args.number) l c.get.ensures
    (may_start_now c.args.core.now.pieces c.args.number c.requires.waiting).waits) c.primary-at.ensures c.start-sectors.ensures.sectors in
    subst (λ (x : Op). sectors_of x ≤ (g.S.Shelf.state c.args.shelf.now).spare_sectors) (sym c.op_on.ensures) m.room

pub flies-requires-clause-spare : goal.flies-requires-clause-spare
flies-requires-clause-spare g c =
    let w : World = world (g.S.Shelf.state c.args.shelf.now) c.args.core.now in
    subst (λ (x : Pieces). 0 < x.spare_ops) (sym c.start-sectors.ensures.after)
    (may_fly w c.args.number c.submit-tag.result c.get.result.now c.requires.orderly c.get.ensures c.requires.waiting
    c.submit-tag.ensures.fresh).spare

pub flies-requires-clause-started : goal.flies-requires-clause-started
flies-requires-clause-started g c =
    let w : World = world (g.S.Shelf.state c.args.shelf.now) c.args.core.now in
    subst (λ (x : Pieces). is_started x c.args.number ≡ true) (sym c.start-sectors.ensures.after)
    (may_fly w c.args.number c.submit-tag.result c.get.result.now c.requires.orderly c.get.ensures c.requires.waiting
    c.submit-tag.ensures.fresh).started

pub flies-requires-clause-few : goal.flies-requires-clause-few
flies-requires-clause-few g c =
    let w : World = world (g.S.Shelf.state c.args.shelf.now) c.args.core.now in
    subst (λ (x : Pieces). flying_at x c.args.number < 8) (sym c.start-sectors.ensures.after)
    (may_fly w c.args.number c.submit-tag.result c.get.result.now c.requires.orderly c.get.ensures c.requires.waiting
    c.submit-tag.ensures.fresh).few

pub flies-requires-clause-fresh : goal.flies-requires-clause-fresh
flies-requires-clause-fresh g c =
    let w : World = world (g.S.Shelf.state c.args.shelf.now) c.args.core.now in
    subst (λ (x : Pieces). owner_at x.owners c.submit-tag.result ≡ None) (sym c.start-sectors.ensures.after)
    (may_fly w c.args.number c.submit-tag.result c.get.result.now c.requires.orderly c.get.ensures c.requires.waiting
    c.submit-tag.ensures.fresh).fresh

pub returns-clause-reaches : goal.returns-clause-reaches
returns-clause-reaches g c =
    let w : World = world (g.S.Shelf.state c.args.shelf.now) c.args.core.now in
    let l : LivePiece = c.get.result.now in
    let m : MayStart w l c.primary-at.result c.start-sectors.result =
    may_start_at w c.args.number l c.primary-at.result c.start-sectors.result c.requires.orderly c.get.ensures
    (found (λ (y : LivePiece). is_waiting_stage y.stage) (live_at c.args.core.now.pieces.lives c.args.number) l c.get.ensures
    (may_start_now c.args.core.now.pieces c.args.number c.requires.waiting).waits) c.primary-at.ensures c.start-sectors.ensures.sectors in
    (asks_so (g.S.Shelf.state c.args.shelf.now) (g.S.Shelf.state c.submit-tag.new.self) c.args.core.now c.args.number c.submit-tag.result
    l c.primary-at.result c.start-sectors.result c.op_on.result c.start-sectors.new.self c.flies.new.self c.shrink.new.self
    c.of_start.result c.requires.orderly c.get.ensures c.requires.waiting m c.op_on.ensures c.submit-tag.ensures
    (g.met.S.Shelf.lawful c.submit-tag.new.self) c.start-sectors.ensures.after c.flies.ensures c.of_start.ensures c.shrink.ensures).reaches

pub returns-clause-calm : goal.returns-clause-calm
returns-clause-calm g c =
    let w : World = world (g.S.Shelf.state c.args.shelf.now) c.args.core.now in
    let l : LivePiece = c.get.result.now in
    let m : MayStart w l c.primary-at.result c.start-sectors.result =
    may_start_at w c.args.number l c.primary-at.result c.start-sectors.result c.requires.orderly c.get.ensures
    (found (λ (y : LivePiece). is_waiting_stage y.stage) (live_at c.args.core.now.pieces.lives c.args.number) l c.get.ensures
    (may_start_now c.args.core.now.pieces c.args.number c.requires.waiting).waits) c.primary-at.ensures c.start-sectors.ensures.sectors in
    (asks_so (g.S.Shelf.state c.args.shelf.now) (g.S.Shelf.state c.submit-tag.new.self) c.args.core.now c.args.number c.submit-tag.result
    l c.primary-at.result c.start-sectors.result c.op_on.result c.start-sectors.new.self c.flies.new.self c.shrink.new.self
    c.of_start.result c.requires.orderly c.get.ensures c.requires.waiting m c.op_on.ensures c.submit-tag.ensures
    (g.met.S.Shelf.lawful c.submit-tag.new.self) c.start-sectors.ensures.after c.flies.ensures c.of_start.ensures c.shrink.ensures).calm
