-- The tables grow, and then the shelf.
use Rattle.std.proofs.Common.{◌≡◌, ℕ, length, arith, refl, sym, ap, subst, ◌∙◌}
use Rattle.disk_model.specs.State.{State}
use Rattle.world_acts.specs.declared.room.Room.{Room}
use Rattle.world_acts.specs.Acts.{IsGrown, world}
use Rattle.world_acts.specs.Rooms.{more}
use Rattle.world_acts.proofs.Growing.{grown_both, grown_none}
use Rattle.line_plans.specs.Plans.{HasTables}
use Rattle.line_plans.proofs.Reserved.{has_room, shelf_grown}
use Rattle.line_plans.proofs.preparing.reserve.Goals as goal

pub returns-in_err-room_of-clause-grown : goal.returns-in_err-room_of-clause-grown
returns-in_err-room_of-clause-grown g c =
    grown_none (world (g.S.Shelf.state c.args.shelf.now) c.args.core.now) (g.met.S.Shelf.lawful c.args.shelf.now)

pub returns-in_err-room-clause-grown : goal.returns-in_err-room-clause-grown
returns-in_err-room-clause-grown g c =
    grown_none (world (g.S.Shelf.state c.args.shelf.now) c.args.core.now) (g.met.S.Shelf.lawful c.args.shelf.now)

pub returns-in_err-reserve_tables-clause-grown : goal.returns-in_err-reserve_tables-clause-grown
returns-in_err-reserve_tables-clause-grown g c =
    c.in_err-reserve_tables.ensures.grown (g.S.Shelf.state c.args.shelf.now) (g.met.S.Shelf.lawful c.args.shelf.now)

pub returns-in_err-reserve-clause-grown : goal.returns-in_err-reserve-clause-grown
returns-in_err-reserve-clause-grown g c =
    let old = g.S.Shelf.state c.args.shelf.now in
    subst (λ (s : State). IsGrown (world old c.args.core.now) (world s c.reserve_tables.new.core)) (sym c.in_err-reserve.ensures.err)
    (c.in_ok-reserve_tables.ensures.grown old (g.met.S.Shelf.lawful c.args.shelf.now))

pub returns-clause-grown : goal.returns-clause-grown
returns-clause-grown g c =
    let old = g.S.Shelf.state c.args.shelf.now in
    let now = g.S.Shelf.state c.reserve.new.self in
    let room = c.in_ok-room.room in
    grown_both (world old c.args.core.now) (world old c.reserve_tables.new.core) (world now c.reserve_tables.new.core)
    (c.in_ok-reserve_tables.ensures.grown old (g.met.S.Shelf.lawful c.args.shelf.now))
    (shelf_grown (world old c.reserve_tables.new.core) now room.ops room.sectors (g.met.S.Shelf.lawful c.reserve.new.self)
    c.in_ok-reserve.ensures.ok)

pub returns-clause-room : goal.returns-clause-room
returns-clause-room g c =
    let old = g.S.Shelf.state c.args.shelf.now in
    let now = g.S.Shelf.state c.reserve.new.self in
    let room = c.in_ok-room.room in
    let many : c.len.result ≡ length c.args.plan.now.pieces.items = omega (arith, c.len.ensures, c.args.plan.now.pieces.ok.0) in
    let tables = c.in_ok-reserve_tables.ensures.grown old (g.met.S.Shelf.lawful c.args.shelf.now) in
    let grown =
    grown_both (world old c.args.core.now) (world old c.reserve_tables.new.core) (world now c.reserve_tables.new.core) tables
    (shelf_grown (world old c.reserve_tables.new.core) now room.ops room.sectors (g.met.S.Shelf.lawful c.reserve.new.self)
    c.in_ok-reserve.ensures.ok) in
    has_room (world old c.args.core.now) (world now c.reserve_tables.new.core) c.args.plan.now room room.ops room.sectors old grown
    (c.in_ok-room.ensures ∙ ap (λ (r : Room). more c.args.core.now.owed r) c.in_ok-room_of.ensures) c.see_counts.ensures
    (subst (λ (n : ℕ). HasTables c.reserve_tables.new.core n room) many c.in_ok-reserve_tables.ensures.room)
    c.in_ok-reserve.ensures.ok refl refl
