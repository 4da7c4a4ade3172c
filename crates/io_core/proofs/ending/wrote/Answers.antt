use Rattle.std.proofs.Common.{◌≡◌, ◌≤◌, ◌<◌, ℕ, ◌+◌, ◌*◌, None, true, false, is_some, length, sym, ap, subst, ◌∙◌, arith}
use Rattle.flush_waits.specs.Waits.{Waits}
use Rattle.piece_table.specs.declared.live.LivePiece.{LivePiece}
use Rattle.piece_table.specs.Pieces.{Pieces, flying_at, is_among, is_started_stage, is_waiting, live_at}
use Rattle.piece_table.specs.Steps.{live_of}
use Rattle.line_table.specs.Steps.{after_took}
use Rattle.world_acts.specs.declared.room.Room.{Room}
use Rattle.world_acts.specs.Acts.{World, world}
use Rattle.world_acts.specs.OpenLines.{left_of}
use Rattle.world_acts.specs.Rooms.{Covers}
use Rattle.io_core.proofs.PieceAsks.{found, live_is, wait_covered, write_covered}
use Rattle.io_core.proofs.Settled.{OfLine, started_there}
use Rattle.io_core.proofs.StartedAsks.{IsAtWork, at_work, noted_within, wait_spare, write_spare}
use Rattle.io_core.proofs.Tickets.{StaysStarted, stays_started, unticketed_same}
use Rattle.io_core.proofs.Wrote.{WroteBy, wait_room, wrote_leaves, wrote_stays}
use Rattle.io_core.proofs.ending.wrote.Goals as goal

pub wrote-place-requires-clause-spare : goal.wrote-place-requires-clause-spare
wrote-place-requires-clause-spare g c =
    let w : World = world (g.S.Shelf.state c.args.shelf.now) c.args.core.now in
    let p : OfLine w c.args.number = started_there w c.args.number c.requires.orderly c.requires.started in
    write_spare w p.live c.requires.orderly (at_work w c.args.number p.live c.requires.orderly p.at c.requires.started)
    (ap (λ (x : LivePiece). x.piece.write) (sym p.is) ∙ c.requires.write)

pub note-requires-clause-within : goal.note-requires-clause-within
note-requires-clause-within g c =
    let l : LivePiece = c.get-live.result.now in
    let w : World = world (g.S.Shelf.state c.args.shelf.now) c.args.core.now in
    subst (λ (x : Waits). l.piece.volume * length x.disks + c.args.pv < length x.dirty) (sym c.wrote-place.ensures.after)
    (noted_within w c.args.number c.args.pv l c.requires.orderly c.get-live.ensures c.requires.disk)

pub took-requires-clause-entry : goal.took-requires-clause-entry
took-requires-clause-entry g c =
    (at_work (world (g.S.Shelf.state c.args.shelf.now) c.args.core.now) c.args.number c.get-live.result.now c.requires.orderly
    c.get-live.ensures c.requires.started).entry

pub took-requires-clause-line : goal.took-requires-clause-line
took-requires-clause-line g c =
    (at_work (world (g.S.Shelf.state c.args.shelf.now) c.args.core.now) c.args.number c.get-live.result.now c.requires.orderly
    c.get-live.ensures c.requires.started).line

pub shrink-requires : goal.shrink-requires
shrink-requires g c =
    let l : LivePiece = c.get-live.result.now in
    let w : World = world (g.S.Shelf.state c.args.shelf.now) c.args.core.now in
    write_covered c.args.core.now.owed l
    (ap (λ (x : LivePiece). x.piece.write) (sym (live_is c.args.core.now.pieces c.args.number l c.get-live.ensures)) ∙ c.requires.write)
    (at_work w c.args.number l c.requires.orderly c.get-live.ensures c.requires.started).room

pub set_stage-requires-clause-among : goal.set_stage-requires-clause-among
set_stage-requires-clause-among g c =
    let w : World = world (g.S.Shelf.state c.args.shelf.now) c.args.core.now in
    let l : LivePiece = c.get-live.result.now in
    let stays : StaysStarted c.args.core.now.pieces c.args.number l =
    stays_started c.args.core.now.pieces c.args.number l c.requires.orderly.tidy.pieces.single c.get-live.ensures
    (found (λ (y : LivePiece). is_started_stage y.stage) (live_at c.args.core.now.pieces.lives c.args.number) l c.get-live.ensures
    c.requires.started) in
    subst (λ (x : Pieces). is_among x c.args.number ≡ true) (sym c.in-Some.ensures.after) stays.among

pub set_stage-requires-clause-submitted : goal.set_stage-requires-clause-submitted
set_stage-requires-clause-submitted g c =
    let w : World = world (g.S.Shelf.state c.args.shelf.now) c.args.core.now in
    let l : LivePiece = c.get-live.result.now in
    let stays : StaysStarted c.args.core.now.pieces c.args.number l =
    stays_started c.args.core.now.pieces c.args.number l c.requires.orderly.tidy.pieces.single c.get-live.ensures
    (found (λ (y : LivePiece). is_started_stage y.stage) (live_at c.args.core.now.pieces.lives c.args.number) l c.get-live.ensures
    c.requires.started) in
    subst (λ (x : Pieces). is_waiting x c.args.number ≡ false) (sym c.in-Some.ensures.after) stays.submitted

pub set_stage-requires-clause-flying : goal.set_stage-requires-clause-flying
set_stage-requires-clause-flying g c =
    let w : World = world (g.S.Shelf.state c.args.shelf.now) c.args.core.now in
    let l : LivePiece = c.get-live.result.now in
    let stays : StaysStarted c.args.core.now.pieces c.args.number l =
    stays_started c.args.core.now.pieces c.args.number l c.requires.orderly.tidy.pieces.single c.get-live.ensures
    (found (λ (y : LivePiece). is_started_stage y.stage) (live_at c.args.core.now.pieces.lives c.args.number) l c.get-live.ensures
    c.requires.started) in
    sym (subst (λ (x : Pieces). flying_at x c.args.number ≡ 0) (sym c.in-Some.ensures.after) (stays.flying ∙ c.requires.landed))

pub shrink-requires-in-Some : goal.shrink-requires-in-Some
shrink-requires-in-Some g c =
    let w : World = world (g.S.Shelf.state c.args.shelf.now) c.args.core.now in
    let l : LivePiece = c.get-live.result.now in
    let at : IsAtWork w l = at_work w c.args.number l c.requires.orderly c.get-live.ensures c.requires.started in
    let through : is_some l.ticket ≡ true =
    ap is_some (ap (λ (x : LivePiece). x.ticket) (sym (live_is c.args.core.now.pieces c.args.number l c.get-live.ensures))
    ∙ sym c.in-Some.ensures.ticket) in
    subst (λ (r : Room). Covers r wait_room) (sym c.shrink.ensures) (wait_covered c.args.core.now.owed l through at.room)

pub wait-requires-clause-disk : goal.wait-requires-clause-disk
wait-requires-clause-disk g c =
    subst (λ (x : Waits). c.args.pv < length x.disks) (sym c.note.ensures)
    (subst (λ (x : Waits). c.args.pv < length x.disks) (sym c.wrote-place.ensures.after) c.requires.disk)

pub wait-requires-clause-completed : goal.wait-requires-clause-completed
wait-requires-clause-completed g c =
    subst (λ (x : Waits). c.wrote-place.result ≤ x.plan.held) (sym c.note.ensures) (omega (arith, c.wrote-place.ensures.last))

pub wait-requires-clause-room : goal.wait-requires-clause-room
wait-requires-clause-room g c =
    let w : World = world (g.S.Shelf.state c.args.shelf.now) c.args.core.now in
    let l : LivePiece = c.get-live.result.now in
    let at : IsAtWork w l = at_work w c.args.number l c.requires.orderly c.get-live.ensures c.requires.started in
    let through : is_some l.ticket ≡ true =
    ap is_some (ap (λ (x : LivePiece). x.ticket) (sym (live_is c.args.core.now.pieces c.args.number l c.get-live.ensures))
    ∙ sym c.in-Some.ensures.ticket) in
    subst (λ (x : Waits). 0 < x.room) (sym c.note.ensures)
    (subst (λ (x : Waits). 0 < x.room) (sym c.wrote-place.ensures.after) (wait_spare w l c.requires.orderly at through))

pub leave-requires-clause-among : goal.leave-requires-clause-among
leave-requires-clause-among g c =
    let w : World = world (g.S.Shelf.state c.args.shelf.now) c.args.core.now in
    let l : LivePiece = c.get-live.result.now in
    let stays : StaysStarted c.args.core.now.pieces c.args.number l =
    stays_started c.args.core.now.pieces c.args.number l c.requires.orderly.tidy.pieces.single c.get-live.ensures
    (found (λ (y : LivePiece). is_started_stage y.stage) (live_at c.args.core.now.pieces.lives c.args.number) l c.get-live.ensures
    c.requires.started) in
    subst (λ (x : Pieces). is_among x c.args.number ≡ true) (sym c.in-None.ensures.after) stays.among

pub leave-requires-clause-landed : goal.leave-requires-clause-landed
leave-requires-clause-landed g c =
    let w : World = world (g.S.Shelf.state c.args.shelf.now) c.args.core.now in
    let l : LivePiece = c.get-live.result.now in
    let stays : StaysStarted c.args.core.now.pieces c.args.number l =
    stays_started c.args.core.now.pieces c.args.number l c.requires.orderly.tidy.pieces.single c.get-live.ensures
    (found (λ (y : LivePiece). is_started_stage y.stage) (live_at c.args.core.now.pieces.lives c.args.number) l c.get-live.ensures
    c.requires.started) in
    subst (λ (x : Pieces). flying_at x c.args.number ≡ 0) (sym c.in-None.ensures.after) (stays.flying ∙ c.requires.landed)

pub leave-requires-clause-left : goal.leave-requires-clause-left
leave-requires-clause-left g c =
    let w : World = world (g.S.Shelf.state c.args.shelf.now) c.args.core.now in
    let l : LivePiece = c.get-live.result.now in
    let at : IsAtWork w l = at_work w c.args.number l c.requires.orderly c.get-live.ensures c.requires.started in
    let none : l.ticket ≡ None =
    ap (λ (x : LivePiece). x.ticket) (sym (live_is c.args.core.now.pieces c.args.number l c.get-live.ensures))
    ∙ sym c.in-None.ensures.ticket in
    let same : c.take_ticket.new.self ≡ c.args.core.now.pieces =
    c.in-None.ensures.after ∙ unticketed_same c.args.core.now.pieces c.args.number l c.get-live.ensures none in
    subst (λ (x : Pieces). 0 < left_of c.args.core.now.opens (live_of x c.args.number).line) (sym same)
    (subst (λ (x : LivePiece). 0 < left_of c.args.core.now.opens x.line)
    (sym (live_is c.args.core.now.pieces c.args.number l c.get-live.ensures)) at.left)

pub returns-in-Some : goal.returns-in-Some
returns-in-Some g c =
    let w : World = world (g.S.Shelf.state c.args.shelf.now) c.args.core.now in
    let l : LivePiece = c.get-live.result.now in
    let at : IsAtWork w l = at_work w c.args.number l c.requires.orderly c.get-live.ensures c.requires.started in
    let through : is_some l.ticket ≡ true =
    ap is_some (ap (λ (x : LivePiece). x.ticket) (sym (live_is c.args.core.now.pieces c.args.number l c.get-live.ensures))
    ∙ sym c.in-Some.ensures.ticket) in
    let took : c.took.new.self ≡ after_took c.args.core.now.lines l.line l.piece (g.S.Shelf.state c.args.shelf.now).steps =
    c.took.ensures ∙ ap (λ (n : ℕ). after_took c.args.core.now.lines l.line l.piece n) c.steps.ensures in
    let by : WroteBy c.args.core.now c.args.number c.args.pv (g.S.Shelf.state c.args.shelf.now).steps l c.wrote-place.result
    c.wrote-place.new.self c.note.new.self c.took.new.self c.take_ticket.new.self c.shrink.new.self =
    record {
      at = c.get-live.ensures;
      wrote = c.wrote-place.ensures.after;
      placed = c.wrote-place.ensures.place;
      noted = c.note.ensures;
      took = took;
      owes = c.shrink.ensures;
      ticket = c.in-Some.ensures.after;
    } in
    wrote_stays by c.set_stage.new.self c.wait.new.self c.shrink-in-Some.new.self c.set_stage.ensures c.wait.ensures.after
    c.shrink-in-Some.ensures through

pub returns-in-None : goal.returns-in-None
returns-in-None g c =
    let w : World = world (g.S.Shelf.state c.args.shelf.now) c.args.core.now in
    let l : LivePiece = c.get-live.result.now in
    let at : IsAtWork w l = at_work w c.args.number l c.requires.orderly c.get-live.ensures c.requires.started in
    let none : l.ticket ≡ None =
    ap (λ (x : LivePiece). x.ticket) (sym (live_is c.args.core.now.pieces c.args.number l c.get-live.ensures))
    ∙ sym c.in-None.ensures.ticket in
    let took : c.took.new.self ≡ after_took c.args.core.now.lines l.line l.piece (g.S.Shelf.state c.args.shelf.now).steps =
    c.took.ensures ∙ ap (λ (n : ℕ). after_took c.args.core.now.lines l.line l.piece n) c.steps.ensures in
    let by : WroteBy c.args.core.now c.args.number c.args.pv (g.S.Shelf.state c.args.shelf.now).steps l c.wrote-place.result
    c.wrote-place.new.self c.note.new.self c.took.new.self c.take_ticket.new.self c.shrink.new.self =
    record {
      at = c.get-live.ensures;
      wrote = c.wrote-place.ensures.after;
      placed = c.wrote-place.ensures.place;
      noted = c.note.ensures;
      took = took;
      owes = c.shrink.ensures;
      ticket = c.in-None.ensures.after;
    } in
    wrote_leaves by c.leave.new.core c.leave.ensures none
