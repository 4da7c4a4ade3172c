-- The steps of a write that took place, put together.
use Rattle.std.proofs.Common.{◌≡◌, ℕ, true, None, Some, is_some, sym, ap, ◌∙◌}
use Rattle.std.proofs.lemmas.Bool.{cond-false, cond-true}
use Rattle.flush_plan.specs.Plans.{marks_of}
use Rattle.flush_waits.specs.declared.ticket.Waiter.TheVariants as waiter
use Rattle.flush_waits.specs.Steps as waits
use Rattle.flush_waits.specs.Waits.{Waits}
use Rattle.line_table.specs.Steps.{Lines, after_took}
use Rattle.piece_table.specs.declared.live.LivePiece.{LivePiece}
use Rattle.piece_table.specs.declared.live.Stage.TheVariants.{Taken}
use Rattle.piece_table.specs.Pieces.{Pieces, live_at}
use Rattle.piece_table.specs.Steps.{live_of, with_stage, without_ticket}
use Rattle.world_acts.specs.declared.state.Core.{Core}
use Rattle.world_acts.specs.declared.room.Room.{Room}
use Rattle.world_acts.specs.Rooms.{fewer}
use Rattle.world_acts.specs.Steps.{after_leaves, after_stays, after_written, after_wrote}
use Rattle.io_core.proofs.PieceAsks.{live_is}
use Rattle.io_core.proofs.Tickets.{unticketed_same}

abbrev pub write_room : Room
write_room = record { ops = 0; sectors = 0; writes = 1; waits = 0; entries = 1 }

abbrev pub wait_room : Room
wait_room = record { ops = 0; sectors = 0; writes = 0; waits = 1; entries = 0 }

-- what the first steps make of the core of a piece
pub record WroteBy (c : Core) (number pv moment : ℕ) (l : LivePiece) (place : ℕ) (w v : Waits) (lines : Lines) (p : Pieces)
    (r : Room) : Type 0 where
  pub at : live_at c.pieces.lives number ≡ Some l
  pub wrote : w ≡ waits.after_wrote c.waits number pv
  pub placed : place ≡ (marks_of w.plan pv).written
  pub noted : v ≡ waits.after_noted w l.piece.volume pv place
  pub took : lines ≡ after_took c.lines l.line l.piece moment
  pub owes : r ≡ fewer c.owed write_room
  pub ticket : p ≡ without_ticket c.pieces number

module _ {c : Core} {number pv moment : ℕ} {l : LivePiece} {place : ℕ} {w v : Waits} {lines : Lines} {p : Pieces} {r : Room}
    (is : WroteBy c number pv moment l place w v lines p r) where
  same_place : place ≡ (marks_of (waits.after_wrote c.waits number pv).plan pv).written
  same_place = is.placed ∙ ap (λ (x : Waits). (marks_of x.plan pv).written) is.wrote

  same_live : l ≡ live_of c.pieces number
  same_live = sym (live_is c.pieces number l is.at)

  same_lines : lines ≡ (after_written c number pv moment).lines
  same_lines = is.took ∙ ap (λ (x : LivePiece). after_took c.lines x.line x.piece moment) same_live

  same_waits : v ≡ (after_written c number pv moment).waits
  same_waits = is.noted ∙ (λ i. waits.after_noted (is.wrote i) (same_live i).piece.volume pv (same_place i))

  -- the piece stays until its flush
  pub wrote_stays : (q : Pieces) (u : Waits) (s : Room) → q ≡ with_stage p number (Taken 1)
      → u ≡ waits.after_wait v (record { waiter = waiter.Piece number; place = place }) pv
      → s ≡ fewer r wait_room
      → is_some l.ticket ≡ true
      → record c { lines = lines; pieces = q; waits = u; owed = s } ≡ after_wrote c number pv moment
  wrote_stays q u s staged waited owed some =
      let written : Core = after_written c number pv moment in
      let to : ℕ = (marks_of written.waits.plan pv).written in
      let pieces : q ≡ with_stage (without_ticket c.pieces number) number (Taken 1) =
      staged ∙ ap (λ (x : Pieces). with_stage x number (Taken 1)) is.ticket in
      let waiting : u ≡ waits.after_wait written.waits (record { waiter = waiter.Piece number; place = to }) pv =
      waited ∙ (λ i. waits.after_wait (same_waits i) (record { waiter = waiter.Piece number; place = same_place i }) pv) in
      let owes : s ≡ fewer written.owed wait_room = owed ∙ ap (λ (x : Room). fewer x wait_room) is.owes in
      let both : record c { lines = lines; pieces = q; waits = u; owed = s } ≡ after_stays written number pv to =
      λ i. record c { lines = same_lines i; pieces = pieces i; waits = waiting i; owed = owes i } in
      both
      ∙ sym (cond-true (is_some (live_of c.pieces number).ticket) (after_stays written number pv to) (after_leaves written number pv)
      (ap (λ (x : LivePiece). is_some x.ticket) (sym same_live) ∙ some))

  -- or leaves
  pub wrote_leaves : (d : Core) → d ≡ after_leaves (record c { lines = lines; pieces = p; waits = v; owed = r }) number pv
      → l.ticket ≡ None
      → d ≡ after_wrote c number pv moment
  wrote_leaves d left none =
      let written : Core = after_written c number pv moment in
      let to : ℕ = (marks_of written.waits.plan pv).written in
      let pieces : p ≡ c.pieces = is.ticket ∙ unticketed_same c.pieces number l is.at none in
      let both : record c { lines = lines; pieces = p; waits = v; owed = r } ≡ written =
      λ i. record c { lines = same_lines i; pieces = pieces i; waits = same_waits i; owed = is.owes i } in
      left ∙ ap (λ (x : Core). after_leaves x number pv) both
      ∙ sym (cond-false (is_some (live_of c.pieces number).ticket) (after_stays written number pv to) (after_leaves written number pv)
      (ap (λ (x : LivePiece). is_some x.ticket) (sym same_live) ∙ ap is_some none))
