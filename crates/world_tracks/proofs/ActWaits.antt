-- What notes wait for is kept by each act that begins no line and writes none.
use Rattle.std.proofs.Common.{◌≡◌, ◌≤◌, ◌<◌, ◌⊎◌, ℕ, ◌+◌, ◌-◌, Bool, true, false, nat_eq, List, [], ◌∷◌, Option}
use Rattle.std.proofs.Common.{None, Some, IfSome, inl, inr, ⊎_elim, is_some, slice_get, unwrap_or, refl, sym, ap, subst, ◌∙◌, arith}
use Rattle.std.proofs.Common.{true≢false}
use Rattle.std.specs.Option.{option_map_or}
use Rattle.std.proofs.lemmas.Bool.{eqb-true}
use Rattle.std.proofs.lemmas.Option.{none-some, same_Some}
use Rattle.sector_base.specs.declared.places.Piece.{Piece}
use Rattle.line_answers.specs.declared.answer.Answer.{Answer}
use Rattle.disk_model.specs.State.{State}
use Rattle.disk_model.specs.declared.ops.Done.{Done}
use Rattle.disk_model.specs.declared.ops.Op.{Op}
use Rattle.claim_table.specs.declared.claim.Entry.{Entry}
use Rattle.flush_plan.specs.Plans.{marks_of}
use Rattle.flush_waits.specs.declared.ticket.Waiter.{Waiter}
use Rattle.flush_waits.specs.declared.ticket.Waiter.TheVariants as waiter
use Rattle.flush_waits.specs.declared.ticket.Waiting.{Waiting}
use Rattle.flush_waits.specs.Steps.{after_release}
use Rattle.flush_waits.specs.Waits.{dirty_at, disk_waits}
use Rattle.piece_table.specs.declared.live.LivePiece.{LivePiece}
use Rattle.piece_table.specs.declared.live.Owner.{Owner}
use Rattle.piece_table.specs.declared.live.Stage.{Stage}
use Rattle.piece_table.specs.declared.live.Stage.TheVariants.{Started, Taken, Waiting as Unsubmitted}
use Rattle.piece_table.specs.Pieces.{Pieces, flying_in, is_started, live_at, may_start, owner_at}
use Rattle.piece_table.specs.Steps.{live_of, no_live, with_flying, with_live, with_stage, without_ticket}
use Rattle.world_places.specs.Lives.{Written}
use Rattle.world_acts.specs.declared.open_line.OpenLine.{OpenLine}
use Rattle.world_acts.specs.declared.state.Core.{Core}
use Rattle.world_acts.specs.Acts.{Act, Allowed, Answers, Asks, AsksFlush, Awaits, Begins, Ends, EndsFlush, Enters, Fails, Grows, Holds}
use Rattle.world_acts.specs.Acts.{IsSettledWait, LineFails, Marks, Passes, Readies, Reads, Releases, Starts, Wakes, World, Writes, after}
use Rattle.world_acts.specs.Acts.{Reaches, core_released, follows, line_of_waiter, piece_at, prepares, released_at}
use Rattle.world_acts.specs.Counts.{awaited_at, awaited_of, is_line, is_piece, is_taken, waiting}
use Rattle.world_acts.specs.OpenLines.{Opens, after_failure, after_filled, after_finished, filled, open_at, open_of}
use Rattle.world_acts.specs.Orderly.{IsLive, IsOfLine, IsOrderly}
use Rattle.world_acts.specs.Steps.{after_answers, after_released, grown}
use Rattle.world_acts.proofs.Known.{owner_flies}
use Rattle.world_acts.proofs.Lasting.{lasts_act}
use Rattle.world_acts.proofs.LinesKept.{hit, line_failed, open_is}
use Rattle.world_acts.proofs.Orderly.{orderly_after}
use Rattle.world_acts.proofs.PiecesKept.{PieceAt, awaiting_taken, flying_started, start_waits, started_at, waiting_at}
use Rattle.world_acts.proofs.Reaching.{reaches_keep}
use Rattle.world_acts.proofs.Releasing.{FirstGone, first_gone, open_by_left}
use Rattle.world_acts.proofs.Tables.{AreSingle, Changes, appended, at_number, changes_both, other_at, own_at, removed, revalued, some_of}
use Rattle.io_core.proofs.LiveLines.{live_open, set_open}
use Rattle.world_tracks.specs.Notes.{AreWaited, Lasts, WaitsFor}
use Rattle.world_tracks.proofs.QuietWaits.{Carries, HaveTickets, LinesWere, WasOpen, awaiting_changed, carries_lines, carries_piece}
use Rattle.world_tracks.proofs.QuietWaits.{carries_quiet}
use Rattle.world_tracks.proofs.QuietWaits.{of_line, of_piece, tickets_changed, tickets_same, waited_carried, waits_counted, were_added}
use Rattle.world_tracks.proofs.QuietWaits.{were_both, were_closed, were_failed, were_filled, were_finished, were_itself}
use Rattle.world_tracks.proofs.WaitSteps.{WaitsGo, WaitsRise, first_or_waits, goes_ended, goes_forgot, goes_nowhere, goes_spare}
use Rattle.world_tracks.proofs.WaitSteps.{goes_submitted, goes_wait, rises_both, rises_release}

-- ---- pieces that change

-- a piece has come to another stage
pub stage_change : (p : Pieces) (number : ℕ) (l : LivePiece) (stage : Stage) → AreSingle p.lives → live_at p.lives number ≡ Some l
    → Changes number (Some l) (Some (record l { stage = stage })) p.lives (with_stage p number stage).lives
stage_change p number l stage single at =
    subst (λ (x : LivePiece). Changes number (Some l) (Some (record l { stage = stage })) p.lives
    (with_live p number (record x { stage = stage })).lives) (sym (ap (λ (o : Option LivePiece). unwrap_or o no_live) at))
    (revalued p.lives number l (record l { stage = stage }) single at)

-- a piece has no ticket any more
pub ticket_change : (p : Pieces) (number : ℕ) (l : LivePiece) → AreSingle p.lives → live_at p.lives number ≡ Some l
    → Changes number (Some l) (Some (record l { ticket = None })) p.lives (without_ticket p number).lives
ticket_change p number l single at =
    subst (λ (x : LivePiece). Changes number (Some l) (Some (record l { ticket = None })) p.lives
    (with_live p number (record x { ticket = None })).lives) (sym (ap (λ (o : Option LivePiece). unwrap_or o no_live) at))
    (revalued p.lives number l (record l { ticket = None }) single at)

-- the piece with this number, and its open line
pub record HasPiece (w : World) (number : ℕ) : Type 0 where
  pub live : LivePiece
  pub at : live_at w.core.pieces.lives number ≡ Some live
  pub is : live_of w.core.pieces number ≡ live
  pub opened : OpenLine
  pub is_open : open_at w.core.opens (live_of w.core.pieces number).line ≡ Some opened

-- it has both where it is under way
abbrev pub piece_of : (w : World) (number : ℕ) (l : LivePiece) → IsOrderly w → live_at w.core.pieces.lives number ≡ Some l
    → HasPiece w number
piece_of w number l o at =
    let is : live_of w.core.pieces number ≡ l = ap (λ (x : Option LivePiece). unwrap_or x no_live) at in
    let its : IsOfLine w.core.opens l = live_open w number l o at in
    record {
      live = l;
      at = at;
      is = is;
      opened = its.opened;
      is_open = ap (λ (x : LivePiece). open_at w.core.opens x.line) is ∙ its.is_open;
    }

-- one that has not taken place
pub record HasFree (w : World) (number : ℕ) : Type 0 where
  pub piece : HasPiece w number
  pub free : is_taken piece.live.stage ≡ false

-- it is known by its stage
at_stage : (w : World) (number : ℕ) (stage : Stage) → IsOrderly w → PieceAt w.core.pieces.lives number stage → is_taken stage ≡ false
    → HasFree w number
at_stage w number stage o it free =
    let l : LivePiece = record { line = it.line; piece = it.piece; stage = stage; ticket = it.ticket } in
    record { piece = piece_of w number l o it.at; free = free }

-- one that may start
pub startable : (w : World) (number : ℕ) → IsOrderly w → may_start w.core.pieces number ≡ true → HasFree w number
startable w number o may =
    let it = waiting_at w.core.pieces.lives number (start_waits w.core.pieces number may) in
    at_stage w number (Unsubmitted it.0) o it.1 refl

-- one that is started
pub started : (w : World) (number : ℕ) → IsOrderly w → is_started w.core.pieces number ≡ true → HasFree w number
started w number o is =
    let it = started_at w.core.pieces.lives number is in at_stage w number (Started it.0 it.1) o it.2 refl

-- one of which an operation is in flight
pub flying : (w : World) (tag : ℕ) → IsOrderly w → is_some (owner_at w.core.pieces.owners tag) ≡ true → HasFree w (piece_at w.core tag)
flying w tag o some =
    let c : Core = w.core in
    let owns : (x : Owner) × (owner_at c.pieces.owners tag ≡ Some x) = some_of (owner_at c.pieces.owners tag) some in
    let number : piece_at c tag ≡ owns.0.piece = ap (λ (x : Option Owner). option_map_or (λ (y : Owner). y.piece) x 0) owns.1 in
    let flies : 0 < flying_in c.pieces.lives (piece_at c tag) =
    subst (λ (n : ℕ). 0 < flying_in c.pieces.lives n) (sym number) (owner_flies tag owns.0 o.tidy.owners owns.1) in
    let it = flying_started c.pieces.lives (piece_at c tag) flies in
    at_stage w (piece_at c tag) (Started it.0 it.1) o it.2 refl

-- no piece has the next number
pub next_free : (w : World) → IsOrderly w → live_at w.core.pieces.lives w.core.pieces.next ≡ None
next_free w o = by (live_at w.core.pieces.lives w.core.pieces.next) refl
  where
    by : (x : Option LivePiece) → live_at w.core.pieces.lives w.core.pieces.next ≡ x
        → live_at w.core.pieces.lives w.core.pieces.next ≡ None
    by None at = at
    by (Some l) at =
        let c : Core = w.core in
        let is : IsLive c.lines.begun c.opens c.pieces.next (c.pieces.next, l) =
        at_number (IsLive c.lines.begun c.opens c.pieces.next) c.pieces.lives c.pieces.next l o.tidy.pieces.each at in
        let below : c.pieces.next < c.pieces.next = is.below in absurd (omega (arith, below))

-- ---- each act

-- a piece enters: its ticket is that of its line
waited_enters : (w : World) (line : ℕ) (piece : Piece) (sectors : List (List ℕ)) (ticket : Option (Unit {0})) (entry : Entry)
    → IsOrderly w → Allowed w (Enters line piece sectors ticket entry)
    → Carries w.core (after w (Enters line piece sectors ticket entry)).core
waited_enters w line piece sectors ticket entry o may =
    let c : Core = w.core in
    let d : Core = (after w (Enters line piece sectors ticket entry)).core in
    let m = may.0 in
    let new : LivePiece = record { line = line; piece = piece; stage = Unsubmitted sectors; ticket = ticket } in
    let none : live_at c.pieces.lives c.pieces.next ≡ None = next_free w o in
    let change : Changes c.pieces.next None (Some new) c.pieces.lives d.pieces.lives =
    appended c.pieces.lives c.pieces.next new o.tidy.pieces.single none in
    carries_quiet o.tidy refl (goes_nowhere c.waits) (were_added c.opens line m.opened m.is_open)
    (tickets_changed c d refl change (λ have taken. m.waits))
    (awaiting_changed c d change (ap (λ (x : Option LivePiece). option_map_or (λ (y : LivePiece). awaited_of y.stage) x 0) none))

-- a line waits for one write more
waited_awaits : (w : World) (line pv : ℕ) → IsOrderly w → Allowed w (Awaits line pv) → Carries w.core (after w (Awaits line pv)).core
waited_awaits w line pv o m =
    let place : ℕ = dirty_at w.core.waits (open_of w.core.opens line).key pv in
    carries_lines o.tidy refl (goes_wait w.core.waits (record { waiter = waiter.Line line; place = place }) pv)
    (were_added w.core.opens line m.opened m.is_open) refl

-- a line is to answer that it failed
waited_line_fails : (w : World) (line : ℕ) (why : Answer) → IsOrderly w → Allowed w (LineFails line why)
    → Carries w.core (after w (LineFails line why)).core
waited_line_fails w line why o may =
    let its = some_of (open_at w.core.opens line) may.0 in
    carries_lines o.tidy refl (goes_nowhere w.core.waits) (were_failed w.core.opens line why its.0 its.1) refl

-- a piece starts, or is asked for
waited_starts : (w : World) (number : ℕ) → IsOrderly w → Allowed w (Starts number) → Carries w.core (after w (Starts number)).core
waited_starts w number o may =
    let c : Core = w.core in
    let x : HasFree w number = startable w number o may in
    carries_piece o.tidy refl (goes_nowhere c.waits) (were_itself c.opens)
    (stage_change c.pieces number x.piece.live (Started 0 None) o.tidy.pieces.single x.piece.at) x.free (λ taken. (refl, refl))

waited_asks : (w : World) (number : ℕ) (op : Op) (tag : ℕ) (now : State) → IsOrderly w → Allowed w (Asks number op tag now)
    → Carries w.core (after w (Asks number op tag now)).core
waited_asks w number op tag now o may =
    let c : Core = w.core in
    let x : HasFree w number = startable w number o may.2 in
    let first = stage_change c.pieces number x.piece.live (Started 0 None) o.tidy.pieces.single x.piece.at in
    let p : Pieces = with_stage c.pieces number (Started 0 None) in
    let second =
    stage_change p number (record x.piece.live { stage = Started 0 None }) (with_flying (live_of p number).stage (λ n. n + 1))
    first.single (own_at first) in
    carries_piece o.tidy refl (goes_nowhere c.waits) (were_itself c.opens) (changes_both first second) x.free (λ taken. (refl, refl))

-- its operation has completed
waited_ends : (w : World) (done : Done) (now : State) → IsOrderly w → Allowed w (Ends done now)
    → Carries w.core (after w (Ends done now)).core
waited_ends w done now o may =
    let c : Core = w.core in
    let number : ℕ = piece_at c done.tag in
    let x : HasFree w number = flying w done.tag o may.2 in
    carries_piece o.tidy refl (goes_nowhere c.waits) (were_itself c.opens)
    (stage_change c.pieces number x.piece.live (with_flying (live_of c.pieces number).stage (λ n. n - 1)) o.tidy.pieces.single x.piece.at)
    x.free (λ taken. (refl, refl))

-- it fails, and leaves
waited_fails : (w : World) (number : ℕ) (why : Answer) → IsOrderly w → Allowed w (Fails number why)
    → Carries w.core (after w (Fails number why)).core
waited_fails w number why o may =
    let c : Core = w.core in
    let x : HasFree w number = started w number o may.0 in
    let line : ℕ = (live_of c.pieces number).line in
    let mid : Opens = after_failure c.opens line why in
    let its = (line_failed c.opens line x.piece.opened why x.piece.is_open).lines line x.piece.opened x.piece.is_open in
    let first = ticket_change c.pieces number x.piece.live o.tidy.pieces.single x.piece.at in
    let second =
    removed (without_ticket c.pieces number).lives number (record x.piece.live { ticket = None }) first.single (own_at first) in
    carries_piece o.tidy refl (goes_nowhere c.waits)
    (were_both c.opens mid (after_finished mid line) (were_failed c.opens line why x.piece.opened x.piece.is_open)
    (were_finished mid line its.0 its.1)) (changes_both first second) x.free tt

-- it has read, and leaves
waited_reads : (w : World) (number : ℕ) (sectors : List (List ℕ)) → IsOrderly w → Allowed w (Reads number sectors)
    → Carries w.core (after w (Reads number sectors)).core
waited_reads w number sectors o may =
    let c : Core = w.core in
    let x : HasFree w number = started w number o may.0 in
    let line : ℕ = (live_of c.pieces number).line in
    let from : ℕ = (live_of c.pieces number).piece.first in
    let mid : Opens = after_filled c.opens line from sectors in
    let now : OpenLine = record (open_of c.opens line) { work = filled (open_of c.opens line).work from sectors } in
    carries_piece o.tidy refl (goes_nowhere c.waits)
    (were_both c.opens mid (after_finished mid line) (were_filled c.opens line from sectors x.piece.opened x.piece.is_open)
    (were_finished mid line now (set_open c.opens line x.piece.opened now x.piece.is_open)))
    (removed c.pieces.lives number x.piece.live o.tidy.pieces.single x.piece.at) x.free tt

-- a flush is submitted, or ends
waited_asks_flush : (w : World) (pv tag : ℕ) (now : State) → IsOrderly w → Allowed w (AsksFlush pv tag now)
    → Carries w.core (after w (AsksFlush pv tag now)).core
waited_asks_flush w pv tag now o may =
    carries_lines o.tidy refl (goes_submitted w.core.waits pv tag may.3) (were_itself w.core.opens) refl

waited_ends_flush : (w : World) (done : Done) (now : State) → IsOrderly w → Carries w.core (after w (EndsFlush done now)).core
waited_ends_flush w done now o =
    carries_lines o.tidy refl (goes_ended w.core.waits done.tag done.well) (were_itself w.core.opens) refl

-- a line is answered
waited_answers : (w : World) (barrier : Option ℕ) (line : ℕ) → IsOrderly w
    → (after_answers (record w.core { barrier = barrier }) line w.shelf.steps).lines.begun ≡ w.core.lines.begun
    → Carries w.core (after_answers (record w.core { barrier = barrier }) line w.shelf.steps)
waited_answers w barrier line o begun =
    carries_lines o.tidy begun (goes_nowhere w.core.waits) (were_closed w.core.opens line) refl

-- more is spare
waited_grows : (w v : World) → IsOrderly w → Carries w.core (grown w.core v.core)
waited_grows w v o =
    carries_lines o.tidy refl (goes_spare w.core.waits v.core.waits.plan.spare v.core.waits.room) (were_itself w.core.opens) refl

-- ---- the first that was served waits no more

-- the first of a list
pub first_is : (l : List Waiting) (it : Waiting) → slice_get l 0 ≡ Some it → (rest : List Waiting) × (l ≡ it ∷ rest)
first_is [] it at = absurd (none-some it at)
first_is (x ∷ xs) it at = (xs, ap (λ (y : Waiting). y ∷ xs) (same_Some x it at))

-- what was released lasts, or its line has failed
its_settled : (c : Core) (pv : ℕ) (it who : Waiting) (w : Written) (line : ℕ) → IsSettledWait c pv it → pv ≡ w.pv → it ≡ who
    → w.place ≤ who.place → line_of_waiter c who.waiter ≡ line
    → Lasts c.waits w ⊎ (is_some (open_of c.opens line).failure ≡ true)
its_settled c pv it who w line settled disk same late of =
    let place : it.place ≡ who.place = ap (λ (x : Waiting). x.place) same in
    ⊎_elim
    (λ (below : it.place ≤ (marks_of c.waits.plan pv).stable).
    inl (subst (λ (n : ℕ). w.place ≤ (marks_of c.waits.plan n).stable) disk (omega (arith, below, place, late))))
    (λ (failed : is_some (open_of c.opens (line_of_waiter c it.waiter)).failure ≡ true).
    inr (subst (λ (n : ℕ). is_some (open_of c.opens n).failure ≡ true) (ap (λ (x : Waiting). line_of_waiter c x.waiter) same ∙ of) failed))
    settled

-- what the core behind it has
record Released (c d : Core) (pv : ℕ) (it : Waiting) : Type 0 where
  first : slice_get (disk_waits c.waits pv).served 0 ≡ Some it
  settled : IsSettledWait c pv it
  begun : d.lines.begun ≡ c.lines.begun
  rises : WaitsRise c.waits d.waits
  waits : (w : Written) (who : Waiting) → WaitsFor (after_release c.waits pv) w who → WaitsFor d.waits w who
  lines : LinesWere c.opens d.opens
  tickets : HaveTickets c → HaveTickets d
  stay :
      (q : ℕ) (l : LivePiece) → live_at c.pieces.lives q ≡ Some l → 0 < waiting (is_piece q) (after_release c.waits pv).disks
      → (m : LivePiece) × (live_at d.pieces.lives q ≡ Some m) × (m.line ≡ l.line)

-- a line that had failed has
failed_now : (c d : Core) (line : ℕ) (p : OpenLine) → WasOpen c.opens line p → is_some (open_of c.opens line).failure ≡ true
    → is_some p.failure ≡ true
failed_now c d line p was failed =
    was.failed (ap (λ (x : OpenLine). is_some x.failure) (sym (open_is c.opens line was.opened was.is_open)) ∙ failed)

-- what was released lasts, or its line has failed; what was not waits still
carries_released : {c d : Core} {pv : ℕ} {it : Waiting} → Released c d pv it → Carries c d
carries_released {c} {d} {pv} {it} r = record {
  begun = r.begun;
  rises = r.rises;
  lines = r.lines;
  tickets = r.tickets;
  own =
      λ w p at is. ⊎_elim
      (λ (f : (pv ≡ w.pv) × (slice_get (disk_waits c.waits pv).served 0 ≡ Some is.who)).
      ⊎_elim (λ lasts. inl (r.rises.lasts w lasts)) (λ failed. inr (inl (failed_now c d w.line p (r.lines w.line p at) failed)))
      (its_settled c pv it is.who w w.line r.settled f.0 (same_Some it is.who (sym r.first ∙ f.1)) is.waits.late
      (ap (λ (x : Waiter). line_of_waiter c x) is.its ∙ ap (λ (x : Option LivePiece). (unwrap_or x no_live).line) is.at ∙ is.line)))
      (λ (waits : WaitsFor (after_release c.waits pv) w is.who).
      let m = r.stay is.number is.live is.at
      (waits_counted (after_release c.waits pv).disks w.pv is.who (is_piece is.number) waits.there (of_piece is.who is.number is.its)) in
      inr (inr (record {
        number = is.number;
        live = m.0;
        at = m.1;
        line = m.2 ∙ is.line;
        who = is.who;
        its = is.its;
        waits = r.waits w is.who waits;
      })))
      (first_or_waits c.waits pv w is.who is.waits);
  others =
      λ n w p at is. ⊎_elim
      (λ (f : (pv ≡ w.pv) × (slice_get (disk_waits c.waits pv).served 0 ≡ Some is.who)).
      ⊎_elim (λ lasts. inl (r.rises.lasts w lasts)) (λ failed. inr (inl (failed_now c d n p (r.lines n p at) failed)))
      (its_settled c pv it is.who w n r.settled f.0 (same_Some it is.who (sym r.first ∙ f.1)) is.waits.late
      (ap (λ (x : Waiter). line_of_waiter c x) is.its)))
      (λ (waits : WaitsFor (after_release c.waits pv) w is.who).
      inr (inr (record { who = is.who; its = is.its; waits = r.waits w is.who waits })))
      (first_or_waits c.waits pv w is.who is.waits);
}

-- a line
released_line : (w : World) (pv line : ℕ) (it : Waiting) → IsOrderly w → slice_get (disk_waits w.core.waits pv).served 0 ≡ Some it
    → it.waiter ≡ waiter.Line line → IsSettledWait w.core pv it → Released w.core (after_released w.core (waiter.Line line) pv) pv it
released_line w pv line it o first who settled =
    let c : Core = w.core in
    let d : Core = after_released c (waiter.Line line) pv in
    let p = first_is (disk_waits c.waits pv).served it first in
    let gone : FirstGone c.waits pv it = first_gone c.waits pv it p.0 p.1 in
    let one : ◌≡◌ {A = ℕ} (hit (is_line line it)) 1 = ap hit (of_line it line who) in
    let its = open_by_left c.opens line (omega (arith, o.tidy.counts.left line, gone.counted (is_line line), one)) in
    record {
      first = first;
      settled = settled;
      begun = refl;
      rises = rises_release c.waits pv;
      waits = λ x y is. is;
      lines = were_finished c.opens line its.0 its.1;
      tickets = tickets_same c d refl refl;
      stay = λ q l at some. (l, at, refl);
    }

-- a piece, which waits once
released_piece : (w : World) (pv number : ℕ) (it : Waiting) → IsOrderly w → slice_get (disk_waits w.core.waits pv).served 0 ≡ Some it
    → it.waiter ≡ waiter.Piece number → IsSettledWait w.core pv it → Released w.core (after_released w.core (waiter.Piece number) pv) pv it
released_piece w pv number it o first who settled =
    let c : Core = w.core in
    let d : Core = after_released c (waiter.Piece number) pv in
    let p = first_is (disk_waits c.waits pv).served it first in
    let gone : FirstGone c.waits pv it = first_gone c.waits pv it p.0 p.1 in
    let one : ◌≡◌ {A = ℕ} (hit (is_piece number it)) 1 = ap hit (of_piece it number who) in
    let some : 0 < awaited_at c.pieces.lives number = omega (arith, o.tidy.counts.awaited number, gone.counted (is_piece number), one) in
    let taken = awaiting_taken c.pieces.lives number some in
    let l : LivePiece = record { line = taken.1.line; piece = taken.1.piece; stage = Taken taken.0; ticket = taken.1.ticket } in
    let x : HasPiece w number = piece_of w number l o taken.1.at in
    let live : IsLive c.lines.begun c.opens c.pieces.next (number, l) =
    at_number (IsLive c.lines.begun c.opens c.pieces.next) c.pieces.lives number l o.tidy.pieces.each taken.1.at in
    let most : taken.0 ≤ 1 = live.awaits.once in
    let count : awaited_at c.pieces.lives number ≡ taken.0 =
    ap (λ (y : Option LivePiece). option_map_or (λ (z : LivePiece). awaited_of z.stage) y 0) taken.1.at in
    let none : waiting (is_piece number) (after_release c.waits pv).disks ≡ 0 =
    omega (arith, o.tidy.counts.awaited number, gone.counted (is_piece number), one, most, count) in
    let change : Changes number (Some l) None c.pieces.lives d.pieces.lives =
    removed c.pieces.lives number l o.tidy.pieces.single taken.1.at in
    let forgot : WaitsGo (after_release c.waits pv) d.waits = goes_forgot (after_release c.waits pv) number pv in
    record {
      first = first;
      settled = settled;
      begun = refl;
      rises = rises_both (rises_release c.waits pv) forgot.rises;
      waits = forgot.waits;
      lines = were_finished c.opens (live_of c.pieces number).line x.opened x.is_open;
      tickets = tickets_changed c d refl change (λ have. tt);
      stay =
          λ q y at some. elim (nat_eq number q) as
          (λ b. nat_eq number q ≡ b → (m : LivePiece) × (live_at d.pieces.lives q ≡ Some m) × (m.line ≡ y.line)) [
            | true ↦ λ t.
                let its : waiting (is_piece q) (after_release c.waits pv).disks ≡ 0 =
                subst (λ (n : ℕ). waiting (is_piece n) (after_release c.waits pv).disks ≡ 0) (eqb-true number q t) none in
                absurd (omega (arith, some, its))
            | false ↦ λ t. (y, other_at change q t ∙ at, refl)
          ] refl;
    }

-- whichever is released
waited_releases : (w : World) (pv : ℕ) → IsOrderly w → Allowed w (Releases pv) → (but : ℕ → Bool) (notes : List Written)
    → AreWaited w.core but notes → AreWaited (after w (Releases pv)).core but notes
waited_releases w pv o may but notes a = by (released_at w.core pv) refl may.2
  where
    of : (it : Waiting) (who : Waiter) → it.waiter ≡ who → released_at w.core pv ≡ Some it → IsSettledWait w.core pv it
        → AreWaited (after_released w.core who pv) but notes
    of it (waiter.Line line) who at settled = waited_carried (carries_released (released_line w pv line it o at who settled)) a
    of it (waiter.Piece number) who at settled = waited_carried (carries_released (released_piece w pv number it o at who settled)) a

    by : (x : Option Waiting) → released_at w.core pv ≡ x → IfSome x (IsSettledWait w.core pv)
        → AreWaited (core_released w.core pv x) but notes
    by None at settled = a
    by (Some it) at settled = of it it.waiter refl at settled

-- ---- all of them

-- whether an act begins a line, or writes
abbrev pub notes_more : Act → Bool
notes_more (Begins line opened) = true
notes_more (Writes number pv) = true
notes_more _ = false

-- what notes wait for is kept
pub waited_act : (w : World) (a : Act) → IsOrderly w → Allowed w a → notes_more a ≡ false → (but : ℕ → Bool) (notes : List Written)
    → AreWaited w.core but notes → AreWaited (after w a).core but notes
waited_act w (Begins line opened) o may quiet but notes a = absurd (true≢false quiet)
waited_act w (Enters line piece sectors ticket entry) o may quiet but notes a =
    waited_carried (waited_enters w line piece sectors ticket entry o may) a
waited_act w (Awaits line pv) o may quiet but notes a = waited_carried (waited_awaits w line pv o may) a
waited_act w (LineFails line why) o may quiet but notes a = waited_carried (waited_line_fails w line why o may) a
waited_act w (Answers line) o may quiet but notes a =
    waited_carried (waited_answers w w.core.barrier line o ((lasts_act w (Answers line) may).begun refl)) a
waited_act w (Holds line) o may quiet but notes a =
    waited_carried (carries_lines o.tidy refl (goes_nowhere w.core.waits) (were_itself w.core.opens) refl) a
waited_act w (Passes line) o may quiet but notes a =
    waited_carried (waited_answers w None line o ((lasts_act w (Passes line) may).begun refl)) a
waited_act w Wakes o may quiet but notes a =
    waited_carried (carries_lines o.tidy refl (goes_nowhere w.core.waits) (were_itself w.core.opens) refl) a
waited_act w (Starts number) o may quiet but notes a = waited_carried (waited_starts w number o may) a
waited_act w (Asks number op tag now) o may quiet but notes a = waited_carried (waited_asks w number op tag now o may) a
waited_act w (Ends done now) o may quiet but notes a = waited_carried (waited_ends w done now o may) a
waited_act w (Marks pv) o may quiet but notes a =
    waited_carried (carries_lines o.tidy refl (goes_nowhere w.core.waits) (were_itself w.core.opens) refl) a
waited_act w (Fails number why) o may quiet but notes a = waited_carried (waited_fails w number why o may) a
waited_act w (Writes number pv) o may quiet but notes a = absurd (true≢false quiet)
waited_act w (Reads number sectors) o may quiet but notes a = waited_carried (waited_reads w number sectors o may) a
waited_act w (AsksFlush pv tag now) o may quiet but notes a = waited_carried (waited_asks_flush w pv tag now o may) a
waited_act w (EndsFlush done now) o may quiet but notes a = waited_carried (waited_ends_flush w done now o) a
waited_act w (Releases pv) o may quiet but notes a = waited_releases w pv o may but notes a
waited_act w (Readies now) o may quiet but notes a = a
waited_act w (Grows v) o may quiet but notes a =
    subst (λ (c : Core). AreWaited c but notes) (sym may.core) (waited_carried (waited_grows w v o) a)

-- ---- acts that follow one another

-- and so by acts that follow one another
pub waited_reaches : (may : Act → Bool) → ((a : Act) → may a ≡ true → notes_more a ≡ false) → (w v : World) → IsOrderly w
    → Reaches may w v
    → (but : ℕ → Bool) (notes : List Written)
    → AreWaited w.core but notes
    → AreWaited v.core but notes
waited_reaches may quiet w v o goes but notes a =
    (reaches_keep may (λ (x : World). IsOrderly x × AreWaited x.core but notes)
    (λ x act passes allowed p. (orderly_after x act p.0 allowed, waited_act x act p.0 allowed (quiet act passes) but notes p.1))
    w v goes (o, a)).1

-- what follows, and what prepares a line, neither begins one nor writes
pub follows_quiet : (a : Act) → follows a ≡ true → notes_more a ≡ false
follows_quiet (Begins line opened) is = absurd (true≢false (sym is))
follows_quiet (Writes number pv) is = absurd (true≢false (sym is))
follows_quiet _ is = refl

pub prepares_quiet : (line : ℕ) (a : Act) → prepares line a ≡ true → notes_more a ≡ false
prepares_quiet line (Begins n opened) is = absurd (true≢false (sym is))
prepares_quiet line (Writes number pv) is = absurd (true≢false (sym is))
prepares_quiet line _ is = refl
