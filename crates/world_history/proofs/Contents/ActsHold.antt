-- Acts that add no entry keep what holds of the contents.
use Rattle.std.proofs.Common.{◌≡◌, ℕ, Bool, true, false, List, Option, Some, unwrap_or, refl, sym, ap, subst, arith, ◌||◌, not, true≢false}
use Rattle.std.proofs.lemmas.Bool.{and_parts}
use Rattle.std.specs.List.{list_any}
use Rattle.claim_table.specs.Extents.{overlaps}
use Rattle.claim_table.specs.Steps.{has_number}
use Rattle.piece_table.specs.Pieces.{is_waiting, is_waiting_stage, live_at, may_start}
use Rattle.world_acts.specs.Acts.{Asks, AsksFlush}
use Rattle.world_acts.specs.Volumes.{IsPlaced, span_of}
use Rattle.world_acts.proofs.PiecesKept.{start_waits, waiting_at}
use Rattle.io_core.proofs.LineKinds.{same_lines}
use Rattle.world_history.specs.Contents.{HasContents}
use Rattle.world_history.specs.Shown.{StandsIn}
use Rattle.world_history.proofs.Contents.AloneSteps.{alone_flush}
use Rattle.world_history.proofs.Contents.AreAlone.{alone_asks}
use Rattle.world_history.proofs.Contents.ClaimsApart.{apart_act}
use Rattle.world_history.proofs.Contents.Keyed.{places_differ}
use Rattle.world_history.proofs.Contents.Quiet.{stepped_holds}
use Rattle.world_history.proofs.Contents.Standing.{stands_in}
use Rattle.world_history.proofs.Contents.StartedApart.{submitted_free, undeferred_apart}
use Rattle.disk_model.specs.Operations.{work_of}
use Rattle.disk_model.specs.State.{State}
use Rattle.disk_model.specs.Steps.{Flushing, Submitted}
use Rattle.disk_model.specs.declared.ops.Op.{Op}
use Rattle.line_answers.specs.declared.answer.Answer.{Answer}
use Rattle.flush_waits.specs.declared.ticket.Waiter.{Waiter}
use Rattle.flush_waits.specs.declared.ticket.Waiter.TheVariants as waiter
use Rattle.flush_waits.specs.declared.ticket.Waiting.{Waiting}
use Rattle.piece_table.specs.declared.live.LivePiece.{LivePiece}
use Rattle.piece_table.specs.declared.live.Stage.TheVariants.{Taken, Waiting as Unsubmitted}
use Rattle.piece_table.specs.Steps.{live_of, no_live}
use Rattle.volume_history.specs.Chronicles.{ChronicleEntry, Origin}
use Rattle.volume_history.specs.Laws.{HistoriesGrow}
use Rattle.world_acts.specs.declared.open_line.OpenLine.{OpenLine}
use Rattle.world_acts.specs.Acts.{Allowed, LineFails, Releases, World, after, core_released}
use Rattle.world_acts.specs.OpenLines.{after_finished, open_at}
use Rattle.world_acts.specs.Orderly.{IsLive, IsOrderly}
use Rattle.world_acts.specs.Steps.{after_released}
use Rattle.world_acts.proofs.PiecesKept.{PieceAt}
use Rattle.world_acts.proofs.Releasing.{open_by_left}
use Rattle.world_acts.proofs.Tables.{at_number, some_of}
use Rattle.io_core.specs.Rest.{SameLines}
use Rattle.io_core.proofs.LineKinds.{same_failed, same_finished}
use Rattle.world_history.specs.Told.{IsTold}
use Rattle.world_history.proofs.LineActs.{IsServed, served_first, taken_piece, waiting_line}

-- ---- the same lines are open

pub fails_lines : (w : World) (line : ℕ) (why : Answer) → Allowed w (LineFails line why)
    → SameLines w.core.opens (after w (LineFails line why)).core.opens
fails_lines w line why may =
    let found : (x : OpenLine) × (open_at w.core.opens line ≡ Some x) = some_of (open_at w.core.opens line) may.0 in
    same_failed w.core.opens line found.0 why found.1

pub released_lines : {start : ℕ} {coming : ℕ → ℕ → ℕ} {w : World} {es : List ChronicleEntry} (t : IsTold start coming w es) → IsOrderly w
    → (pv : ℕ)
    → Allowed w (Releases pv)
    → SameLines w.core.opens (after w (Releases pv)).core.opens
released_lines {start} {coming} {w} {es} t o pv may = by (served_first t pv may.1)
  where
    of : (it : Waiting) → IsServed t pv it → (who : Waiter) → it.waiter ≡ who → SameLines w.core.opens (after_released w.core who pv).opens
    of it served (waiter.Line line) who =
        let some = waiting_line t pv line it served who in
        let left = o.tidy.counts.left line in
        let found = open_by_left w.core.opens line (omega (arith, some, left)) in same_finished w.core.opens line found.0 found.1
    of it served (waiter.Piece number) who = taken (taken_piece t o pv number it served who)
      where
        taken : (awaited : ℕ) × PieceAt w.core.pieces.lives number (Taken awaited)
            → SameLines w.core.opens (after_released w.core (waiter.Piece number) pv).opens
        taken p =
            let old : LivePiece = record { line = p.1.line; piece = p.1.piece; stage = Taken p.0; ticket = p.1.ticket } in
            let is : live_of w.core.pieces number ≡ old = ap (λ (y : Option LivePiece). unwrap_or y no_live) p.1.at in
            let live : IsLive w.core.lines.begun w.core.opens w.core.pieces.next (number, old) =
            at_number (IsLive w.core.lines.begun w.core.opens w.core.pieces.next) w.core.pieces.lives number old o.tidy.pieces.each
            p.1.at in
            subst (λ (l : LivePiece). SameLines w.core.opens (after_finished w.core.opens l.line)) (sym is)
            (same_finished w.core.opens p.1.line live.of_line.opened live.of_line.is_open)

    by : (it : Waiting) × IsServed t pv it → SameLines w.core.opens (after w (Releases pv)).core.opens
    by s =
        subst (λ (r : Option Waiting). SameLines w.core.opens (core_released w.core pv r).opens) (sym s.1.first)
        (of s.0 s.1 s.0.waiter refl)

-- ---- an operation is submitted

module _ {w : World} {es : List ChronicleEntry} (grow : HistoriesGrow) (b : Origin) (o : IsOrderly w) (c : HasContents b w es) where
  stands : (other : ℕ) (m : LivePiece) → live_at w.core.pieces.lives other ≡ Some m
      → StandsIn b.version m.piece (span_of w.core.volumes m.piece)
  stands other m at =
      stands_in w.core.volumes w.shelf.sizes b.version o.backed.places.laid c.holds.volumes m.piece
      (at_number (λ (x : ℕ × LivePiece). IsPlaced w.core.volumes w.shelf.sizes x.1.piece) w.core.pieces.lives other m
      o.backed.places.placed at)

  -- a piece may start, so it is apart from those that were submitted
  apart_from : (number : ℕ) → may_start w.core.pieces number ≡ true → (other : ℕ) (m : LivePiece)
      → live_at w.core.pieces.lives other ≡ Some m
      → (number ≡ other → ⊥)
      → is_waiting_stage m.stage ≡ false
      → ((live_of w.core.pieces number).piece.write || m.piece.write) ≡ true
      → overlaps (live_of w.core.pieces number).piece m.piece ≡ false
  apart_from number may other m at apart submitted =
      let p = waiting_at w.core.pieces.lives number (start_waits w.core.pieces number may) in
      let l : LivePiece = record { line = p.1.line; piece = p.1.piece; stage = Unsubmitted p.0; ticket = p.1.ticket } in
      let is : live_of w.core.pieces number ≡ l = ap (λ (x : Option LivePiece). unwrap_or x no_live) p.1.at in
      let free : list_any (has_number number) w.core.pieces.claims.deferred ≡ false =
      not_true (list_any (has_number number) w.core.pieces.claims.deferred)
      (and_parts (is_waiting w.core.pieces number) (not (list_any (has_number number) w.core.pieces.claims.deferred)) may).1 in
      subst (λ (x : LivePiece). (x.piece.write || m.piece.write) ≡ true → overlaps x.piece m.piece ≡ false) (sym is)
      (undeferred_apart w.core c.holds.apart number other l m p.1.at at apart free
      (submitted_free w.core c.holds.apart other m at submitted))
    where
      not_true : (x : Bool) → not x ≡ true → x ≡ false
      not_true true is = absurd (true≢false (sym is))
      not_true false is = refl

  pub asks_holds : (number : ℕ) (op : Op) (tag : ℕ) (now : State) → Allowed w (Asks number op tag now)
      → HasContents b (after w (Asks number op tag now)) es
  asks_holds number op tag now may =
      stepped_holds grow b w (after w (Asks number op tag now)) es (Submitted tag (work_of op)) may.0.told (λ told. refl) refl
      (same_lines w.core.opens) (apart_act w (Asks number op tag now) o may c.holds.apart)
      (λ told is alone. alone_asks w number op tag now told b.version o may is stands
      (places_differ w.core.volumes w.shelf.sizes b.version o.backed.places.laid c.holds.volumes) (apart_from number may.2)
      (start_waits w.core.pieces number may.2) alone) c

  pub asks_flush_holds : (pv tag : ℕ) (now : State) → Allowed w (AsksFlush pv tag now) → HasContents b (after w (AsksFlush pv tag now)) es
  asks_flush_holds pv tag now may =
      stepped_holds grow b w (after w (AsksFlush pv tag now)) es (Submitted tag (Flushing pv)) may.0.told (λ told. refl) refl
      (same_lines w.core.opens) (apart_act w (AsksFlush pv tag now) o may c.holds.apart)
      (λ told is alone. alone_flush w pv tag now told o may is alone) c
