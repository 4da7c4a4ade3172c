-- Why a line fails by a piece of it, and where pieces stand.
use Rattle.std.proofs.Common.{◌≡◌, ℕ, ◌+◌, List, ◌∷◌, None, Some, slice_get, inl, inr, ⊎_elim, refl, sym, true, ap, subst, ◌∙◌, arith}
use Rattle.sector_base.specs.declared.places.Piece.{Piece}
use Rattle.sector_base.specs.declared.spans.Span.{Span}
use Rattle.line_answers.specs.declared.answer.Answer.{Answer}
use Rattle.line_answers.specs.declared.answer.Answer.TheVariants as answer
use Rattle.piece_table.specs.declared.live.LivePiece.{LivePiece}
use Rattle.piece_table.specs.Steps.{live_of, without_ticket}
use Rattle.volume_history.specs.Chronicles.{ChronicleEntry, Failed, Origin, is_failed_disk, steps_upto}
use Rattle.volume_history.specs.Placed.{Place, volumes_of}
use Rattle.world_acts.specs.Acts.{Allowed, Fails, IsFailure, World, after}
use Rattle.world_acts.specs.OpenLines.{Opens, after_failure, after_finished}
use Rattle.world_acts.specs.Orderly.{IsOrderly}
use Rattle.world_acts.specs.Volumes.{IsPlaced, span_of}
use Rattle.world_acts.proofs.LinesKept.{line_failed}
use Rattle.world_acts.proofs.Tables.{at_number, changes_both, own_at, removed}
use Rattle.world_history.specs.Causes.{HasCause, IsBadRead, StandsAt}
use Rattle.world_history.specs.Shown.{AreOfVersion, StandsIn, places_keyed}
use Rattle.world_history.proofs.Contents.Standing.{stands_in}
use Rattle.world_tracks.proofs.ActWaits.{HasFree, started, ticket_change}
use Rattle.world_tracks.proofs.Causes.Growing.{among_first, extends_failed}
use Rattle.world_tracks.proofs.Causes.Known.{CausesGo, Knows}
use Rattle.world_tracks.proofs.Causes.Lines.{FailedBut, before_finished, but_failed, but_then}
use Rattle.world_tracks.proofs.Causes.Lives.{lives_changed}
use Rattle.world_tracks.proofs.Causes.Since.{now_in}

-- ---- places

-- the place from which a span goes
abbrev pub place_in : Span → Place
place_in span = record { disk = span.pv; sector = span.first }

module _ (b : Origin) (w : World) (o : IsOrderly w) (of : AreOfVersion w.core.volumes b.version) where
  -- a placed piece stands from the first place of its span on
  pub piece_stands : (piece : Piece) → IsPlaced w.core.volumes w.shelf.sizes piece
      → StandsAt b piece (place_in (span_of w.core.volumes piece))
  piece_stands piece placed =
      let span : Span = span_of w.core.volumes piece in
      let s : StandsIn b.version piece span = stands_in w.core.volumes w.shelf.sizes b.version o.backed.places.laid of piece placed in
      ap (slice_get (places_keyed (volumes_of b.version) piece.volume)) (let e : piece.first ≡ piece.first + 0 = omega arith in e)
      ∙ s.there 0 placed.1.some
      ∙ ap (λ (n : ℕ). Some (record { disk = span.pv; sector = n })) (let e : span.first + 0 ≡ span.first = omega arith in e)

  -- whose span has its sectors
  pub span_counts : (piece : Piece) → IsPlaced w.core.volumes w.shelf.sizes piece → (span_of w.core.volumes piece).count ≡ piece.count
  span_counts piece placed =
      let s : StandsIn b.version piece (span_of w.core.volumes piece) =
      stands_in w.core.volumes w.shelf.sizes b.version o.backed.places.laid of piece placed in s.many

  -- a started piece is placed
  pub started_placed : (number : ℕ) → (x : HasFree w number) → IsPlaced w.core.volumes w.shelf.sizes (live_of w.core.pieces number).piece
  started_placed number x =
      subst (λ (l : LivePiece). IsPlaced w.core.volumes w.shelf.sizes l.piece) (sym x.piece.is)
      (at_number (λ (e : ℕ × LivePiece). IsPlaced w.core.volumes w.shelf.sizes e.1.piece) w.core.pieces.lives number x.piece.live
      o.backed.places.placed x.piece.at)

-- ---- a piece fails

-- where it couldn't be read, its read has just ended badly
abbrev pub WasBadRead : Origin → World → ℕ → Answer → Type 0
WasBadRead b w number (answer.ReadFailed pv) =
    IsBadRead (place_in (span_of w.core.volumes (live_of w.core.pieces number).piece)) (live_of w.core.pieces number).piece.count
    (steps_upto b (now_in b))
WasBadRead b w number why = Unit {0}

module _ (b : Origin) (w : World) (es : List ChronicleEntry) (o : IsOrderly w) (of : AreOfVersion w.core.volumes b.version)
    (k : Knows b w.core es) (moment : w.shelf.steps ≡ now_in b) (number : ℕ) (why : Answer) (may : Allowed w (Fails number why))
    (read : WasBadRead b w number why) where
  abbrev l : LivePiece
  l = live_of w.core.pieces number

  abbrev fs : List ChronicleEntry
  fs = Failed w.shelf.steps l.line l.piece ∷ es

  abbrev v : World
  v = after w (Fails number why)

  x : HasFree w number
  x = started w number o may.0

  stands : StandsAt b l.piece (place_in (span_of w.core.volumes l.piece))
  stands = piece_stands b w o of l.piece (started_placed b w o of number x)

  -- its line answers so for that
  piece_caused : (a : Answer) → IsFailure w.core l.piece a → WasBadRead b w number a → HasCause b fs (now_in b) l.line a
  piece_caused (answer.ReadFailed pv) fails read = record {
    moment = w.shelf.steps;
    piece = l.piece;
    place = place_in (span_of w.core.volumes l.piece);
    failed = among_first (Failed w.shelf.steps l.line l.piece) es;
    stands = stands;
    disk = fails.0;
    read =
        subst (λ (m : ℕ). IsBadRead (place_in (span_of w.core.volumes l.piece)) l.piece.count (steps_upto b m)) (sym moment) read;
  }
  piece_caused (answer.PvFailed pv) fails read =
      let lost : is_failed_disk b (now_in b) pv ≡ true = k.lost pv (inl fails.1) in (
        lost,
        inl (record {
          moment = w.shelf.steps;
          piece = l.piece;
          place = place_in (span_of w.core.volumes l.piece);
          failed = among_first (Failed w.shelf.steps l.line l.piece) es;
          stands = stands;
          disk = fails.0;
          lost = subst (λ (m : ℕ). is_failed_disk b m pv ≡ true) (sym moment) lost;
        }),
      )
  piece_caused a fails read = tt

  -- no other line fails by it
  lines_but : FailedBut l.line why w.core.opens v.core.opens
  lines_but =
      let mid : Opens = after_failure w.core.opens l.line why in
      let its = (line_failed w.core.opens l.line x.piece.opened why x.piece.is_open).lines l.line x.piece.opened x.piece.is_open in
      but_then l.line why w.core.opens mid (after_finished mid l.line) (but_failed w.core.opens l.line why x.piece.opened x.piece.is_open)
      (before_finished mid l.line its.0 its.1)

  pub fails_go : CausesGo b b w.core v.core es fs
  fails_go =
      let one = ticket_change w.core.pieces number x.piece.live o.tidy.pieces.single x.piece.at in
      let two =
      removed (without_ticket w.core.pieces number).lives number (record x.piece.live { ticket = None }) one.single (own_at one) in
      record {
        later = inl refl;
        more = extends_failed w.shelf.steps l.line l.piece es;
        lost = λ pv lost. inl lost;
        failing =
            λ n p a at fails. ⊎_elim (λ was. inl was)
            (λ (is : (n ≡ l.line) × (a ≡ why)).
            inr (subst (λ (m : ℕ). HasCause b fs (now_in b) m a) (sym is.0)
            (subst (λ (y : Answer). HasCause b fs (now_in b) l.line y) (sym is.1) (piece_caused why may.2 read))))
            (lines_but n p a at fails);
        dirty = λ key pv lt some. inl (lt, some);
        waits = λ pv it has. inl has;
        lives = lives_changed w.core v.core (changes_both one two) tt;
        marks = λ pv place ended unstable. inl (ended, unstable);
        flushes = λ f has. inl has;
        answered = λ are. are;
      }
