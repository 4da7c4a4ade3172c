-- Started pieces stay apart, whatever acts follow one another.
use Rattle.std.proofs.Common.{◌≡◌, ◌<◌, ℕ, Bool, true, false, not, if◌then◌else◌, List, [], ◌∷◌, Option, None, Some, is_some}
use Rattle.std.proofs.Common.{slice_get, refl, sym, ap, subst, ◌∙◌, arith}
use Rattle.std.specs.List.{list_any}
use Rattle.std.specs.Option.{option_map_or}
use Rattle.std.proofs.lemmas.Bool.{and_parts, eq-eqb}
use Rattle.list_laws.proofs.Bools.{not_true}
use Rattle.claim_table.specs.Steps.{has_number}
use Rattle.flush_plan.specs.Plans.{marks_of}
use Rattle.flush_waits.specs.declared.ticket.Waiter.{Waiter}
use Rattle.flush_waits.specs.declared.ticket.Waiter.TheVariants as waiter
use Rattle.flush_waits.specs.declared.ticket.Waiting.{Waiting}
use Rattle.flush_waits.specs.Waits.{disk_waits}
use Rattle.piece_table.specs.declared.live.LivePiece.{LivePiece}
use Rattle.piece_table.specs.declared.live.Owner.{Owner}
use Rattle.piece_table.specs.declared.live.Stage.{Stage}
use Rattle.piece_table.specs.declared.live.Stage.TheVariants.{Started, Taken}
use Rattle.piece_table.specs.Pieces.{Pieces, flying_in, is_started, is_waiting, is_waiting_stage, live_at, may_start, owner_at}
use Rattle.piece_table.specs.Steps.{live_of, with_stage, without_ticket}
use Rattle.world_acts.specs.declared.state.Core.{Core}
use Rattle.world_acts.specs.Acts.{Act, Allowed, Answers, Asks, AsksFlush, Awaits, Begins, Ends, EndsFlush, Enters, Fails, Grows, Holds}
use Rattle.world_acts.specs.Acts.{LineFails, Marks, Passes, Reaches, Readies, Reads, Releases, Starts, Wakes, World, Writes, after}
use Rattle.world_acts.specs.Acts.{core_released, piece_at}
use Rattle.world_acts.specs.Counts.{awaited_at, is_piece}
use Rattle.world_acts.specs.Orderly.{IsLive, IsOrderly}
use Rattle.world_acts.specs.Steps.{after_leaves, after_released, after_stays, after_written}
use Rattle.world_acts.proofs.Known.{owner_flies}
use Rattle.world_acts.proofs.LinesKept.{hit}
use Rattle.world_acts.proofs.Orderly.{orderly_after}
use Rattle.world_acts.proofs.PiecesKept.{PieceAt, awaiting_taken, flying_started, started_at, waiting_at}
use Rattle.world_acts.proofs.Reaching.{reaches_keep}
use Rattle.world_acts.proofs.Releasing.{first_gone}
use Rattle.world_acts.proofs.Tables.{at_number, some_of}
use Rattle.world_history.specs.Apart.{AreApart}
use Rattle.world_history.proofs.Contents.HeldPieces.{AreHeld, HasPiece, entered, flown, landed, left, readied, staged, submitted}
use Rattle.world_history.proofs.Contents.HeldPieces.{unticketed}

-- it is a matter of the pieces alone
pub apart_of : (c : Core) → AreHeld c.pieces → AreApart c
apart_of c held = record { claimed = held.claimed; waiting = held.waiting; apart = held.apart }

pub held_of : (c : Core) → AreApart c → AreHeld c.pieces
held_of c a = record { claimed = a.claimed; waiting = a.waiting; apart = a.apart }

-- ---- which piece an act is of

-- a piece that may start
startable : (w : World) (number : ℕ) → IsOrderly w → AreApart w.core → may_start w.core.pieces number ≡ true
    → HasPiece w.core.pieces number
startable w number o a may =
    let p : Pieces = w.core.pieces in
    let parts = and_parts (is_waiting p number) (not (list_any (has_number number) p.claims.deferred)) may in
    let waits = waiting_at p.lives number parts.0 in
    let found : (l : LivePiece) × (live_at p.lives number ≡ Some l) = some_of (live_at p.lives number) (ap is_some waits.1.at) in
    record {
      held = held_of w.core a;
      single = o.tidy.pieces.single;
      free = not_true (list_any (has_number number) p.claims.deferred) parts.1;
      live = found.0;
      at = found.1;
    }

-- one at a later stage
at_stage : (w : World) (number : ℕ) (stage : Stage) → IsOrderly w → AreApart w.core → is_waiting_stage stage ≡ false
    → PieceAt w.core.pieces.lives number stage → HasPiece w.core.pieces number
at_stage w number stage o a none it =
    submitted w.core.pieces number (record { line = it.line; piece = it.piece; stage = stage; ticket = it.ticket }) o.tidy.pieces.single
    (held_of w.core a) it.at none

-- one that is started
started : (w : World) (number : ℕ) → IsOrderly w → AreApart w.core → is_started w.core.pieces number ≡ true
    → HasPiece w.core.pieces number
started w number o a is =
    let it = started_at w.core.pieces.lives number is in at_stage w number (Started it.0 it.1) o a refl it.2

-- one of which an operation is in flight
flying : (w : World) (tag : ℕ) → IsOrderly w → AreApart w.core → is_some (owner_at w.core.pieces.owners tag) ≡ true
    → HasPiece w.core.pieces (piece_at w.core tag)
flying w tag o a some =
    let c : Core = w.core in
    let owns : (x : Owner) × (owner_at c.pieces.owners tag ≡ Some x) = some_of (owner_at c.pieces.owners tag) some in
    let number : piece_at c tag ≡ owns.0.piece = ap (λ (x : Option Owner). option_map_or (λ (y : Owner). y.piece) x 0) owns.1 in
    let flies : 0 < flying_in c.pieces.lives (piece_at c tag) =
    subst (λ (n : ℕ). 0 < flying_in c.pieces.lives n) (sym number) (owner_flies tag owns.0 o.tidy.owners owns.1) in
    let it = flying_started c.pieces.lives (piece_at c tag) flies in
    at_stage w (piece_at c tag) (Started it.0 it.1) o a refl it.2

-- no piece has the next number
next_free : (w : World) → IsOrderly w → live_at w.core.pieces.lives w.core.pieces.next ≡ None
next_free w o = by (live_at w.core.pieces.lives w.core.pieces.next) refl
  where
    by : (x : Option LivePiece) → live_at w.core.pieces.lives w.core.pieces.next ≡ x
        → live_at w.core.pieces.lives w.core.pieces.next ≡ None
    by None at = at
    by (Some l) at =
        let c : Core = w.core in
        let is : IsLive c.lines.begun c.opens c.pieces.next (c.pieces.next, l) =
        at_number (IsLive c.lines.begun c.opens c.pieces.next) c.pieces.lives c.pieces.next l o.tidy.pieces.each at in
        let below : c.pieces.next < c.pieces.next = is.below in absurd (omega (arith, below))

-- ---- acts

-- the first that a flush served waits no more
released : (w : World) (pv : ℕ) → IsOrderly w → AreApart w.core → (served : List Waiting) → (disk_waits w.core.waits pv).served ≡ served
    → AreApart (core_released w.core pv (slice_get served 0))
released w pv o a [] is = a
released w pv o a (it ∷ rest) is = of it.waiter refl
  where
    of : (x : Waiter) → it.waiter ≡ x → AreApart (after_released w.core x pv)
    of (waiter.Line line) who = apart_of (after_released w.core (waiter.Line line) pv) (held_of w.core a)
    of (waiter.Piece number) who =
        let gone = first_gone w.core.waits pv it rest is in
        let hits : ◌≡◌ {A = ℕ} (hit (is_piece number it)) 1 =
        ap hit (ap (λ (x : Waiter). is_piece number (record it { waiter = x })) who ∙ eq-eqb number number refl) in
        let some : 0 < awaited_at w.core.pieces.lives number =
        omega (arith, o.tidy.counts.awaited number, gone.counted (is_piece number), hits) in
        let taken = awaiting_taken w.core.pieces.lives number some in
        apart_of (after_released w.core (waiter.Piece number) pv)
        (left w.core.pieces number (at_stage w number (Taken taken.0) o a refl taken.1))

-- a piece has written: it stays, or leaves
either : (b : Bool) (x y : Core) → AreApart x → AreApart y → AreApart (if b then x else y)
either true x y stays leaves = stays
either false x y stays leaves = leaves

written : (w : World) (number pv : ℕ) → HasPiece w.core.pieces number → AreApart (after w (Writes number pv)).core
written w number pv has =
    let p : Pieces = w.core.pieces in
    let c : Core = after_written w.core number pv w.shelf.steps in
    let place : ℕ = (marks_of c.waits.plan pv).written in
    either (is_some (live_of p number).ticket) (after_stays c number pv place) (after_leaves c number pv)
    (apart_of (after_stays c number pv place) (staged (without_ticket p number) number (Taken 1) (unticketed p number has)).held)
    (apart_of (after_leaves c number pv) (left p number has))

-- more is spare
grown : (w v : World) → Allowed w (Grows v) → AreApart w.core → AreApart v.core
grown w v may a =
    subst (λ (c : Core). AreApart c) (sym may.core)
    (record {
      claimed = record { started = a.claimed.started; deferred = a.claimed.deferred; once = a.claimed.once };
      waiting = a.waiting;
      apart = record { pairwise = a.apart.pairwise; outside = a.apart.outside };
    })

pub apart_act : (w : World) (a : Act) → IsOrderly w → Allowed w a → AreApart w.core → AreApart (after w a).core
apart_act w (Begins line opened) o may a = apart_of _ (held_of w.core a)
apart_act w (Enters line piece sectors ticket entry) o may a =
    apart_of _
    (entered w.core.pieces line piece sectors ticket o.tidy.pieces.single (next_free w o) (held_of w.core a) entry may.1)
apart_act w (Awaits line pv) o may a = apart_of _ (held_of w.core a)
apart_act w (LineFails line why) o may a = apart_of _ (held_of w.core a)
apart_act w (Answers line) o may a = apart_of _ (held_of w.core a)
apart_act w (Holds line) o may a = apart_of _ (held_of w.core a)
apart_act w (Passes line) o may a = apart_of _ (held_of w.core a)
apart_act w Wakes o may a = apart_of _ (readied w.core.pieces may (held_of w.core a))
apart_act w (Starts number) o may a = apart_of _ (staged w.core.pieces number (Started 0 None) (startable w number o a may)).held
apart_act w (Asks number op tag now) o may a =
    apart_of _
    (flown (with_stage w.core.pieces number (Started 0 None)) number tag true
    (staged w.core.pieces number (Started 0 None) (startable w number o a may.2)))
apart_act w (Ends done now) o may a =
    apart_of _ (landed w.core.pieces done.tag (piece_at w.core done.tag) (flying w done.tag o a may.2))
apart_act w (Marks pv) o may a = apart_of _ (held_of w.core a)
apart_act w (Fails number why) o may a =
    apart_of _ (left (without_ticket w.core.pieces number) number (unticketed w.core.pieces number (started w number o a may.0)))
apart_act w (Writes number pv) o may a = written w number pv (started w number o a may.0)
apart_act w (Reads number sectors) o may a = apart_of _ (left w.core.pieces number (started w number o a may.0))
apart_act w (AsksFlush pv tag now) o may a = apart_of _ (held_of w.core a)
apart_act w (EndsFlush done now) o may a = apart_of _ (held_of w.core a)
apart_act w (Releases pv) o may a = released w pv o a (disk_waits w.core.waits pv).served refl
apart_act w (Readies now) o may a = a
apart_act w (Grows v) o may a = grown w v may a

-- acts that follow one another
pub apart_reaches : (may : Act → Bool) (w v : World) → IsOrderly w → Reaches may w v → AreApart w.core → AreApart v.core
apart_reaches may w v o goes a =
    (reaches_keep may (λ (x : World). IsOrderly x × AreApart x.core)
    (λ x act passes allowed p. (orderly_after x act p.0 allowed, apart_act x act p.0 allowed p.1)) w v goes (o, a)).1
