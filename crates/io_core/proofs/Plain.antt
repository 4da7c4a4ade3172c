-- No act closes a region or suspends a volume, and none puts a second operation of a piece in flight.
use Rattle.std.proofs.Common.{◌≡◌, ◌≤◌, ℕ, ◌+◌, ◌-◌, Bool, true, false, cond, nat_eq, List, [], ◌∷◌, length, get_or, set}
use Rattle.std.proofs.Common.{All, Option, None, Some, is_some, position, swap_remove, unwrap_or, refl, sym, ap, subst, ◌∙◌, arith}
use Rattle.std.specs.List.{list_any}
use Rattle.std.specs.Option.{option_map_or}
use Rattle.std.specs.Map.{keys_of, lookup, set_value}
use Rattle.std.proofs.lemmas.List.Elements.{All-cons, All-head, All-push, All-set, All-tail, All-take}
use Rattle.indexmap.specs.IndexMap.{swap_remove_entry}
use Rattle.claim_table.specs.Claims.{Claims}
use Rattle.claim_table.specs.declared.claim.Entry.{Entry}
use Rattle.claim_table.specs.declared.claim.Entry.TheVariants.{Deferred, Started as StartedAtOnce}
use Rattle.claim_table.specs.Steps as claims
use Rattle.claim_table.specs.Steps.{has_number}
use Rattle.flush_plan.specs.Plans.{marks_of}
use Rattle.flush_waits.specs.declared.ticket.Waiter.TheVariants as waiter
use Rattle.flush_waits.specs.declared.ticket.Waiter.{Waiter}
use Rattle.flush_waits.specs.declared.ticket.Waiting.{Waiting}
use Rattle.piece_table.specs.declared.live.LivePiece.{LivePiece}
use Rattle.piece_table.specs.declared.live.Stage.{Stage}
use Rattle.piece_table.specs.declared.live.Stage.TheVariants.{Started, Taken, Waiting as Unsubmitted}
use Rattle.piece_table.specs.Pieces.{Pieces, flying_of, live_at}
use Rattle.piece_table.specs.Steps as pieces
use Rattle.piece_table.specs.Steps.{live_of, no_live, with_flying, with_stage}
use Rattle.world_acts.specs.declared.state.Core.{Core}
use Rattle.world_acts.specs.Acts.{Act, Allowed, Answers, Asks, AsksFlush, Awaits, Begins, Ends, EndsFlush, Enters, Fails, Grows, Holds}
use Rattle.world_acts.specs.Acts.{LineFails, Marks, Passes, Reaches, Readies, Reads, Releases, Starts, Wakes, World, Writes, after}
use Rattle.world_acts.specs.Acts.{core_released, piece_at, released_at}
use Rattle.world_acts.specs.Steps.{after_leaves, after_released, after_stays, after_written}
use Rattle.world_acts.proofs.Reaching.{reaches_keep}
use Rattle.world_acts.proofs.Tables.{at_number}
use Rattle.io_core.specs.Rest.{IsPlain}

-- ---- lists of pieces

-- no more than one operation of the piece is in flight
abbrev FliesOnce : ℕ × LivePiece → Type 0
FliesOnce e = flying_of e.1.stage ≤ 1

-- what holds of all entries holds without one
all_removed : {X : Type 0} (P : ℕ × X → Type 0) (test : ℕ → Bool) (es : List (ℕ × X)) → All P es → All P (swap_remove_entry test es)
all_removed P test [] all = all
all_removed {X} P test (e ∷ es) all = by (position test (keys_of (e ∷ es)))
  where
    by : (o : Option ℕ) → All P (option_map_or (λ (i : ℕ). swap_remove (e ∷ es) i e) o (e ∷ es))
    by None = all
    by (Some i) =
        let n : ℕ = length (e ∷ es) - 1 in
        All-take P n (set (e ∷ es) i (get_or (e ∷ es) n e)) (All-set P (e ∷ es) i (get_or (e ∷ es) n e) (all n e (omega arith)) all)

-- and with another value of one
once_put : (test : ℕ → Bool) (es : List (ℕ × LivePiece)) (l : LivePiece) → flying_of l.stage ≤ 1 → All FliesOnce es
    → All FliesOnce (set_value test es l)
once_put test [] l one all = all
once_put test (e ∷ es) l one all =
    elim (test e.0) as (λ b. All FliesOnce (cond b ((e.0, l) ∷ es) (e ∷ set_value test es l))) [
      | true ↦ All-cons FliesOnce (e.0, l) es one (All-tail FliesOnce e es all)
      | false ↦ All-cons FliesOnce e (set_value test es l) (All-head FliesOnce e es all)
          (once_put test es l one (All-tail FliesOnce e es all))
    ]

-- what is found under a number that was put is that, or nothing
put_found : (P : LivePiece → Type 0) (test : ℕ → Bool) (es : List (ℕ × LivePiece)) (l : LivePiece) → P l → P no_live
    → P (unwrap_or (lookup test (set_value test es l)) no_live)
put_found P test [] l own none = none
put_found P test (e ∷ es) l own none =
    elim (test e.0) as (λ b. test e.0 ≡ b
    → P (unwrap_or (lookup test (cond b ((e.0, l) ∷ es) (e ∷ set_value test es l))) no_live)) [
      | true ↦ λ t. subst (λ (b : Bool). P (unwrap_or (cond b (Some l) (lookup test es)) no_live)) (sym t) own
      | false ↦ λ t. subst (λ (b : Bool). P (unwrap_or (cond b (Some e.1) (lookup test (set_value test es l))) no_live)) (sym t)
          (put_found P test es l own none)
    ] refl

-- the piece with a number, if there is one
once_of : (p : Pieces) (number : ℕ) → All FliesOnce p.lives → flying_of (live_of p number).stage ≤ 1
once_of p number all = by (live_at p.lives number) refl
  where
    by : (o : Option LivePiece) → live_at p.lives number ≡ o → flying_of (unwrap_or o no_live).stage ≤ 1
    by None at = omega arith
    by (Some l) at = at_number FliesOnce p.lives number l all at

fewer_fly : (stage : Stage) → flying_of stage ≤ 1 → flying_of (with_flying stage (λ n. n - 1)) ≤ 1
fewer_fly (Started flying lost) one = omega (arith, one)
fewer_fly (Unsubmitted sectors) one = omega arith
fewer_fly (Taken awaited) one = omega arith

-- ---- steps

-- of claims what no act changes
abbrev StayPlain : Claims → Claims → Type 0
StayPlain old new = (new.closed ≡ old.closed) × (new.suspended ≡ old.suspended)

left_plain : (old : Claims) (number : ℕ) → StayPlain old (claims.after_leave old number)
left_plain old number =
    elim (list_any (has_number number) old.started) as (λ b. StayPlain old
    (cond b (record old { started = claims.without old.started number }) (record old { deferred = claims.without old.deferred number }))) [
      | true ↦ (refl, refl)
      | false ↦ (refl, refl)
    ]

entered_plain : (old : Claims) (c : _) (entry : Entry) → StayPlain old (claims.after_enter old c entry)
entered_plain old c StartedAtOnce = (refl, refl)
entered_plain old c (Deferred by) = (refl, refl)

-- other claims and pieces
plain_with : (c d : Core) → StayPlain c.pieces.claims d.pieces.claims → All FliesOnce d.pieces.lives → IsPlain c → IsPlain d
plain_with c d stay once is = record { closed = stay.0 ∙ is.closed; suspended = stay.1 ∙ is.suspended; once = once }

-- the piece leaves
plain_left : (c d : Core) (number : ℕ) (lives : List (ℕ × LivePiece)) → d.pieces.claims ≡ claims.after_leave c.pieces.claims number
    → d.pieces.lives ≡ swap_remove_entry (nat_eq number) lives
    → All FliesOnce lives
    → IsPlain c
    → IsPlain d
plain_left c d number lives left without once is =
    plain_with c d (subst (λ (x : Claims). StayPlain c.pieces.claims x) (sym left) (left_plain c.pieces.claims number))
    (subst (λ (l : List (ℕ × LivePiece)). All FliesOnce l) (sym without) (all_removed FliesOnce (nat_eq number) lives once)) is

plain_either : (b : Bool) (c d : Core) → IsPlain c → IsPlain d → IsPlain (cond b c d)
plain_either true c d one other = one
plain_either false c d one other = other

plain_wrote : (c : Core) (number pv moment place : ℕ) → IsPlain c
    → IsPlain (after_stays (after_written c number pv moment) number pv place)
plain_wrote c number pv moment place is =
    let written : Core = after_written c number pv moment in
    let without : Pieces = pieces.without_ticket written.pieces number in
    plain_with c (after_stays written number pv place) (refl, refl)
    (once_put (nat_eq number) without.lives (record (live_of without number) { stage = Taken 1 }) (omega arith)
    (once_put (nat_eq number) c.pieces.lives (record (live_of c.pieces number) { ticket = None }) (once_of c.pieces number is.once) is.once))
    is

plain_released : (c : Core) (pv : ℕ) (w : Option Waiting) → IsPlain c → IsPlain (core_released c pv w)
plain_released c pv None is = is
plain_released c pv (Some w) is = by w.waiter
  where
    by : (x : Waiter) → IsPlain (after_released c x pv)
    by (waiter.Line line) = plain_with c (after_released c (waiter.Line line) pv) (refl, refl) is.once is
    by (waiter.Piece number) = plain_left c (after_released c (waiter.Piece number) pv) number c.pieces.lives refl refl is.once is

plain_same : (c d : Core) → d.pieces ≡ c.pieces → IsPlain c → IsPlain d
plain_same c d same is = record {
  closed = ap (λ (p : Pieces). p.claims.closed) same ∙ is.closed;
  suspended = ap (λ (p : Pieces). p.claims.suspended) same ∙ is.suspended;
  once = subst (λ (p : Pieces). All FliesOnce p.lives) (sym same) is.once;
}

pub plain_after : (w : World) (a : Act) → Allowed w a → IsPlain w.core → IsPlain (after w a).core
plain_after w (Begins line opened) may is = plain_same w.core (after w (Begins line opened)).core refl is
plain_after w (Enters line piece sectors ticket entry) may is =
    plain_with w.core (after w (Enters line piece sectors ticket entry)).core (entered_plain w.core.pieces.claims _ entry)
    (All-push FliesOnce w.core.pieces.lives (
      w.core.pieces.next,
      record {
        line = line;
        piece = piece;
        stage = Unsubmitted sectors;
        ticket = ticket;
      },
    ) is.once (omega arith)) is
plain_after w (Awaits line pv) may is = plain_same w.core (after w (Awaits line pv)).core refl is
plain_after w (LineFails line why) may is = plain_same w.core (after w (LineFails line why)).core refl is
plain_after w (Answers line) may is = plain_same w.core (after w (Answers line)).core refl is
plain_after w (Holds line) may is = plain_same w.core (after w (Holds line)).core refl is
plain_after w (Passes line) may is = plain_same w.core (after w (Passes line)).core refl is
plain_after w Wakes may is = plain_with w.core (after w Wakes).core (refl, refl) is.once is
plain_after w (Starts number) may is =
    plain_with w.core (after w (Starts number)).core (refl, refl)
    (once_put (nat_eq number) w.core.pieces.lives (record (live_of w.core.pieces number) { stage = Started 0 None }) (omega arith) is.once)
    is
plain_after w (Asks number op tag now) may is =
    let x : LivePiece = record (live_of w.core.pieces number) { stage = Started 0 None } in
    let mid : Pieces = with_stage w.core.pieces number (Started 0 None) in
    plain_with w.core (after w (Asks number op tag now)).core (refl, refl)
    (once_put (nat_eq number) mid.lives (record (live_of mid number) { stage = with_flying (live_of mid number).stage (λ n. n + 1) })
    (put_found (λ (l : LivePiece). flying_of (with_flying l.stage (λ n. n + 1)) ≤ 1) (nat_eq number) w.core.pieces.lives x (omega arith)
    (omega arith))
    (once_put (nat_eq number) w.core.pieces.lives x (omega arith) is.once)) is
plain_after w (Ends done now) may is =
    let number : ℕ = piece_at w.core done.tag in
    let l : LivePiece = live_of w.core.pieces number in
    plain_with w.core (after w (Ends done now)).core (refl, refl)
    (once_put (nat_eq number) w.core.pieces.lives (record l { stage = with_flying l.stage (λ n. n - 1) })
    (fewer_fly l.stage (once_of w.core.pieces number is.once)) is.once) is
plain_after w (Marks pv) may is = plain_same w.core (after w (Marks pv)).core refl is
plain_after w (Fails number why) may is =
    plain_left w.core (after w (Fails number why)).core number (pieces.without_ticket w.core.pieces number).lives refl refl
    (once_put (nat_eq number) w.core.pieces.lives (record (live_of w.core.pieces number) { ticket = None })
    (once_of w.core.pieces number is.once) is.once) is
plain_after w (Writes number pv) may is =
    let written : Core = after_written w.core number pv w.shelf.steps in
    let place : ℕ = (marks_of written.waits.plan pv).written in
    plain_either (is_some (live_of w.core.pieces number).ticket) (after_stays written number pv place) (after_leaves written number pv)
    (plain_wrote w.core number pv w.shelf.steps place is)
    (plain_left w.core (after_leaves written number pv) number w.core.pieces.lives refl refl is.once is)
plain_after w (Reads number sectors) may is =
    plain_left w.core (after w (Reads number sectors)).core number w.core.pieces.lives refl refl is.once is
plain_after w (AsksFlush pv tag now) may is = plain_same w.core (after w (AsksFlush pv tag now)).core refl is
plain_after w (EndsFlush done now) may is = plain_same w.core (after w (EndsFlush done now)).core refl is
plain_after w (Releases pv) may is = plain_released w.core pv (released_at w.core pv) is
plain_after w (Readies now) may is = is
plain_after w (Grows v) may is =
    plain_with w.core v.core
    (ap (λ (c : Core). c.pieces.claims.closed) may.core, ap (λ (c : Core). c.pieces.claims.suspended) may.core)
    (subst (λ (l : List (ℕ × LivePiece)). All FliesOnce l) (sym (ap (λ (c : Core). c.pieces.lives) may.core)) is.once) is

pub plain_reaches : {may : Act → Bool} {w v : World} → Reaches may w v → IsPlain w.core → IsPlain v.core
plain_reaches {may} {w} {v} goes is =
    reaches_keep may (λ (x : World). IsPlain x.core) (λ x a passes allowed plain. plain_after x a allowed plain) w v goes is
