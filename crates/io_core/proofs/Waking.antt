-- The first deferred piece that may is to start.
use Rattle.std.proofs.Common.{◌≡◌, ℕ, ◌+◌, true, false, not, length, Option, Some, None, is_some, option_map, slice_get}
use Rattle.std.proofs.Common.{refl, sym, ap, subst, true≢false}
use Rattle.std.specs.List.{list_any}
use Rattle.std.proofs.lemmas.Bool.{and_parts, eq-eqb, not-true}
use Rattle.std.proofs.lemmas.List.Edits.{length-remove}
use Rattle.claim_table.specs.declared.claim.Claim.{Claim}
use Rattle.claim_table.specs.Claims.{ready_at}
use Rattle.claim_table.specs.Steps.{has_number}
use Rattle.piece_table.specs.declared.live.LivePiece.{LivePiece}
use Rattle.piece_table.specs.Pieces.{Pieces, is_waiting, is_waiting_stage, live_at, may_start}
use Rattle.disk_model.specs.State.{State}
use Rattle.piece_table.specs.Steps.{after_ready, live_of}
use Rattle.world_acts.specs.declared.state.Core.{Core}
use Rattle.world_acts.specs.declared.open_line.OpenLine.{OpenLine}
use Rattle.world_acts.specs.Acts.{Reaches, Wakes, World, after, follows, world}
use Rattle.world_acts.specs.OpenLines.{Opens, open_at}
use Rattle.world_acts.specs.Orderly.{IsOrderly}
use Rattle.world_acts.proofs.Reaching.{reaches_act}
use Rattle.world_acts.proofs.ShortActs.{after_wake}
use Rattle.io_core.specs.Rest.{IsCalm, SameLines, just, no_one}
use Rattle.io_core.proofs.CalmActs.{calm_weaker, wakes_calm}
use Rattle.io_core.proofs.Deferred.{IsReady, ready_found}
use Rattle.io_core.proofs.LineKinds.{kind_of}
use Rattle.io_core.proofs.PieceAsks.{is_there, live_is}

-- what a piece that may start has
pub record MayStartNow (pieces : Pieces) (number : ℕ) : Type 0 where
  pub waits : is_waiting pieces number ≡ true
  pub free : list_any (has_number number) pieces.claims.deferred ≡ false
  pub there : is_some (live_at pieces.lives number) ≡ true

pub may_start_now : (pieces : Pieces) (number : ℕ) → may_start pieces number ≡ true → MayStartNow pieces number
may_start_now pieces number may =
    let p = and_parts (is_waiting pieces number) (not (list_any (has_number number) pieces.claims.deferred)) may in
    record {
      waits = p.0;
      free = not-true (list_any (has_number number) pieces.claims.deferred) p.1;
      there = is_there (λ (l : LivePiece). is_waiting_stage l.stage) pieces.lives number p.0;
    }

-- what that makes of a world
pub record WakesIn (w : World) (number : ℕ) : Type 0 where
  pub reaches : Reaches follows w (after w Wakes)
  pub orderly : IsOrderly (after w Wakes)
  pub calm : IsCalm (just number) no_one (after w Wakes).core
  pub fewer : length (after w Wakes).core.pieces.claims.deferred + 1 ≡ length w.core.pieces.claims.deferred

pub wakes_in : (w : World) (number : ℕ) → IsOrderly w
    → Some number ≡ option_map (λ (c : Claim). c.number) (slice_get w.core.pieces.claims.deferred (ready_at w.core.pieces.claims))
    → IsCalm no_one no_one w.core
    → WakesIn w number
wakes_in w number o is calm =
    let ready : IsReady w.core.pieces.claims number = ready_found w.core.pieces.claims number is in
    record {
      reaches = reaches_act follows w Wakes refl ready.within;
      orderly = after_wake w o;
      calm = wakes_calm w.core number no_one ready calm;
      fewer = length-remove w.core.pieces.claims.deferred (ready_at w.core.pieces.claims) ready.within;
    }

-- ---- a turn of the loop

-- the table has answered the number
pub record TurnAt (s : State) (c : Core) (p : Pieces) (number : ℕ) : Type 0 where
  pub reaches : Reaches follows (world s c) (world s (record c { pieces = p }))
  pub orderly : IsOrderly (world s (record c { pieces = p }))
  pub calm : IsCalm (just number) no_one (record c { pieces = p })
  pub fewer : length p.claims.deferred + 1 ≡ length c.pieces.claims.deferred

pub turn_at : (s : State) (c : Core) (p : Pieces) (number : ℕ) → IsOrderly (world s c)
    → Some number ≡ option_map (λ (x : Claim). x.number) (slice_get c.pieces.claims.deferred (ready_at c.pieces.claims))
    → p ≡ after_ready c.pieces
    → IsCalm no_one no_one c
    → TurnAt s c p number
turn_at s c p number o is after calm =
    let k : WakesIn (world s c) number = wakes_in (world s c) number o is calm in
    subst (λ (x : Pieces). TurnAt s c x number) (sym after)
    (record { reaches = k.reaches; orderly = k.orderly; calm = k.calm; fewer = k.fewer })

-- its line is open, where the same lines are, and it alone may have nothing left
pub turn_calm : (c : Core) (number : ℕ) (l : LivePiece) → live_at c.pieces.lives number ≡ Some l → IsCalm (just number) no_one c
    → (just l.line (live_of c.pieces number).line ≡ true) × IsCalm (just number) (just l.line) c
turn_calm c number l at is = (
  eq-eqb (live_of c.pieces number).line l.line (ap (λ (x : LivePiece). x.line) (live_is c.pieces number l at)),
  calm_weaker (just number) (just number) no_one (just l.line) c (λ q not. not) (λ q not. refl) is,
)

kept_some : (x y : Option OpenLine) → kind_of x ≡ kind_of y → is_some y ≡ true
    → is_some x ≡ true
kept_some None None same some = some
kept_some None (Some y) same some = absurd (true≢false (sym (ap is_some same)))
kept_some (Some x) y same some = refl

pub same_opened : (old new : Opens) (line : ℕ) → SameLines old new → is_some (open_at old line) ≡ true → is_some (open_at new line) ≡ true
same_opened old new line same some = kept_some (open_at new line) (open_at old line) (same line) some
