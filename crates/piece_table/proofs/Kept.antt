-- Each call keeps what the type keeps: the claims, the numbers, the operations in flight, and room for what is spare.
use Rattle.std.proofs.Common.{◌≡◌, ◌≤◌, ◌<◌, ℕ, ◌+◌, ◌-◌, ◌^◌, true, false, cond, List, Option, Some, None, refl, sym, ap, arith}
use Rattle.std.specs.Prelude.{MatchOption, is_some, option_map, slice_get}
use Rattle.std.specs.List.{list_any}
use Rattle.claim_table.specs.declared.claim.Claim.{Claim}
use Rattle.claim_table.specs.declared.claim.Entry.{Entry}
use Rattle.claim_table.specs.declared.claim.Entry.TheVariants.{Deferred, Started}
use Rattle.claim_table.specs.Claims.{Claims, ready_at}
use Rattle.claim_table.specs.Steps as claims
use Rattle.piece_table.specs.declared.live.LivePiece.{LivePiece}
use Rattle.piece_table.specs.declared.live.Owner.{Owner}
use Rattle.piece_table.specs.Pieces.{AreClaimed, AreFlying, AreNumbered, AreWaiting, Pieces, flying_in}
use Rattle.piece_table.specs.Pieces.{live_at}
use Rattle.piece_table.specs.Steps.{after_ready}
use Rattle.piece_table.proofs.Claimed.{Changes, below_next, claimed_leave, claimed_next, claimed_same}
use Rattle.piece_table.proofs.Claimed.{numbered_same, spare_next}
use Rattle.piece_table.proofs.Flying.{flying_same}
use Rattle.piece_table.proofs.Waiting.{waiting_leave, waiting_next}

-- what the type keeps, with room for so many pieces and operations
abbrev pub Kept : Claims → List (ℕ × LivePiece) → List (ℕ × Owner) → ℕ → ℕ → ℕ → ℕ → Type 0
Kept held lives owners next spare_ops pieces operations =
    AreClaimed held lives × AreNumbered next lives × AreFlying lives owners × (held.spare ≤ pieces) × (spare_ops ≤ operations)
    × (next + held.spare < 2 ^ 64) × AreWaiting held.deferred lives

spare_entered : (old : Claims) (c : Claim) (entry : Entry) → (claims.after_enter old c entry).spare ≡ old.spare - 1
spare_entered old c Started = refl
spare_entered old c (Deferred by) = refl

spare_left : (old : Claims) (n : ℕ) → (claims.after_leave old n).spare ≡ old.spare
spare_left old n =
    elim (list_any (claims.has_number n) old.started) as
    (λ b. (cond b (record old { started = claims.without old.started n }) (record old { deferred = claims.without old.deferred n })).spare
    ≡ old.spare) [
      | true ↦ refl
      | false ↦ refl
    ]

-- a piece has changed, but not its sectors
pub kept_change : (old : Claims) (lives after : List (ℕ × LivePiece)) (owners others : List (ℕ × Owner))
    (next spare_ops left pieces more operations others_room n : ℕ) (l now : LivePiece)
    → Changes lives n (Some now) after → live_at lives n ≡ Some l → now.piece ≡ l.piece → AreFlying after others → left ≤ others_room
    → pieces ≤ more → AreWaiting old.deferred after
    → Kept old lives owners next spare_ops pieces operations
    → Kept old after others next left more others_room
kept_change old lives after owners others next spare_ops left pieces more operations others_room n l now change is same flying room le
    waiting kept = (
      claimed_same old lives after n l now change is same kept.0,
      numbered_same next n lives after (Some now) change (below_next next lives n kept.1 (ap is_some is)) kept.1,
      flying,
      omega (arith, le, kept.3),
      room,
      kept.5,
      waiting,
    )

pub kept_leave : (old : Claims) (lives after : List (ℕ × LivePiece)) (owners : List (ℕ × Owner))
    (next spare_ops pieces more operations n : ℕ)
    → Changes lives n None after → is_some (live_at lives n) ≡ true → flying_in lives n ≡ 0 → pieces ≤ more
    → Kept old lives owners next spare_ops pieces operations
    → Kept (claims.after_leave old n) after owners next spare_ops more operations
kept_leave old lives after owners next spare_ops pieces more operations n change is landed room kept =
    let spare = spare_left old n in (
      claimed_leave old lives after n change is kept.0,
      numbered_same next n lives after None change (below_next next lives n kept.1 is) kept.1,
      flying_same lives after n None owners change (sym landed) kept.2,
      omega (arith, spare, room, kept.3),
      kept.4,
      omega (arith, spare, kept.5),
      waiting_leave old lives after n change is kept.0 kept.6,
    )

pub kept_ready : (old new : Claims) (lives : List (ℕ × LivePiece)) (owners : List (ℕ × Owner)) (next spare_ops pieces operations : ℕ)
    (r : Option ℕ)
    → r ≡ option_map (λ (c : Claim). c.number) (slice_get old.deferred (ready_at old))
    → MatchOption r (new ≡ old) (λ n. new ≡ claims.after_ready old) → Kept old lives owners next spare_ops pieces operations
    → Kept new lives owners next spare_ops pieces operations
kept_ready old new lives owners next spare_ops pieces operations r is after kept =
    let spare = spare_next old new r after in (
      claimed_next old new lives r is after kept.0,
      kept.1,
      kept.2,
      omega (arith, spare, kept.3),
      kept.4,
      omega (arith, spare, kept.5),
      waiting_next old new lives r is after kept.6,
    )

-- what comes of a look for a ready piece
pub ready_pieces : (p : Pieces) (new : Claims) (r : Option ℕ) → MatchOption r (new ≡ p.claims) (λ n. new ≡ claims.after_ready p.claims)
    → MatchOption r (record p { claims = new } ≡ p) (λ n. record p { claims = new } ≡ after_ready p)
ready_pieces p new None after = ap (λ (x : Claims). record p { claims = x }) after
ready_pieces p new (Some n) after = ap (λ (x : Claims). record p { claims = x }) after
