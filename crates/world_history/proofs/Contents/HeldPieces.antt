-- What a table of pieces keeps as one of them enters, starts, goes on or leaves.
use Rattle.std.proofs.Common.{◌≡◌, ◌<◌, ℕ, ◌+◌, ◌-◌, Bool, true, false, cond, ◌||◌, nat_eq, List, [], ◌∷◌, ◌++◌, length}
use Rattle.std.proofs.Common.{All, Option, None, Some, count_by, is_some, option_map, unwrap_or, refl, sym, ap, subst, ◌∙◌, arith}
use Rattle.std.proofs.Common.{true≢false}
use Rattle.std.specs.List.{list_any}
use Rattle.std.specs.Option.{option_map_or}
use Rattle.std.proofs.lemmas.Bool.{eqb-true}
use Rattle.std.proofs.lemmas.List.Elements.{All-push}
use Rattle.std.proofs.lemmas.List.Sums.{sum_by-cons, sum_by_push}
use Rattle.std.proofs.lemmas.Option.{none-some}
use Rattle.list_laws.proofs.Positions.{all_remove}
use Rattle.sector_base.specs.declared.places.Piece.{Piece}
use Rattle.claim_table.specs.declared.claim.Claim.{Claim}
use Rattle.claim_table.specs.declared.claim.Entry.{Entry}
use Rattle.claim_table.specs.declared.claim.Entry.TheVariants as entry
use Rattle.claim_table.specs.Claims.{IsApart, IsEntry, ready_at}
use Rattle.claim_table.specs.Steps.{has_number}
use Rattle.claim_table.proofs.Apart.{apart_by_enter, apart_by_leave, apart_by_ready}
use Rattle.piece_table.specs.declared.live.LivePiece.{LivePiece}
use Rattle.piece_table.specs.declared.live.Stage.{Stage}
use Rattle.piece_table.specs.declared.live.Stage.TheVariants.{Waiting}
use Rattle.piece_table.specs.Pieces.{AreClaimed, AreWaiting, IsLive, Pieces, claim_of, is_waiting_stage, live_at}
use Rattle.piece_table.specs.Steps.{after_enter, after_flies, after_lands, after_leave, after_ready, live_of, no_live, with_live}
use Rattle.piece_table.specs.Steps.{with_stage, with_flying, without_ticket}
use Rattle.piece_table.proofs.Claimed as claimed
use Rattle.piece_table.proofs.Waiting as waiting
use Rattle.world_acts.proofs.Tables.{AreSingle, Changes, appended, own_at, removed, revalued}

-- the claims are those of the pieces, nothing of a deferred piece was submitted, and started pieces conflict with none
pub record AreHeld (p : Pieces) : Type 0 where
  pub claimed : AreClaimed p.claims p.lives
  pub waiting : AreWaiting p.claims.deferred p.lives
  pub apart : IsApart p.claims

-- and the piece with this number isn't deferred
pub record HasPiece (p : Pieces) (number : ℕ) : Type 0 where
  pub held : AreHeld p
  pub single : AreSingle p.lives
  pub free : list_any (has_number number) p.claims.deferred ≡ false
  pub live : LivePiece
  pub at : live_at p.lives number ≡ Some live

-- ---- a piece that isn't deferred

-- nothing of the piece was submitted
abbrev waits : Option LivePiece → Bool
waits o = option_map_or (λ (l : LivePiece). is_waiting_stage l.stage) o false

abbrev IsUntouched : Claim → Option LivePiece → Type 0
IsUntouched c o = waits o ≡ true

none_counts : {X : Type 0} (p : X → Bool) (xs : List X) → list_any p xs ≡ false → count_by p xs ≡ 0
none_counts p [] none = refl
none_counts {X} p (x ∷ xs) none =
    sum_by-cons (λ (y : X). cond (p y) 1 0) x xs
    ∙ (elim (p x) as (λ b. (b || list_any p xs) ≡ false → cond b 1 0 + count_by p xs ≡ 0) [
      | true ↦ λ h. absurd (true≢false h)
      | false ↦ λ h. let rest : count_by p xs ≡ 0 = none_counts p xs h in omega (arith, rest)
    ] none)

-- what was submitted isn't
pub not_deferred : (p : Pieces) (number : ℕ) (l : LivePiece) → AreHeld p → live_at p.lives number ≡ Some l
    → is_waiting_stage l.stage ≡ false → list_any (has_number number) p.claims.deferred ≡ false
not_deferred p number l held at none =
    waiting.not_deferred p.claims.deferred p.lives number (ap waits at ∙ none) held.waiting

-- its claim is among the started ones
pub among_started : (p : Pieces) (number : ℕ) (l : LivePiece) → AreHeld p → live_at p.lives number ≡ Some l
    → list_any (has_number number) p.claims.deferred ≡ false → list_any (has_number number) p.claims.started ≡ true
among_started p number l held at free =
    left_one (list_any (has_number number) p.claims.started) (list_any (has_number number) p.claims.deferred)
    (claimed.is_claimed p.claims p.lives number (ap is_some at) held.claimed) free
  where
    left_one : (a b : Bool) → (a || b) ≡ true → b ≡ false → a ≡ true
    left_one true b is none = refl
    left_one false true is none = sym none
    left_one false false is none = is

pub submitted : (p : Pieces) (number : ℕ) (l : LivePiece) → AreSingle p.lives → AreHeld p → live_at p.lives number ≡ Some l
    → is_waiting_stage l.stage ≡ false → HasPiece p number
submitted p number l single held at none = record {
  held = held;
  single = single;
  free = not_deferred p number l held at none;
  live = l;
  at = at;
}

-- it goes on
replaced : (p : Pieces) (number : ℕ) (new : LivePiece) → new.piece ≡ (live_of p number).piece → HasPiece p number
    → HasPiece (with_live p number new) number
replaced p number new same h =
    let after : List (ℕ × LivePiece) = (with_live p number new).lives in
    let change : Changes number (Some h.live) (Some new) p.lives after = revalued p.lives number h.live new h.single h.at in
    let piece : new.piece ≡ h.live.piece = same ∙ ap (λ (o : Option LivePiece). (unwrap_or o no_live).piece) h.at in
    record {
      held = record {
        claimed = claimed.claimed_same p.claims p.lives after number h.live new change.found h.at piece h.held.claimed;
        waiting =
            claimed.others_keep IsUntouched p.lives after number (Some new) p.claims.deferred change.found
            (none_counts (has_number number) p.claims.deferred h.free) h.held.waiting;
        apart = h.held.apart;
      };
      single = change.single;
      free = h.free;
      live = new;
      at = own_at change;
    }

pub staged : (p : Pieces) (number : ℕ) (stage : Stage) → HasPiece p number → HasPiece (with_stage p number stage) number
staged p number stage h = replaced p number (record (live_of p number) { stage = stage }) refl h

pub unticketed : (p : Pieces) (number : ℕ) → HasPiece p number → HasPiece (without_ticket p number) number
unticketed p number h = replaced p number (record (live_of p number) { ticket = None }) refl h

pub flown : (p : Pieces) (number tag : ℕ) (primary : Bool) → HasPiece p number → AreHeld (after_flies p number tag primary)
flown p number tag primary h =
    let held = (staged p number (with_flying (live_of p number).stage (λ n. n + 1)) h).held in
    record { claimed = held.claimed; waiting = held.waiting; apart = held.apart }

pub landed : (p : Pieces) (tag number : ℕ) → HasPiece p number → AreHeld (after_lands p tag number)
landed p tag number h =
    let held = (staged p number (with_flying (live_of p number).stage (λ n. n - 1)) h).held in
    record { claimed = held.claimed; waiting = held.waiting; apart = held.apart }

-- it leaves
pub left : (p : Pieces) (number : ℕ) → HasPiece p number → AreHeld (after_leave p number)
left p number h =
    let change = removed p.lives number h.live h.single h.at in
    let some : is_some (live_at p.lives number) ≡ true = ap is_some h.at in
    record {
      claimed = claimed.claimed_leave p.claims p.lives (after_leave p number).lives number change.found some h.held.claimed;
      waiting =
          waiting.waiting_leave p.claims p.lives (after_leave p number).lives number change.found some h.held.claimed h.held.waiting;
      apart = apart_by_leave p.claims number h.held.apart;
    }

-- ---- a piece that enters

abbrev how_many : Option LivePiece → ℕ
how_many o = cond (is_some o) 1 0

-- the claim is of this piece
abbrev IsOf : Claim → Option LivePiece → Type 0
IsOf c o = option_map (λ (l : LivePiece). l.piece) o ≡ Some c.piece

module _ (p : Pieces) (line : ℕ) (piece : Piece) (sectors : List (List ℕ)) (ticket : Option (Unit {0})) (single : AreSingle p.lives)
    (none : live_at p.lives p.next ≡ None) (held : AreHeld p) where
  abbrev entering : LivePiece
  entering = record { line = line; piece = piece; stage = Waiting sectors; ticket = ticket }

  abbrev its_claim : Claim
  its_claim = claim_of p.next piece None

  abbrev with_entering : List (ℕ × LivePiece)
  with_entering = p.lives ++ (p.next, entering) ∷ []

  enters : Changes p.next None (Some entering) p.lives with_entering
  enters = appended p.lives p.next entering single none

  others_claimed : (xs : List Claim) → All (IsLive p.lives) xs → All (IsLive with_entering) xs
  others_claimed xs all =
      claimed.change_keeps IsOf p.lives with_entering p.next (Some entering) xs enters.found
      (λ c is. absurd (none-some c.piece (ap (option_map (λ (l : LivePiece). l.piece)) (sym none) ∙ is))) all

  others_wait : (xs : List Claim) → AreWaiting xs p.lives → AreWaiting xs with_entering
  others_wait xs all =
      claimed.change_keeps IsUntouched p.lives with_entering p.next (Some entering) xs enters.found
      (λ c is. absurd (true≢false (sym (ap waits (sym none) ∙ is)))) all

  own_claimed : IsLive with_entering its_claim
  own_claimed = ap (λ (o : Option LivePiece). option_map (λ (l : LivePiece). l.piece) o) (own_at enters)

  -- one more piece has the next number, which none had
  one_entered : (q : ℕ) → how_many (live_at with_entering q) ≡ how_many (live_at p.lives q) + cond (nat_eq p.next q) 1 0
  one_entered q = by (nat_eq p.next q) refl (enters.found q)
    where
      by : (b : Bool) → nat_eq p.next q ≡ b → live_at with_entering q ≡ cond b (Some entering) (live_at p.lives q)
          → how_many (live_at with_entering q) ≡ how_many (live_at p.lives q) + cond b 1 0
      by true t is =
          let its : how_many (live_at with_entering q) ≡ 1 = ap how_many is in
          let before : how_many (live_at p.lives q) ≡ 0 =
          ap how_many (subst (λ (r : ℕ). live_at p.lives r ≡ None) (eqb-true p.next q t) none) in
          omega (arith, its, before)
      by false t is = let same : how_many (live_at with_entering q) ≡ how_many (live_at p.lives q) = ap how_many is in omega (arith, same)

  one_more : (q many more old : ℕ) → more ≡ many + cond (nat_eq p.next q) 1 0 → many + old ≡ how_many (live_at p.lives q)
      → more + old ≡ how_many (live_at with_entering q)
  one_more q many more old is was = omega (arith, is, was, one_entered q)

  pushed : (xs : List Claim) (q : ℕ)
      → count_by (has_number q) (xs ++ its_claim ∷ []) ≡ count_by (has_number q) xs + cond (nat_eq p.next q) 1 0
  pushed xs q = sum_by_push (λ (d : Claim). cond (has_number q d) 1 0) xs its_claim

  pub entered : (e : Entry) → IsEntry p.claims its_claim e → AreHeld (after_enter p line piece None sectors ticket e)
  entered entry.Started may = record {
    claimed = record {
      started =
          All-push (IsLive with_entering) p.claims.started its_claim
          (others_claimed p.claims.started held.claimed.started) own_claimed;
      deferred = others_claimed p.claims.deferred held.claimed.deferred;
      once =
          λ q. one_more q (count_by (has_number q) p.claims.started) (count_by (has_number q) (p.claims.started ++ its_claim ∷ []))
          (count_by (has_number q) p.claims.deferred) (pushed p.claims.started q) (held.claimed.once q);
    };
    waiting = others_wait p.claims.deferred held.waiting;
    apart = apart_by_enter p.claims its_claim entry.Started may held.apart;
  }
  entered (entry.Deferred by) may = record {
    claimed = record {
      started = others_claimed p.claims.started held.claimed.started;
      deferred =
          All-push (IsLive with_entering) p.claims.deferred its_claim
          (others_claimed p.claims.deferred held.claimed.deferred) own_claimed;
      once =
          λ q. other_more q (count_by (has_number q) p.claims.started) (count_by (has_number q) p.claims.deferred)
          (count_by (has_number q) (p.claims.deferred ++ its_claim ∷ [])) (pushed p.claims.deferred q)
          (held.claimed.once q);
    };
    waiting =
        All-push (λ (c : Claim). waits (live_at with_entering c.number) ≡ true) p.claims.deferred its_claim
        (others_wait p.claims.deferred held.waiting) (ap waits (own_at enters));
    apart = apart_by_enter p.claims its_claim (entry.Deferred by) may held.apart;
  }
    where
      other_more : (q old many more : ℕ) → more ≡ many + cond (nat_eq p.next q) 1 0 → old + many ≡ how_many (live_at p.lives q)
          → old + more ≡ how_many (live_at with_entering q)
      other_more q old many more is was = omega (arith, is, was, one_entered q)

-- ---- the first that is ready

pub readied : (p : Pieces) → ready_at p.claims < length p.claims.deferred → AreHeld p → AreHeld (after_ready p)
readied p lt held = record {
  claimed = claimed.claimed_ready p.claims p.lives lt held.claimed;
  waiting =
      all_remove (λ (d : Claim). waits (live_at p.lives d.number) ≡ true) p.claims.deferred (ready_at p.claims) lt held.waiting;
  apart = apart_by_ready p.claims lt held.apart;
}
