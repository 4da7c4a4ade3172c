-- The deferred pieces stay those of which nothing was submitted, and which piece is to start.
use Rattle.std.proofs.Common.{◌≡◌, ℕ, ◌+◌, Bool, true, false, not, cond, ◌||◌, nat_eq, List, Option, Some, None, get_or, refl, sym, ap}
use Rattle.std.proofs.Common.{◌∙◌, subst, arith}
use Rattle.std.specs.Prelude.{◌&&◌, All, IsTrue, IfSome, MatchOption, count_by, is_some, option_map, remove, slice_get}
use Rattle.std.specs.List.{list_any}
use Rattle.std.specs.Option.{option_map_or}
use Rattle.std.specs.Cmp.Derive.{both_true}
use Rattle.std.proofs.lemmas.Bool.{eq-eqb, eqb-true}
use Rattle.std.proofs.lemmas.List.Sums.{sum_by-remove}
use Rattle.list_laws.proofs.Positions.{all_remove, any_within}
use Rattle.claim_table.specs.declared.claim.Claim.{Claim}
use Rattle.claim_table.specs.declared.claim.Entry.{Entry}
use Rattle.claim_table.specs.declared.claim.Entry.TheVariants.{Started}
use Rattle.claim_table.specs.Claims.{Claims, ready_at}
use Rattle.claim_table.specs.Steps as claims
use Rattle.piece_table.specs.declared.live.LivePiece.{LivePiece}
use Rattle.piece_table.specs.declared.live.Stage.{Stage}
use Rattle.piece_table.specs.declared.live.Stage.TheVariants as stage
use Rattle.piece_table.specs.Pieces.{AreClaimed, AreWaiting, Pieces, is_waiting_stage, live_at, may_start}
use Rattle.piece_table.specs.Steps.{with_flying}
use Rattle.piece_table.proofs.Claimed.{Changes, at_itself, change_keeps, claimed_leave, is_claimed, live_is, others_keep, ready_within}
use Rattle.piece_table.proofs.Counts.{none_any, passes_at}

-- whether nothing of the piece was submitted
abbrev waits : Option LivePiece → Bool
waits o = option_map_or (λ (l : LivePiece). is_waiting_stage l.stage) o false

-- nothing of the claim's piece was submitted
abbrev IsUntouched : Claim → Option LivePiece → Type 0
IsUntouched c o = waits o ≡ true

-- more operations in flight, or fewer, don't change that
pub waits_flying : (s : Stage) (f : ℕ → ℕ) → is_waiting_stage (with_flying s f) ≡ is_waiting_stage s
waits_flying (stage.Started flying lost) f = refl
waits_flying (stage.Taken awaited) f = refl
waits_flying (stage.Waiting sectors) f = refl

-- what was submitted isn't deferred
pub not_deferred : (xs : List Claim) (lives : List (ℕ × LivePiece)) (n : ℕ) → waits (live_at lives n) ≡ false → AreWaiting xs lives
    → list_any (claims.has_number n) xs ≡ false
not_deferred xs lives n none all =
    elim (list_any (claims.has_number n) xs) as (λ b. list_any (claims.has_number n) xs ≡ b → b ≡ false) [
      | true ↦ λ t.
          let c : Claim = get_or xs (claims.number_at xs n) claims.no_claim in
          let is : c.number ≡ n = eqb-true c.number n (passes_at (claims.has_number n) xs claims.no_claim t) in
          sym (all (claims.number_at xs n) claims.no_claim (any_within (claims.has_number n) xs t))
          ∙ ap (λ (m : ℕ). waits (live_at lives m)) is ∙ none
      | false ↦ λ t. refl
    ] refl

-- a piece has changed that waits as before
pub waiting_same : (xs : List Claim) (lives after : List (ℕ × LivePiece)) (n : ℕ) (l now : LivePiece) → Changes lives n (Some now) after
    → live_at lives n ≡ Some l → is_waiting_stage now.stage ≡ is_waiting_stage l.stage → AreWaiting xs lives
    → AreWaiting xs after
waiting_same xs lives after n l now change is same all =
    change_keeps IsUntouched lives after n (Some now) xs change (λ c h. same ∙ sym (ap waits is) ∙ h) all

-- what is answered to be started is to start
pub enter_starts : (old new : Claims) (lives after : List (ℕ × LivePiece)) (c : Claim) (l : LivePiece) (entry : Entry)
    → new ≡ claims.after_enter old c entry → Changes lives c.number (Some l) after → live_at lives c.number ≡ None
    → is_waiting_stage l.stage ≡ true → AreWaiting old.deferred lives → entry ≡ Started
    → IsTrue (waits (live_at after c.number) && not (list_any (claims.has_number c.number) new.deferred))
enter_starts old new lives after c l entry is change none waiting all started =
    let same : new.deferred ≡ old.deferred =
    ap (λ (x : Claims). x.deferred) is ∙ ap (λ (e : Entry). (claims.after_enter old c e).deferred) started in
    both_true (ap waits (at_itself lives after c.number (Some l) change) ∙ waiting)
    (ap (λ (xs : List Claim). not (list_any (claims.has_number c.number) xs)) same
    ∙ ap not (not_deferred old.deferred lives c.number (ap waits none) all))

-- a piece leaves
deferred_left : (P : Claim → Type 0) (old : Claims) (n : ℕ)
    → IsTrue (list_any (claims.has_number n) old.started || list_any (claims.has_number n) old.deferred) → All P old.deferred
    → All P (claims.after_leave old n).deferred
deferred_left P old n is all =
    elim (list_any (claims.has_number n) old.started) as
    (λ b. IsTrue (b || list_any (claims.has_number n) old.deferred)
    → All P (cond b (record old { started = claims.without old.started n })
    (record old { deferred = claims.without old.deferred n })).deferred) [
      | true ↦ λ t. all
      | false ↦ λ t. all_remove P old.deferred (claims.number_at old.deferred n) (any_within (claims.has_number n) old.deferred t) all
    ] is

pub waiting_leave : (old : Claims) (lives after : List (ℕ × LivePiece)) (n : ℕ) → Changes lives n None after
    → is_some (live_at lives n) ≡ true → AreClaimed old lives → AreWaiting old.deferred lives
    → AreWaiting (claims.after_leave old n).deferred after
waiting_leave old lives after n change is are all =
    let none : count_by (claims.has_number n) (claims.after_leave old n).started
    + count_by (claims.has_number n) (claims.after_leave old n).deferred ≡ 0 =
    (claimed_leave old lives after n change is are).once n
    ∙ ap (λ (o : Option LivePiece). cond (is_some o) 1 0) (at_itself lives after n None change) in
    others_keep IsUntouched lives after n None (claims.after_leave old n).deferred change (omega (arith, none))
    (deferred_left (λ (c : Claim). waits (live_at lives c.number) ≡ true) old n (is_claimed old lives n is are) all)

-- a look for a ready piece
pub waiting_next : (old new : Claims) (lives : List (ℕ × LivePiece)) (r : Option ℕ)
    → r ≡ option_map (λ (c : Claim). c.number) (slice_get old.deferred (ready_at old))
    → MatchOption r (new ≡ old) (λ n. new ≡ claims.after_ready old) → AreWaiting old.deferred lives
    → AreWaiting new.deferred lives
waiting_next old new lives None is after all = subst (λ (x : Claims). AreWaiting x.deferred lives) (sym after) all
waiting_next old new lives (Some n) is after all =
    subst (λ (x : Claims). AreWaiting x.deferred lives) (sym after)
    (all_remove (λ (c : Claim). waits (live_at lives c.number) ≡ true) old.deferred (ready_at old) (ready_within old n is).0 all)

-- what is ready is to start
pub next_starts : (p : Pieces) (new : Claims) (r : Option ℕ)
    → r ≡ option_map (λ (c : Claim). c.number) (slice_get p.claims.deferred (ready_at p.claims))
    → MatchOption r (new ≡ p.claims) (λ n. new ≡ claims.after_ready p.claims) → AreClaimed p.claims p.lives
    → AreWaiting p.claims.deferred p.lives
    → IfSome r (λ n. IsTrue (may_start (record p { claims = new }) n))
next_starts p new None is after are all = tt
next_starts p new (Some n) is after are all =
    let at = ready_at p.claims in
    let found = ready_within p.claims n is in
    let c : Claim = get_or p.claims.deferred at claims.no_claim in
    let among : is_some (live_at p.lives n) ≡ true =
    subst (λ (m : ℕ). is_some (live_at p.lives m) ≡ true) found.1 (live_is p.lives c (are.deferred at claims.no_claim found.0)) in
    let one : count_by (claims.has_number n) p.claims.started + count_by (claims.has_number n) p.claims.deferred ≡ 1 =
    are.once n ∙ ap (λ b. cond b 1 0) among in
    let taken = sum_by-remove (λ (d : Claim). cond (claims.has_number n d) 1 0) p.claims.deferred at claims.no_claim found.0 in
    let itself : cond {A = ℕ} (nat_eq c.number n) 1 0 ≡ 1 = ap (λ b. cond {A = ℕ} b 1 0) (eq-eqb c.number n found.1) in
    let none : list_any (claims.has_number n) (remove p.claims.deferred at) ≡ false =
    none_any (claims.has_number n) (remove p.claims.deferred at) claims.no_claim (omega (arith, taken, itself, one)) in
    both_true (subst (λ (m : ℕ). waits (live_at p.lives m) ≡ true) found.1 (all at claims.no_claim found.0))
    (ap (λ (x : Claims). not (list_any (claims.has_number n) x.deferred)) after ∙ ap not none)
