-- Deferred pieces, as a piece leaves, and as the first that may is to start.
use Rattle.std.proofs.Common.{◌≡◌, ◌≤◌, ◌<◌, ℕ, zero, suc, ◌+◌, Bool, true, false, cond, not, ◌||◌, nat_eq, List, [], ◌∷◌, ◌++◌, length}
use Rattle.std.proofs.Common.{get_or}
use Rattle.std.proofs.Common.{Option, None, Some, count_by, is_some, option_map, slice_get, ⊎_elim, refl, sym, ap, subst, ◌∙◌, arith}
use Rattle.std.proofs.Common.{true≢false}
use Rattle.std.specs.List.{list_any, position_or_len, remove}
use Rattle.std.proofs.lemmas.Bool.{cases_lt, eqb-false, eqb-true, ne_eqb}
use Rattle.std.proofs.lemmas.List.Sums.{sum_by-cons}
use Rattle.std.proofs.lemmas.Option.{get_or_from_slice_get, none-some, same_Some, slice_get-get_or, slice_get_within}
use Rattle.claim_table.specs.declared.claim.Claim.{Claim}
use Rattle.claim_table.specs.Claims.{Claims, is_free, ready_after, ready_at}
use Rattle.claim_table.specs.Steps.{after_leave, after_ready, has_number, no_claim, without}
use Rattle.piece_table.specs.declared.live.LivePiece.{LivePiece}
use Rattle.piece_table.specs.Pieces.{AreClaimed, live_at}
use Rattle.io_core.specs.Rest.{just}

-- another number isn't just this one
pub just_other : (number q : ℕ) → nat_eq number q ≡ false → just number q ≡ false
just_other number q apart = ne_eqb q number (λ e. eqb-false number q apart (sym e))

-- ---- a piece leaves

-- each other stays among those from which one is taken out
left_among : (xs : List Claim) (number q : ℕ) → nat_eq number q ≡ false → list_any (has_number q) xs ≡ true
    → list_any (has_number q) (without xs number) ≡ true
left_among [] number q apart is = absurd (true≢false (sym is))
left_among (c ∷ cs) number q apart is =
    elim (nat_eq c.number number) as (λ b. nat_eq c.number number ≡ b
    → list_any (has_number q) (remove (c ∷ cs) (cond (not b) (1 + position_or_len (has_number number) cs) 0)) ≡ true) [
      | true ↦ λ t.
          let other : nat_eq c.number q ≡ false =
          subst (λ (n : ℕ). nat_eq n q ≡ false) (sym (eqb-true c.number number t)) apart in
          ap (λ (b : Bool). b || list_any (has_number q) cs) (sym other) ∙ is
      | false ↦ λ t.
          let next : 1 + position_or_len (has_number number) cs ≡ suc (position_or_len (has_number number) cs) = omega arith in
          rw (next)
          (elim (nat_eq c.number q) as (λ b. (b || list_any (has_number q) cs) ≡ true
          → (b || list_any (has_number q) (without cs number)) ≡ true) [
            | true ↦ λ h. refl
            | false ↦ λ h. left_among cs number q apart h
          ] is)
    ] refl

pub left_deferred : (claims : Claims) (number q : ℕ) → nat_eq number q ≡ false → list_any (has_number q) claims.deferred ≡ true
    → list_any (has_number q) (after_leave claims number).deferred ≡ true
left_deferred claims number q apart is =
    elim (list_any (has_number number) claims.started) as (λ b. list_any (has_number q)
    (cond b (record claims { started = without claims.started number })
    (record claims { deferred = without claims.deferred number })).deferred
    ≡ true) [
      | true ↦ is
      | false ↦ left_among claims.deferred number q apart is
    ]

-- where none passes the count is 0
none_passes : (test : Claim → Bool) (xs : List Claim) → list_any test xs ≡ false → count_by test xs ≡ 0
none_passes test [] none = refl
none_passes test (c ∷ cs) none =
    sum_by-cons (λ (y : Claim). cond (test y) 1 0) c cs
    ∙ elim (test c) as (λ b. (b || list_any test cs) ≡ false → cond b 1 0 + count_by test cs ≡ 0) [
      | true ↦ λ h. absurd (true≢false h)
      | false ↦ λ h. let rest : count_by test cs ≡ 0 = none_passes test cs h in omega (arith, rest)
    ] none

-- where the piece that leaves isn't deferred, those that are stay
pub deferred_stays : (claims : Claims) (lives : List (ℕ × LivePiece)) (number : ℕ) → AreClaimed claims lives
    → is_some (live_at lives number) ≡ true
    → list_any (has_number number) claims.deferred ≡ false
    → (after_leave claims number).deferred ≡ claims.deferred
deferred_stays claims lives number are among none =
    let one : count_by (has_number number) claims.started + count_by (has_number number) claims.deferred ≡ 1 =
    are.once number ∙ ap (λ (b : Bool). cond b 1 0) among in
    elim (list_any (has_number number) claims.started) as (λ b. list_any (has_number number) claims.started ≡ b
    → (cond b (record claims { started = without claims.started number })
    (record claims { deferred = without claims.deferred number })).deferred
    ≡ claims.deferred) [
      | true ↦ λ t. refl
      | false ↦ λ t. absurd (omega (
        arith,
        one,
        none_passes (has_number number) claims.started t,
        none_passes (has_number number) claims.deferred none,
      ))
    ] refl

-- ---- the first that may is to start

-- what the place of the first that may start says
pub record IsReady (claims : Claims) (number : ℕ) : Type 0 where
  pub within : ready_at claims < length claims.deferred
  pub is : (get_or claims.deferred (ready_at claims) no_claim).number ≡ number

pub ready_found : (claims : Claims) (number : ℕ)
    → Some number ≡ option_map (λ (c : Claim). c.number) (slice_get claims.deferred (ready_at claims))
    → IsReady claims number
ready_found claims number is = by (slice_get claims.deferred (ready_at claims)) refl is
  where
    by : (x : Option Claim) → slice_get claims.deferred (ready_at claims) ≡ x → Some number ≡ option_map (λ (c : Claim). c.number) x
        → IsReady claims number
    by None at is = absurd (none-some number (sym is))
    by (Some c) at is = record {
      within = slice_get_within claims.deferred (ready_at claims) c at;
      is =
          ap (λ (x : Claim). x.number) (get_or_from_slice_get claims.deferred (ready_at claims) c no_claim at)
          ∙ sym (same_Some number c.number is);
    }

-- the place is no more than the number of those that are deferred
ready_most : (claims : Claims) (earlier later : List Claim) → ready_after claims earlier later ≤ length later
ready_most claims earlier [] = omega arith
ready_most claims earlier (c ∷ later) =
    elim (is_free claims earlier c) as (λ b. cond b 0 (suc (ready_after claims (earlier ++ c ∷ []) later)) ≤ length (c ∷ later)) [
      | true ↦ omega arith
      | false ↦ omega (arith, ready_most claims (earlier ++ c ∷ []) later)
    ]

pub none_found : (claims : Claims) → None ≡ option_map (λ (c : Claim). c.number) (slice_get claims.deferred (ready_at claims))
    → ready_at claims ≡ length claims.deferred
none_found claims none =
    ⊎_elim
    (λ (lt : ready_at claims < length claims.deferred).
    absurd (none-some (get_or claims.deferred (ready_at claims) no_claim).number
    (none ∙ ap (λ (x : Option Claim). option_map (λ (c : Claim). c.number) x)
    (slice_get-get_or claims.deferred (ready_at claims) no_claim lt))))
    (λ (ge : length claims.deferred ≤ ready_at claims). let most = ready_most claims [] claims.deferred in omega (arith, ge, most))
    (cases_lt (ready_at claims) (length claims.deferred))

-- each that passes stays, where one goes that doesn't
any_removed : (test : Claim → Bool) (xs : List Claim) (i : ℕ) → test (get_or xs i no_claim) ≡ false → list_any test xs ≡ true
    → list_any test (remove xs i) ≡ true
any_removed test [] i fails is = absurd (true≢false (sym is))
any_removed test (c ∷ cs) zero fails is = ap (λ (b : Bool). b || list_any test cs) (sym fails) ∙ is
any_removed test (c ∷ cs) (suc i) fails is =
    elim (test c) as (λ b. (b || list_any test cs) ≡ true → (b || list_any test (remove cs i)) ≡ true) [
      | true ↦ λ h. refl
      | false ↦ λ h. any_removed test cs i fails h
    ] is

pub ready_deferred : (claims : Claims) (number q : ℕ) → IsReady claims number → nat_eq number q ≡ false
    → list_any (has_number q) claims.deferred ≡ true
    → list_any (has_number q) (after_ready claims).deferred ≡ true
ready_deferred claims number q ready apart is =
    any_removed (has_number q) claims.deferred (ready_at claims) (subst (λ (n : ℕ). nat_eq n q ≡ false) (sym ready.is) apart) is
