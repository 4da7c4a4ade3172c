-- The claims stay those of the pieces.
use Rattle.std.proofs.Common.{◌≡◌, ◌≤◌, ◌<◌, ℕ, zero, suc, ◌+◌, true, false, cond, ◌||◌, nat_eq, List, [], ◌∷◌, length, get_or, Option}
use Rattle.std.proofs.Common.{Some, None, ⊎_elim, refl, sym, ap, ◌∙◌, subst, arith}
use Rattle.std.specs.Prelude.{All, IsTrue, MatchOption, count_by, is_some, option_map, slice_get}
use Rattle.std.specs.List.{list_any}
use Rattle.std.proofs.lemmas.Bool.{cases_lt, eq-eqb, eqb-false, eqb-true, ne_eqb}
use Rattle.std.proofs.lemmas.Option.{same_Some}
use Rattle.std.proofs.lemmas.List.Sums.{sum_by-insert, sum_by-remove}
use Rattle.list_laws.proofs.Positions.{all_remove, any_within}
use Rattle.claim_table.specs.declared.claim.Claim.{Claim}
use Rattle.claim_table.specs.Claims.{Claims, ready_at}
use Rattle.claim_table.specs.Steps as claims
use Rattle.piece_table.specs.declared.live.LivePiece.{LivePiece}
use Rattle.piece_table.specs.Pieces.{AreClaimed, AreNumbered, IsLive, live_at}
use Rattle.piece_table.proofs.Counts.{all_insert, none_counted, none_passes, passes_at}

-- under this number is now this, and under each other what was there
abbrev pub Changes : List (ℕ × LivePiece) → ℕ → Option LivePiece → List (ℕ × LivePiece) → Type 0
Changes lives n now after = (q : ℕ) → live_at after q ≡ cond (nat_eq n q) now (live_at lives q)

pub at_itself : (lives after : List (ℕ × LivePiece)) (n : ℕ) (now : Option LivePiece) → Changes lives n now after → live_at after n ≡ now
at_itself lives after n now change = change n ∙ ap (λ b. cond b now (live_at lives n)) (eq-eqb n n refl)

at_other : (lives after : List (ℕ × LivePiece)) (n q : ℕ) (now : Option LivePiece) → Changes lives n now after → nat_eq n q ≡ false
    → live_at after q ≡ live_at lives q
at_other lives after n q now change other = change q ∙ ap (λ b. cond b now (live_at lives q)) other

-- numbers of pieces are below the next
pub below_next : (next : ℕ) (lives : List (ℕ × LivePiece)) (n : ℕ) → AreNumbered next lives → is_some (live_at lives n) ≡ true → n < next
below_next next lives n numbered is =
    ⊎_elim (λ (lt : n < next). lt)
    (λ (ge : next ≤ n). let none : is_some (live_at lives n) ≡ false = ap is_some (numbered n ge) in cc) (cases_lt n next)

pub numbered_same : (next n : ℕ) (lives after : List (ℕ × LivePiece)) (now : Option LivePiece) → Changes lives n now after → n < next
    → AreNumbered next lives
    → AreNumbered next after
numbered_same next n lives after now change lt numbered q le =
    elim (nat_eq n q) as (λ b. nat_eq n q ≡ b → live_at after q ≡ None) [
      | true ↦ λ t. absurd (omega (arith, lt, le, eqb-true n q t))
      | false ↦ λ t. at_other lives after n q now change t ∙ numbered q le
    ] refl

-- a claim has its piece
pub live_is : (lives : List (ℕ × LivePiece)) (c : Claim) → IsLive lives c → is_some (live_at lives c.number) ≡ true
live_is lives c is =
    elim (live_at lives c.number) as (λ o. option_map (λ (l : LivePiece). l.piece) o ≡ Some c.piece → is_some o ≡ true) [
      | None ↦ λ h. cc
      | Some l ↦ λ h. refl
    ] is

-- what holds of each claim and what is under its number goes on, where it goes over to what is now under the changed number
pub change_keeps : (P : Claim → Option LivePiece → Type 0) (lives after : List (ℕ × LivePiece)) (n : ℕ) (now : Option LivePiece)
    (xs : List Claim)
    → Changes lives n now after → ((c : Claim) → P c (live_at lives n) → P c now) → All (λ (c : Claim). P c (live_at lives c.number)) xs
    → All (λ (c : Claim). P c (live_at after c.number)) xs
change_keeps P lives after n now xs change goes all k d lt =
    let c : Claim = get_or xs k d in
    elim (nat_eq n c.number) as (λ b. nat_eq n c.number ≡ b → P c (live_at after c.number)) [
      | true ↦ λ t.
          let is : n ≡ c.number = eqb-true n c.number t in
          subst (λ (r : ℕ). P c (live_at after r)) is (subst (P c) (sym (at_itself lives after n now change))
          (goes c (subst (λ (r : ℕ). P c (live_at lives r)) (sym is) (all k d lt))))
      | false ↦ λ t. subst (P c) (sym (at_other lives after n c.number now change t)) (all k d lt)
    ] refl

-- and where none of the claims has the changed number
pub others_keep : (P : Claim → Option LivePiece → Type 0) (lives after : List (ℕ × LivePiece)) (n : ℕ) (now : Option LivePiece)
    (xs : List Claim)
    → Changes lives n now after → count_by (claims.has_number n) xs ≡ 0 → All (λ (c : Claim). P c (live_at lives c.number)) xs
    → All (λ (c : Claim). P c (live_at after c.number)) xs
others_keep P lives after n now xs change none all k d lt =
    let c : Claim = get_or xs k d in
    let other : nat_eq n c.number ≡ false =
    ne_eqb n c.number (λ e. eqb-false c.number n (none_passes (claims.has_number n) xs none k d lt) (sym e)) in
    subst (P c) (sym (at_other lives after n c.number now change other)) (all k d lt)

-- the claim is of this piece
abbrev IsOf : Claim → Option LivePiece → Type 0
IsOf c o = option_map (λ (l : LivePiece). l.piece) o ≡ Some c.piece

-- a piece that has changed, but not what is claimed
pub claimed_same : (claims : Claims) (lives after : List (ℕ × LivePiece)) (n : ℕ) (l now : LivePiece) → Changes lives n (Some now) after
    → live_at lives n ≡ Some l → now.piece ≡ l.piece → AreClaimed claims lives
    → AreClaimed claims after
claimed_same claims lives after n l now change is same old =
    let pieces : (q : ℕ) → option_map (λ (m : LivePiece). m.piece) (live_at after q)
    ≡ option_map (λ (m : LivePiece). m.piece) (live_at lives q) = λ q.
    elim (nat_eq n q) as
    (λ b. nat_eq n q ≡ b
    → option_map (λ (m : LivePiece). m.piece) (live_at after q) ≡ option_map (λ (m : LivePiece). m.piece) (live_at lives q)) [
      | true ↦ λ t.
          subst (λ (r : ℕ). option_map (λ (m : LivePiece). m.piece) (live_at after r)
          ≡ option_map (λ (m : LivePiece). m.piece) (live_at lives r)) (eqb-true n q t)
          (ap (option_map (λ (m : LivePiece). m.piece)) (at_itself lives after n (Some now) change) ∙ ap Some same
          ∙ sym (ap (option_map (λ (m : LivePiece). m.piece)) is))
      | false ↦ λ t. ap (option_map (λ (m : LivePiece). m.piece)) (at_other lives after n q (Some now) change t)
    ] refl in
    record {
      started = λ k d lt. pieces (get_or claims.started k d).number ∙ old.started k d lt;
      deferred = λ k d lt. pieces (get_or claims.deferred k d).number ∙ old.deferred k d lt;
      once = λ q. old.once q ∙ ap (λ b. cond b 1 0) (same_some (live_at lives q) (live_at after q) (sym (pieces q)));
    }
  where
    same_some : (a b : Option LivePiece) → option_map (λ (m : LivePiece). m.piece) a ≡ option_map (λ (m : LivePiece). m.piece) b
        → is_some a ≡ is_some b
    same_some None None e = refl
    same_some (Some x) (Some y) e = refl
    same_some None (Some y) e = cc
    same_some (Some x) None e = cc

-- a deferred piece that starts
pub claimed_ready : (old : Claims) (lives : List (ℕ × LivePiece)) → ready_at old < length old.deferred → AreClaimed old lives
    → AreClaimed (claims.after_ready old) lives
claimed_ready old lives lt are =
    let c : Claim = get_or old.deferred (ready_at old) claims.no_claim in
    record {
      started =
          all_insert (IsLive lives) old.started (claims.place_by_number old.started c.number) c
          (are.deferred (ready_at old) claims.no_claim lt) are.started;
      deferred = all_remove (IsLive lives) old.deferred (ready_at old) lt are.deferred;
      once = λ q.
          let put = sum_by-insert (λ (d : Claim). cond (claims.has_number q d) 1 0) old.started
          (claims.place_by_number old.started c.number) c in
          let taken = sum_by-remove (λ (d : Claim). cond (claims.has_number q d) 1 0) old.deferred (ready_at old) claims.no_claim lt in
          omega (arith, put, taken, are.once q);
    }

-- a piece under way has one claim
pub is_claimed : (old : Claims) (lives : List (ℕ × LivePiece)) (n : ℕ) → is_some (live_at lives n) ≡ true → AreClaimed old lives
    → IsTrue (list_any (claims.has_number n) old.started || list_any (claims.has_number n) old.deferred)
is_claimed old lives n is are =
    let one : count_by (claims.has_number n) old.started + count_by (claims.has_number n) old.deferred ≡ 1 =
    are.once n ∙ ap (λ b. cond b 1 0) is in
    elim (list_any (claims.has_number n) old.started) as
    (λ a. list_any (claims.has_number n) old.started ≡ a → IsTrue (a || list_any (claims.has_number n) old.deferred)) [
      | true ↦ λ s. refl
      | false ↦ λ s.
          elim (list_any (claims.has_number n) old.deferred) as
          (λ b. list_any (claims.has_number n) old.deferred ≡ b → IsTrue (false || b)) [
            | true ↦ λ t. refl
            | false ↦ λ t. absurd (omega (
              arith,
              one,
              none_counted (claims.has_number n) old.started s,
              none_counted (claims.has_number n) old.deferred t,
            ))
          ] refl
    ] refl

-- where it leaves the others keep theirs
once_less : (lives after : List (ℕ × LivePiece)) (n q a b : ℕ) → Changes lives n None after → is_some (live_at lives n) ≡ true
    → a ≡ cond (is_some (live_at lives q)) 1 0 → b + cond (nat_eq n q) 1 0 ≡ a
    → b ≡ cond (is_some (live_at after q)) 1 0
once_less lives after n q a b change is old less =
    rw (change q)
    (elim (nat_eq n q) as
    (λ t. nat_eq n q ≡ t → b + cond t 1 0 ≡ a → b ≡ cond (is_some (cond t None (live_at lives q))) 1 0) [
      | true ↦ λ t h.
          let one : is_some (live_at lives q) ≡ true = subst (λ (r : ℕ). is_some (live_at lives r) ≡ true) (eqb-true n q t) is in
          let a1 : a ≡ 1 = old ∙ ap (λ o. cond o 1 0) one in
          omega (arith, a1, h)
      | false ↦ λ t h. let same : b ≡ a = omega (arith, h) in same ∙ old
    ] refl less)

-- the claim with this number goes
taken_is : (xs : List Claim) (n q : ℕ) → list_any (claims.has_number n) xs ≡ true
    → count_by (claims.has_number q) (claims.without xs n) + cond (nat_eq n q) 1 0 ≡ count_by (claims.has_number q) xs
taken_is xs n q any =
    let at = any_within (claims.has_number n) xs any in
    let c : Claim = get_or xs (claims.number_at xs n) claims.no_claim in
    let is : c.number ≡ n = eqb-true c.number n (passes_at (claims.has_number n) xs claims.no_claim any) in
    let taken = sum_by-remove (λ (d : Claim). cond (claims.has_number q d) 1 0) xs (claims.number_at xs n) claims.no_claim at in
    ap (λ (m : ℕ). count_by (claims.has_number q) (claims.without xs n) + cond (nat_eq m q) 1 0) (sym is) ∙ taken

pub claimed_leave : (old : Claims) (lives after : List (ℕ × LivePiece)) (n : ℕ) → Changes lives n None after
    → is_some (live_at lives n) ≡ true → AreClaimed old lives
    → AreClaimed (claims.after_leave old n) after
claimed_leave old lives after n change is are =
    let one : count_by (claims.has_number n) old.started + count_by (claims.has_number n) old.deferred ≡ 1 =
    are.once n ∙ ap (λ b. cond b 1 0) is in
    let itself : cond {A = ℕ} (nat_eq n n) 1 0 ≡ 1 = ap (λ b. cond {A = ℕ} b 1 0) (eq-eqb n n refl) in
    elim (list_any (claims.has_number n) old.started) as
    (λ b. list_any (claims.has_number n) old.started ≡ b
    → AreClaimed (cond b (record old { started = claims.without old.started n }) (record old { deferred = claims.without old.deferred n }))
    after) [
      | true ↦ λ s.
          let here = taken_is old.started n n s in
          record {
            started =
                others_keep IsOf lives after n None (claims.without old.started n) change (omega (arith, here, itself, one))
                (all_remove (IsLive lives) old.started (claims.number_at old.started n) (any_within (claims.has_number n) old.started s)
                are.started);
            deferred = others_keep IsOf lives after n None old.deferred change (omega (arith, here, itself, one)) are.deferred;
            once = λ q.
                once_less lives after n q (count_by (claims.has_number q) old.started + count_by (claims.has_number q) old.deferred)
                (count_by (claims.has_number q) (claims.without old.started n) + count_by (claims.has_number q) old.deferred) change is
                (are.once q) (omega (arith, taken_is old.started n q s));
          }
      | false ↦ λ s.
          let none = none_counted (claims.has_number n) old.started s in
          let t : list_any (claims.has_number n) old.deferred ≡ true =
          subst (λ b. (b || list_any (claims.has_number n) old.deferred) ≡ true) s (is_claimed old lives n is are) in
          let here = taken_is old.deferred n n t in
          record {
            started = others_keep IsOf lives after n None old.started change none are.started;
            deferred =
                others_keep IsOf lives after n None (claims.without old.deferred n) change (omega (arith, here, itself, one))
                (all_remove (IsLive lives) old.deferred (claims.number_at old.deferred n)
                (any_within (claims.has_number n) old.deferred t) are.deferred);
            once = λ q.
                once_less lives after n q (count_by (claims.has_number q) old.started + count_by (claims.has_number q) old.deferred)
                (count_by (claims.has_number q) old.started + count_by (claims.has_number q) (claims.without old.deferred n)) change is
                (are.once q) (omega (arith, taken_is old.deferred n q t));
          }
    ] refl

-- what a look for a ready piece comes to
pub ready_within : (old : Claims) (n : ℕ) → Some n ≡ option_map (λ (c : Claim). c.number) (slice_get old.deferred (ready_at old))
    → (ready_at old < length old.deferred) × ((get_or old.deferred (ready_at old) claims.no_claim).number ≡ n)
ready_within old n is = at old.deferred (ready_at old) is
  where
    at : (xs : List Claim) (k : ℕ) → Some n ≡ option_map (λ (c : Claim). c.number) (slice_get xs k)
        → (k < length xs) × ((get_or xs k claims.no_claim).number ≡ n)
    at [] k e = cc
    at (x ∷ xs) zero e = (omega arith, sym (same_Some n x.number e))
    at (x ∷ xs) (suc k) e = let rest = at xs k e in (omega (arith, rest.0), rest.1)

pub claimed_next : (old new : Claims) (lives : List (ℕ × LivePiece)) (r : Option ℕ)
    → r ≡ option_map (λ (c : Claim). c.number) (slice_get old.deferred (ready_at old))
    → MatchOption r (new ≡ old) (λ n. new ≡ claims.after_ready old) → AreClaimed old lives
    → AreClaimed new lives
claimed_next old new lives None is after are = subst (λ (x : Claims). AreClaimed x lives) (sym after) are
claimed_next old new lives (Some n) is after are =
    subst (λ (x : Claims). AreClaimed x lives) (sym after) (claimed_ready old lives (ready_within old n is).0 are)

pub spare_next : (old new : Claims) (r : Option ℕ) → MatchOption r (new ≡ old) (λ n. new ≡ claims.after_ready old) → new.spare ≡ old.spare
spare_next old new None after = ap (λ (x : Claims). x.spare) after
spare_next old new (Some n) after = ap (λ (x : Claims). x.spare) after
