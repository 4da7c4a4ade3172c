-- Looking for numbers among pieces that stand in the order of theirs.
use Rattle.std.proofs.Common.{◌≡◌, ◌<◌, ◌≤◌, ℕ, true, false, ◌||◌, nat_eq, nat_le, nat_lt, List, length, get_or, refl, sym, ap}
use Rattle.std.proofs.Common.{subst, ◌∙◌, arith}
use Rattle.std.specs.Prelude.{All, AllPairs, None, Some, filter, is_some, position, remove, take, ◌∷◌, ◌++◌, []}
use Rattle.std.specs.List.{list_any, position_or_len}
use Rattle.std.specs.List.Sorted.{IsNonDecreasingBy, IsPartitionPoint}
use Rattle.std.proofs.lemmas.Bool.{true≢false, cond-true, cond-false, false_from_ne_true, ltb-true, ltb-false, eqb-true, eqb-false, lt-ltb}
use Rattle.std.proofs.lemmas.Bool.{le-ltb, le-leb, lt-leb, ne_eqb, eq-eqb}
use Rattle.std.proofs.lemmas.List.{get_or_default}
use Rattle.std.proofs.lemmas.List.Edits.{insert_end}
use Rattle.std.proofs.lemmas.List.Folds.{list_any_at}
use Rattle.std.proofs.lemmas.List.Quantifiers.{position-Some}
use Rattle.list_laws.proofs.Positions.{any_within}
use Rattle.claim_table.specs.declared.claim.Claim.{Claim}
use Rattle.claim_table.specs.Claims.{Claims}
use Rattle.claim_table.specs.Places.{is_below}
use Rattle.claim_table.specs.Steps.{after_leave, has_number, no_claim, number_at, place_by_number, put_by_number, without}
use Rattle.claim_table.proofs.Indices.{filter_front, first_index}

-- the pieces below a number and those from it on
abbrev pub AreParted : List Claim → ℕ → ℕ → Type 0
AreParted claims number at =
    IsPartitionPoint (λ (c : Claim). nat_lt c.number number ≡ true) (λ (c : Claim). nat_lt c.number number ≡ false) claims at

-- where they part is where the number belongs
pub parted_at : (claims : List Claim) (number at : ℕ) → at ≤ length claims → AreParted claims number at → at ≡ place_by_number claims number
parted_at claims number at le parts = sym (first_index (λ (c : Claim). nat_le number c.number) claims at le
    (λ k d lt. lt-leb number (get_or claims k d).number (ltb-true (get_or claims k d).number number (parts.0 k d (omega arith) lt)))
    (λ d lt. le-leb number (get_or claims at d).number (ltb-false (get_or claims at d).number number (parts.1 at d (omega arith) lt))))

-- the piece of the number is the first from it on, where it has that number
pub found_at : (claims : List Claim) (number at : ℕ) (d : Claim) → at < length claims → AreParted claims number at
    → (get_or claims at d).number ≡ number → position (has_number number) claims ≡ Some at
found_at claims number at d lt parts here =
    let first : position_or_len (has_number number) claims ≡ at = first_index (has_number number) claims at (omega arith)
    (λ k e below. ne_eqb (get_or claims k e).number number
    (λ same. omega (arith, same, ltb-true (get_or claims k e).number number (parts.0 k e (omega arith) below))))
    (λ e within. eq-eqb (get_or claims at e).number number (ap (λ (c : Claim). c.number) (get_or_default claims at e d lt) ∙ here)) in
    rw (first, lt-ltb at (length claims) lt) refl

-- else there is none
pub found_nowhere : (claims : List Claim) (number at : ℕ) (e : Claim) → IsNonDecreasingBy (λ (c : Claim). c.number) claims
    → at ≤ length claims → AreParted claims number at
    → (at < length claims → (get_or claims at e).number ≡ number → ⊥) → position (has_number number) claims ≡ None
found_nowhere claims number at e rise le parts other =
    let first : position_or_len (has_number number) claims ≡ length claims =
    first_index (has_number number) claims (length claims) (omega arith)
    (λ k d lt.
    elim (nat_lt k at) as (λ t. nat_lt k at ≡ t → nat_eq (get_or claims k d).number number ≡ false) [
      | true ↦ λ t. ne_eqb (get_or claims k d).number number
          (λ same. omega (arith, same, ltb-true (get_or claims k d).number number (parts.0 k d (omega arith) (ltb-true k at t))))
      | false ↦ λ t.
          let from : at ≤ k = ltb-false k at t in
          let above : number ≤ (get_or claims at d).number =
          ltb-false (get_or claims at d).number number (parts.1 at d (omega arith) (omega arith)) in
          let as_there : (get_or claims at e).number ≡ (get_or claims at d).number =
          ap (λ (c : Claim). c.number) (get_or_default claims at e d (omega arith)) in
          let more : (get_or claims at d).number ≤ (get_or claims k d).number = rise at k d from lt in
          ne_eqb (get_or claims k d).number number (λ same. other (omega arith) (omega (arith, as_there, same, above, more)))
    ] refl)
    (λ d lt. absurd (omega arith)) in
    rw (first, le-ltb (length claims) (length claims) (omega arith)) refl

-- a number above all goes to the end
pub put_last : (claims : List Claim) (c : Claim) → All (λ (d : Claim). d.number < c.number) claims
    → put_by_number claims c ≡ claims ++ c ∷ []
put_last claims c all =
    let end : place_by_number claims c.number ≡ length claims =
    first_index (λ (d : Claim). nat_le c.number d.number) claims (length claims) (omega arith)
    (λ k d lt. lt-leb c.number (get_or claims k d).number (all k d lt))
    (λ d lt. absurd (omega arith)) in
    rw (end) (insert_end claims c)

-- numbers that rise don't fall
pub rising : (claims : List Claim) → AllPairs (λ (c d : Claim). c.number < d.number) claims
    → IsNonDecreasingBy (λ (c : Claim). c.number) claims
rising claims up i j d le lt =
    elim (nat_eq i j) as (λ t. nat_eq i j ≡ t → (get_or claims i d).number ≤ (get_or claims j d).number) [
      | true ↦ λ t. rw (eqb-true i j t) (omega arith)
      | false ↦ λ t. let below : (get_or claims i d).number
          < (get_or claims j d).number = up i j d (omega (arith, eqb-false i j t)) lt in omega arith
    ] refl

-- those with lower numbers are those that stand before
pub lower_numbers : (claims : List Claim) (at : ℕ) (c : Claim) → AllPairs (λ (c d : Claim). c.number < d.number) claims → at < length claims
    → c ≡ get_or claims at c
    → filter (λ (d : Claim). is_below (Some c.number) d.number) claims ≡ take at claims
lower_numbers claims at c up lt here = filter_front (λ (d : Claim). is_below (Some c.number) d.number) claims at (omega arith)
    (λ k d below.
    let same : c.number ≡ (get_or claims at d).number = ap (λ (x : Claim). x.number) (here ∙ get_or_default claims at c d lt) in
    let lower : (get_or claims k d).number < (get_or claims at d).number = up k at d below lt in
    lt-ltb (get_or claims k d).number c.number (omega (arith, same, lower)))
    (λ k d from within.
    let same : c.number ≡ (get_or claims at d).number = ap (λ (x : Claim). x.number) (here ∙ get_or_default claims at c d lt) in
    let higher : (get_or claims at d).number ≤ (get_or claims k d).number = rising claims up at k d from within in
    le-ltb (get_or claims k d).number c.number (omega (arith, same, higher)))

-- what was found is there
pub found_any : (claims : List Claim) (number at : ℕ) → position (has_number number) claims ≡ Some at
    → (list_any (has_number number) claims ≡ true) × (at ≡ number_at claims number) × (at < length claims)
found_any claims number at found =
    let there = position-Some (has_number number) claims at no_claim found in
    let first : number_at claims number ≡ at = first_index (has_number number) claims at (omega (arith, there.0))
    (λ k d lt. subst (λ (c : Claim). has_number number c ≡ false) (get_or_default claims k no_claim d (omega (arith, there.0)))
    (there.2 k lt))
    (λ d lt. subst (λ (c : Claim). has_number number c ≡ true) (get_or_default claims at no_claim d lt) there.1) in
    (list_any_at (has_number number) claims at no_claim there.0 there.1, sym first, there.0)

-- what wasn't found isn't
pub found_none : (claims : List Claim) (number : ℕ) → position (has_number number) claims ≡ None
    → list_any (has_number number) claims ≡ false
found_none claims number none = false_from_ne_true (list_any (has_number number) claims) (λ any.
    let within : position_or_len (has_number number) claims < length claims = any_within (has_number number) claims any in
    let some : position (has_number number) claims ≡ Some (position_or_len (has_number number) claims) =
    cond-true (nat_lt (position_or_len (has_number number) claims) (length claims)) _ _
    (lt-ltb (position_or_len (has_number number) claims) (length claims) within) in
    true≢false (ap is_some (sym some ∙ none)))

-- the started piece of the number leaves
pub leave_started : (claims : Claims) (number at : ℕ) → position (has_number number) claims.started ≡ Some at
    → record claims { started = remove claims.started at } ≡ after_leave claims number
leave_started claims number at found =
    let there = found_any claims.started number at found in
    ap (λ (n : ℕ). record claims { started = remove claims.started n }) there.1
    ∙ sym (cond-true (list_any (has_number number) claims.started) (record claims { started = without claims.started number })
    (record claims { deferred = without claims.deferred number }) there.0)

-- the deferred one does
pub leave_deferred : (claims : Claims) (number at : ℕ) → position (has_number number) claims.started ≡ None
    → at ≡ number_at claims.deferred number → record claims { deferred = remove claims.deferred at } ≡ after_leave claims number
leave_deferred claims number at none is =
    ap (λ (n : ℕ). record claims { deferred = remove claims.deferred n }) is
    ∙ sym (cond-false (list_any (has_number number) claims.started) (record claims { started = without claims.started number })
    (record claims { deferred = without claims.deferred number }) (found_none claims.started number none))

-- where it isn't started, it is deferred
pub is_deferred : (claims : Claims) (number : ℕ)
    → (list_any (has_number number) claims.started || list_any (has_number number) claims.deferred) ≡ true
    → position (has_number number) claims.started ≡ None → list_any (has_number number) claims.deferred ≡ true
is_deferred claims number one none =
    subst (λ b. (b || list_any (has_number number) claims.deferred) ≡ true) (found_none claims.started number none) one
