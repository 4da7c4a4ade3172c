-- Pieces with their places beside them, as pieces go in and out.
use Rattle.std.proofs.Common.{◌≡◌, ◌<◌, ◌≤◌, ℕ, zero, suc, ◌+◌, max, Bool, true, false, cond, nat_eq, nat_lt, ◌&&◌, ◌||◌, List, [], ◌∷◌}
use Rattle.std.proofs.Common.{length, get_or, set, refl, sym, ap, ◌∙◌, arith}
use Rattle.std.specs.Prelude.{AllPairs, Contains, IfNone, IfSome, IsFalse, IsTrue, None, Option, Some, count_by, remove}
use Rattle.std.specs.List.{insert, list_any, sum_by}
use Rattle.std.specs.List.Sorted.{IsNonDecreasingBy, IsPermutation}
use Rattle.std.specs.Ordering.{is_eq}
use Rattle.std.proofs.lemmas.Bool.{ltb-false, eqb-true, eqb-false, lt-ltb, ltb-true}
use Rattle.std.proofs.lemmas.Cmp.{tied_itself}
use Rattle.std.proofs.lemmas.List.{get_or_default, length-set}
use Rattle.std.proofs.lemmas.List.Elements.{All-cons, All-tail}
use Rattle.std.proofs.lemmas.List.Folds.{Any-from_list_any, list_any_at}
use Rattle.std.proofs.lemmas.List.Quantifiers.{all_pairs_remove}
use Rattle.std.proofs.lemmas.List.Sorted.{All-permutation, IsNonDecreasingBy-insert, sum_by-IsPermutation}
use Rattle.std.proofs.lemmas.List.Sums.{sum_by-cons, sum_by-insert, sum_by-remove, sum_by-set}
use Rattle.claim_table.specs.declared.claim.Claim.{Claim}
use Rattle.claim_table.specs.declared.placed.Placed.{Placed}
use Rattle.claim_table.specs.Conflict.{clash}
use Rattle.claim_table.specs.Places.{IsIndexed, is_below, is_met, meets, placed, placed_cmp}
use Rattle.claim_table.specs.Sorted.{IsAscending}
use Rattle.claim_table.proofs.ByNumber.{AreParted}
use Rattle.claim_table.proofs.PlaceOrder.{one_place, places_total}

-- no piece has no place
pub indexed_none : IsIndexed [] [] 0
indexed_none =
    record {
      by_number = λ i j d le lt. absurd (omega arith);
      same = λ p. refl;
      ascending = λ i j d lt within. absurd (omega arith);
      short = λ k d lt. absurd (omega arith);
    }

-- numbers that don't fall from any to a later one
falling_pairs : (claims : List Claim) → AllPairs (λ (a b : Claim). a.number ≤ b.number) claims
    → IsNonDecreasingBy (λ (c : Claim). c.number) claims
falling_pairs claims up i j d le lt =
    elim (nat_eq i j) as (λ t. nat_eq i j ≡ t → (get_or claims i d).number ≤ (get_or claims j d).number) [
      | true ↦ λ t. rw (eqb-true i j t) (omega arith)
      | false ↦ λ t. up i j d (omega (arith, eqb-false i j t)) lt
    ] refl

-- what a test that an item passes or fails adds
abbrev pub one_if : Bool → ℕ
one_if b = cond b 1 0

-- a piece that is put in where its number belongs
pub indexed_put : (claims : List Claim) (places new : List Placed) (longest : ℕ) (c : Claim) (at : ℕ) → IsIndexed claims places longest
    → at ≤ length claims → AreParted claims c.number at
    → IsPermutation (placed c ∷ places) new → IsAscending placed_cmp new → IsIndexed (insert claims at c) new (max longest c.piece.count)
indexed_put claims places new longest c at h le parts moved up = record {
  by_number = IsNonDecreasingBy-insert (λ (x : Claim). x.number) claims at c h.by_number le
      (λ k d lt. let below : (get_or claims k d).number
      < c.number = ltb-true (get_or claims k d).number c.number (parts.0 k d (omega arith) lt) in omega arith)
      (λ k d from lt. ltb-false (get_or claims k d).number c.number (parts.1 k d from lt));
  same = λ p.
      let old : sum_by (λ x. one_if (p x)) places ≡ sum_by (λ (x : Claim). one_if (p (placed x))) claims = h.same p in
      let kept : sum_by (λ x. one_if (p x)) new ≡ sum_by (λ x. one_if (p x)) (placed c ∷ places) =
      sum_by-IsPermutation (λ x. one_if (p x)) (placed c ∷ places) new moved in
      let one : sum_by (λ x. one_if (p x)) (placed c ∷ places) ≡ one_if (p (placed c)) + sum_by (λ x. one_if (p x)) places =
      sum_by-cons (λ x. one_if (p x)) (placed c) places in
      let more : sum_by (λ (x : Claim). one_if (p (placed x))) (insert claims at c)
      ≡ sum_by (λ (x : Claim). one_if (p (placed x))) claims
      + one_if (p (placed c)) = sum_by-insert (λ (x : Claim). one_if (p (placed x))) claims at c in
      omega (arith, old, kept, one, more);
  ascending = up;
  short =
      All-permutation (λ (e : Placed). e.count ≤ max longest c.piece.count) (placed c ∷ places) new moved
      (All-cons (λ (e : Placed). e.count ≤ max longest c.piece.count) (placed c) places (omega arith)
      (λ k d lt. let old : (get_or places k d).count ≤ longest = h.short k d lt in omega arith));
}

-- a piece that is taken out
pub indexed_take : (claims : List Claim) (places new : List Placed) (longest : ℕ) (c : Claim) (at : ℕ) → IsIndexed claims places longest
    → at < length claims → c ≡ get_or claims at c
    → IsPermutation places (placed c ∷ new) → IsAscending placed_cmp new → IsIndexed (remove claims at) new longest
indexed_take claims places new longest c at h lt here moved up = record {
  by_number =
      falling_pairs (remove claims at) (all_pairs_remove (λ (a b : Claim). a.number ≤ b.number) claims at lt
      (λ i j d below within. h.by_number i j d (omega arith) within));
  same = λ p.
      let old : sum_by (λ x. one_if (p x)) places ≡ sum_by (λ (x : Claim). one_if (p (placed x))) claims = h.same p in
      let kept : sum_by (λ x. one_if (p x)) (placed c ∷ new) ≡ sum_by (λ x. one_if (p x)) places =
      sum_by-IsPermutation (λ x. one_if (p x)) places (placed c ∷ new) moved in
      let one : sum_by (λ x. one_if (p x)) (placed c ∷ new) ≡ one_if (p (placed c)) + sum_by (λ x. one_if (p x)) new =
      sum_by-cons (λ x. one_if (p x)) (placed c) new in
      let less : sum_by (λ (x : Claim). one_if (p (placed x))) (remove claims at) + one_if (p (placed (get_or claims at c)))
      ≡ sum_by (λ (x : Claim). one_if (p (placed x))) claims = sum_by-remove (λ (x : Claim). one_if (p (placed x))) claims at c lt in
      let is : one_if (p (placed (get_or claims at c))) ≡ one_if (p (placed c)) = ap (λ (x : Claim). one_if (p (placed x))) (sym here) in
      omega (arith, old, kept, one, less, is);
  ascending = up;
  short =
      All-tail (λ (e : Placed). e.count ≤ longest) (placed c) new
      (All-permutation (λ (e : Placed). e.count ≤ longest) places (placed c ∷ new) moved h.short);
}

-- a piece that lies in another region from now on
pub number_kept : (claims : List Claim) (at : ℕ) (region : Option ℕ) (e : Claim) → at < length claims → (k : ℕ) (d : Claim)
    → k < length claims
    → (get_or (set claims at (record (get_or claims at e) { region = region })) k d).number ≡ (get_or claims k d).number
number_kept [] at region e lt k d within = absurd (omega arith)
number_kept (c ∷ claims) zero region e lt zero d within = refl
number_kept (c ∷ claims) zero region e lt (suc k) d within = refl
number_kept (c ∷ claims) (suc at) region e lt zero d within = refl
number_kept (c ∷ claims) (suc at) region e lt (suc k) d within = number_kept claims at region e (omega arith) k d (omega arith)

pub indexed_region : (claims : List Claim) (places : List Placed) (longest : ℕ) (at : ℕ) (region : Option ℕ) (e : Claim)
    → at < length claims → IsIndexed claims places longest
    → IsIndexed (set claims at (record (get_or claims at e) { region = region })) places longest
indexed_region claims places longest at region e lt h =
    let new : List Claim = set claims at (record (get_or claims at e) { region = region }) in
    let long : length new ≡ length claims = length-set claims at (record (get_or claims at e) { region = region }) in
    record {
      by_number = λ i j d le within.
          let a : (get_or new i d).number ≡ (get_or claims i d).number = number_kept claims at region e lt i d (omega arith) in
          let b : (get_or new j d).number ≡ (get_or claims j d).number = number_kept claims at region e lt j d (omega arith) in
          let old : (get_or claims i d).number ≤ (get_or claims j d).number = h.by_number i j d le (omega arith) in
          omega arith;
      same = λ p.
          let old : sum_by (λ x. one_if (p x)) places ≡ sum_by (λ (x : Claim). one_if (p (placed x))) claims = h.same p in
          let put : sum_by (λ (x : Claim). one_if (p (placed x))) new + one_if (p (placed (get_or claims at e)))
          ≡ sum_by (λ (x : Claim). one_if (p (placed x))) claims
          + one_if (p (placed (get_or claims at e))) = sum_by-set (λ (x : Claim). one_if (p (placed x))) claims at
          (record (get_or claims at e) { region = region }) e lt in
          omega (arith, old, put);
      ascending = h.ascending;
      short = h.short;
    }

-- an item passes where one at least is counted
pub any_counted : {X : Type 0} (p : X → Bool) (xs : List X) → list_any p xs ≡ nat_lt 0 (count_by p xs)
any_counted p [] = refl
any_counted p (x ∷ xs) =
    rw (sum_by-cons (λ y. one_if (p y)) x xs)
    (elim (p x) as (λ b. (b || list_any p xs) ≡ nat_lt 0 (one_if b + count_by p xs)) [
      | true ↦ sym (lt-ltb 0 (1 + count_by p xs) (omega arith))
      | false ↦ any_counted p xs ∙ ap (nat_lt 0) (omega arith)
    ])

pub any_alike : {X Y : Type 0} (p : X → Bool) (q : Y → Bool) (xs : List X) (ys : List Y) → count_by p xs ≡ count_by q ys
    → list_any p xs ≡ list_any q ys
any_alike p q xs ys same = any_counted p xs ∙ ap (nat_lt 0) same ∙ sym (any_counted q ys)

-- a test of places is one of pieces
pub any_place : (claims : List Claim) (places : List Placed) (longest : ℕ) (p : Placed → Bool) → IsIndexed claims places longest
    → list_any p places ≡ list_any (λ (c : Claim). p (placed c)) claims
any_place claims places longest p h = any_alike p (λ (c : Claim). p (placed c)) places claims (h.same p)

-- the place of a piece is there
pub has_place : (claims : List Claim) (places : List Placed) (longest : ℕ) (c : Claim) (at : ℕ) → IsIndexed claims places longest
    → at < length claims → c ≡ get_or claims at c → Contains places (placed c)
has_place claims places longest c at h lt here =
    let p : Placed → Bool = λ (e : Placed). is_eq (placed_cmp e (placed c)) in
    let is : is_eq (placed_cmp (placed (get_or claims at c)) (placed c)) ≡ true =
    rw (← here) (ap is_eq (tied_itself places_total (placed c))) in
    let any : list_any p places ≡ true =
    any_place claims places longest p h ∙ list_any_at (λ (x : Claim). p (placed x)) claims at c lt is in
    let found = Any-from_list_any p places any in
    let same : found.1 ≡ placed c = one_place found.1 (placed c) found.4 in
    (found.0, found.2, get_or_default places found.0 (placed c) found.1 found.2 ∙ found.3 ∙ same)

-- what was met among the places clashes
pub clash_some : (claims : List Claim) (places : List Placed) (longest : ℕ) (c : Claim) (limit o : Option ℕ)
    → IsIndexed claims places longest
    → IfSome o (λ number. IsTrue (list_any (λ e. is_below limit e.number && (nat_eq e.number number && meets c.piece e)) places))
    → IfSome o (λ number. IsTrue (list_any (λ (d : Claim). is_below limit d.number && (nat_eq d.number number && clash d c)) claims))
clash_some claims places longest c limit None h some = some
clash_some claims places longest c limit (Some number) h some =
    sym (any_place claims places longest (λ e. is_below limit e.number && (nat_eq e.number number && meets c.piece e)) h) ∙ some

pub clash_none : (claims : List Claim) (places : List Placed) (longest : ℕ) (c : Claim) (limit o : Option ℕ)
    → IsIndexed claims places longest
    → IfNone o (IsFalse (list_any (is_met c.piece limit) places))
    → IfNone o (IsFalse (list_any (λ (d : Claim). is_below limit d.number && clash d c) claims))
clash_none claims places longest c limit None h none = sym (any_place claims places longest (is_met c.piece limit) h) ∙ none
clash_none claims places longest c limit (Some number) h none = none
