-- Halving a sorted list of numbers: what is known of its parts, and how many comparisons it takes.
use Rattle.std.proofs.Common.{◌≡◌, ◌<◌, ◌≤◌, ℕ, zero, suc, ◌+◌, ◌-◌, ◌*◌, ◌/◌, ◌^◌, true, false, cond, List, length, get_or, nat_eq}
use Rattle.std.proofs.Common.{nat_lt, refl, ap, subst, arith}
use Rattle.std.specs.List.{list_any}
use Rattle.std.specs.Ordering.{MatchOrdering, is_lt, nat_cmp}
use Rattle.std.specs.declared.cmp.Ordering.{Ordering}
use Rattle.std.specs.declared.cmp.Ordering.TheVariants.{Less, Equal, Greater}
use Rattle.std.proofs.lemmas.Bool.{true≢false, eqb-true, eqb-false, ltb-true, ltb-false, ne_eqb, eq-eqb}
use Rattle.std.proofs.lemmas.Cmp.{ranked}
use Rattle.std.proofs.lemmas.List.{get_or_default}
use Rattle.std.proofs.lemmas.List.Folds.{list_any_at, list_any_none}
use Rattle.std.proofs.lemmas.Nat.{pow-add}
use Rattle.claim_table.specs.Sorted.{IsAscending}

-- numbers before the one end are below the number that is looked for, and those from the other end on are above it; what is
-- left may take so many comparisons more
pub record IsHalving (numbers : List ℕ) (number low high taken : ℕ) : Type 0 where
  pub order : low ≤ high
  pub within : high ≤ length numbers
  pub below : (k : ℕ) (d : ℕ) → k < low → get_or numbers k d < number
  pub above : (k : ℕ) (d : ℕ) → high ≤ k → k < length numbers → number < get_or numbers k d
  pub left : (more : ℕ) → 2 ^ more ≤ 2 * (high - low) + 1 → 2 ^ (taken + more) ≤ 2 * length numbers + 1

-- before the first comparison
pub halving_none : (numbers : List ℕ) (number taken : ℕ) → taken ≡ 0 → IsHalving numbers number 0 (length numbers) taken
halving_none numbers number taken none = record {
  order = omega arith;
  within = omega arith;
  below = λ k d lt. absurd (omega arith);
  above = λ k d from lt. absurd (omega arith);
  left = λ more le.
      let same : taken + more ≡ more = omega (arith, none) in
      rw (same) (omega (arith, le));
}

-- twice as many take one comparison more
halved : (more small all : ℕ) → small + small ≤ all → 0 < all → 2 ^ more ≤ 2 * small + 1 → 2 ^ (1 + more) ≤ 2 * all + 1
halved zero small all le some h = omega arith
halved (suc more) small all le some h =
    let one : 2 ^ (1 + more) ≡ 2 ^ 1 * 2 ^ more = pow-add 2 1 more in
    let two : 2 ^ (1 + suc more) ≡ 2 ^ 1 * 2 ^ suc more = pow-add 2 1 (suc more) in
    let same : 2 ^ suc more ≡ 2 ^ (1 + more) = ap (λ (k : ℕ). 2 ^ k) (omega arith) in
    omega (arith, one, two, same, h)

-- what a comparison says
is_less : (a b : ℕ) → nat_cmp a b ≡ Less → a < b
is_less a b h = subst (λ (o : Ordering). MatchOrdering o (a < b) (a ≡ b) (b < a)) h (ranked a b (nat_cmp a b) refl)

is_equal : (a b : ℕ) → nat_cmp a b ≡ Equal → a ≡ b
is_equal a b h = subst (λ (o : Ordering). MatchOrdering o (a < b) (a ≡ b) (b < a)) h (ranked a b (nat_cmp a b) refl)

is_greater : (a b : ℕ) → nat_cmp a b ≡ Greater → b < a
is_greater a b h = subst (λ (o : Ordering). MatchOrdering o (a < b) (a ≡ b) (b < a)) h (ranked a b (nat_cmp a b) refl)

not_less : (a b : ℕ) → is_lt (nat_cmp a b) ≡ false → b ≤ a
not_less a b h =
    elim (nat_lt a b) as (λ t. nat_lt a b ≡ t → is_lt (cond t Less (cond (nat_eq a b) Equal Greater)) ≡ false → b ≤ a) [
      | true ↦ λ t g. absurd (true≢false g)
      | false ↦ λ t g. ltb-false a b t
    ] refl h

-- numbers don't fall
rises : (numbers : List ℕ) → IsAscending nat_cmp numbers → (i j d : ℕ) → i ≤ j → j < length numbers
    → get_or numbers i d ≤ get_or numbers j d
rises numbers up i j d le lt =
    elim (nat_eq i j) as (λ t. nat_eq i j ≡ t → get_or numbers i d ≤ get_or numbers j d) [
      | true ↦ λ t. rw (eqb-true i j t) (omega arith)
      | false ↦ λ t. not_less (get_or numbers j d) (get_or numbers i d) (up i j d (omega (arith, eqb-false i j t)) lt)
    ] refl

-- the one in the middle is below the number
pub halving_up : (numbers : List ℕ) (number low high taken next middle e : ℕ) → IsAscending nat_cmp numbers
    → IsHalving numbers number low high taken → low < high → middle ≡ low + (high - low) / 2
    → next ≡ taken + 1 → nat_cmp (get_or numbers middle e) number ≡ Less → IsHalving numbers number (middle + 1) high next
halving_up numbers number low high taken next middle e up h lt is more less =
    let within : middle < length numbers = omega (arith, is, lt, h.within) in
    let under : get_or numbers middle e < number = is_less (get_or numbers middle e) number less in
    record {
      order = omega (arith, is, lt);
      within = h.within;
      below = λ k d at.
          let same : get_or numbers middle e ≡ get_or numbers middle d = get_or_default numbers middle e d within in
          omega (arith, same, under, rises numbers up k middle d (omega arith) within);
      above = h.above;
      left = λ further le.
          let same : next + further ≡ taken + (1 + further) = omega (arith, more) in
          rw (same) (h.left (1 + further) (halved further (high - (middle + 1)) (high - low) (omega (arith, is, lt)) (omega (arith, lt))
          le));
    }

-- the one in the middle is above it
pub halving_down : (numbers : List ℕ) (number low high taken next middle e : ℕ) → IsAscending nat_cmp numbers
    → IsHalving numbers number low high taken → low < high → middle ≡ low + (high - low) / 2
    → next ≡ taken + 1 → nat_cmp (get_or numbers middle e) number ≡ Greater → IsHalving numbers number low middle next
halving_down numbers number low high taken next middle e up h lt is more greater =
    let within : middle < length numbers = omega (arith, is, lt, h.within) in
    let over : number < get_or numbers middle e = is_greater (get_or numbers middle e) number greater in
    record {
      order = omega (arith, is, lt);
      within = omega arith;
      below = h.below;
      above = λ k d from at.
          let same : get_or numbers middle e ≡ get_or numbers middle d = get_or_default numbers middle e d within in
          omega (arith, same, over, rises numbers up middle k d from at);
      left = λ further le.
          let same : next + further ≡ taken + (1 + further) = omega (arith, more) in
          rw (same) (h.left (1 + further) (halved further (middle - low) (high - low) (omega (arith, is, lt)) (omega (arith, lt)) le));
    }

-- the one in the middle is it
pub halving_found : (numbers : List ℕ) (number low high taken middle e : ℕ) → IsHalving numbers number low high taken → low < high
    → middle ≡ low + (high - low) / 2
    → nat_cmp (get_or numbers middle e) number ≡ Equal → list_any (λ (n : ℕ). nat_eq n number) numbers ≡ true
halving_found numbers number low high taken middle e h lt is equal =
    list_any_at (λ (n : ℕ). nat_eq n number) numbers middle e (omega (arith, is, lt, h.within))
    (eq-eqb (get_or numbers middle e) number (is_equal (get_or numbers middle e) number equal))

pub halving_found_bound : (numbers : List ℕ) (number low high taken next : ℕ) → IsHalving numbers number low high taken → low < high
    → next ≡ taken + 1 → 2 ^ next ≤ 2 * length numbers + 1
halving_found_bound numbers number low high taken next h lt more = rw (more) (h.left 1 (omega (arith, lt)))

-- nothing is left
pub halving_over : (numbers : List ℕ) (number low high taken : ℕ) → IsHalving numbers number low high taken → high ≤ low
    → list_any (λ (n : ℕ). nat_eq n number) numbers ≡ false
halving_over numbers number low high taken h end = list_any_none (λ (n : ℕ). nat_eq n number) numbers (λ k d lt.
    elim (nat_lt k low) as (λ t. nat_lt k low ≡ t → nat_eq (get_or numbers k d) number ≡ false) [
      | true ↦ λ t. ne_eqb (get_or numbers k d) number (λ same. omega (arith, same, h.below k d (ltb-true k low t)))
      | false ↦ λ t. ne_eqb (get_or numbers k d) number (λ same. omega (arith, same, h.above k d (omega (arith, ltb-false k low t)) lt))
    ] refl)

pub halving_over_bound : (numbers : List ℕ) (number low high taken : ℕ) → IsHalving numbers number low high taken
    → 2 ^ taken ≤ 2 * length numbers + 1
halving_over_bound numbers number low high taken h =
    let same : taken + 0 ≡ taken = omega arith in
    rw (← same) (h.left 0 (omega arith))
