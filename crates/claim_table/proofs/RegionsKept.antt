-- The regions of started pieces, as pieces start and leave.
use Rattle.std.proofs.Common.{◌≡◌, ◌<◌, ◌≤◌, ℕ, ◌+◌, ◌*◌, Bool, true, false, nat_eq, List, [], ◌∷◌, length, get_or, refl, sym, ap, ◌∙◌}
use Rattle.std.proofs.Common.{arith}
use Rattle.std.specs.Prelude.{Contains, MatchOption, None, Option, Some, count_by, remove}
use Rattle.std.specs.List.{insert, list_any, sum_by}
use Rattle.std.specs.List.Sorted.{IsPermutation}
use Rattle.std.specs.Option.{option_map_or}
use Rattle.std.specs.Ordering.{nat_cmp}
use Rattle.std.proofs.lemmas.Bool.{eqb-true, eq-eqb}
use Rattle.std.proofs.lemmas.List.{get_or_default}
use Rattle.std.proofs.lemmas.List.Folds.{Any-from_list_any, list_any_at}
use Rattle.std.proofs.lemmas.List.Sorted.{sum_by-IsPermutation}
use Rattle.std.proofs.lemmas.List.Sums.{sum_by-cons, sum_by-insert, sum_by-le, sum_by-remove}
use Rattle.claim_table.specs.declared.claim.Claim.{Claim}
use Rattle.claim_table.specs.Claims.{lies_in}
use Rattle.claim_table.specs.Regions.{AreRegionsOf}
use Rattle.claim_table.specs.Sorted.{IsAscending}
use Rattle.claim_table.proofs.Indexed.{any_alike, one_if}

-- no piece lies in a region
pub regions_none : AreRegionsOf [] []
regions_none = record { same = λ p. refl; ascending = λ i j d lt within. absurd (omega arith) }

-- whether a piece lies in a region that passes
abbrev pub lies_in_one : (ℕ → Bool) → Claim → Bool
lies_in_one p c = option_map_or p c.region false

-- what a region that is noted adds, and one that is forgotten takes away
noted : (p : ℕ → Bool) (o : Option ℕ) (regions new : List ℕ) → MatchOption o (new ≡ regions) (λ r. IsPermutation (r ∷ regions) new)
    → count_by p new ≡ count_by p regions + one_if (option_map_or p o false)
noted p None regions new same = ap (λ (l : List ℕ). count_by p l) same ∙ omega arith
noted p (Some r) regions new moved =
    let kept : sum_by (λ x. one_if (p x)) new ≡ sum_by (λ x. one_if (p x)) (r ∷ regions) =
    sum_by-IsPermutation (λ x. one_if (p x)) (r ∷ regions) new moved in
    let one : sum_by (λ x. one_if (p x)) (r ∷ regions) ≡ one_if (p r) + sum_by (λ x. one_if (p x)) regions =
    sum_by-cons (λ x. one_if (p x)) r regions in
    omega (arith, kept, one)

forgotten : (p : ℕ → Bool) (o : Option ℕ) (regions new : List ℕ) → MatchOption o (new ≡ regions) (λ r. IsPermutation regions (r ∷ new))
    → count_by p new + one_if (option_map_or p o false) ≡ count_by p regions
forgotten p None regions new same = omega arith ∙ ap (λ (l : List ℕ). count_by p l) same
forgotten p (Some r) regions new moved =
    let kept : sum_by (λ x. one_if (p x)) (r ∷ new) ≡ sum_by (λ x. one_if (p x)) regions =
    sum_by-IsPermutation (λ x. one_if (p x)) regions (r ∷ new) moved in
    let one : sum_by (λ x. one_if (p x)) (r ∷ new) ≡ one_if (p r) + sum_by (λ x. one_if (p x)) new =
    sum_by-cons (λ x. one_if (p x)) r new in
    omega (arith, kept, one)

-- a piece that starts, and one that leaves
pub regions_start : (claims : List Claim) (regions new : List ℕ) (c : Claim) (at : ℕ) → AreRegionsOf claims regions
    → MatchOption c.region (new ≡ regions) (λ r. IsPermutation (r ∷ regions) new) → IsAscending nat_cmp new
    → AreRegionsOf (insert claims at c) new
regions_start claims regions new c at h items up = record {
  same =
      λ p. noted p c.region regions new items ∙ ap (λ (n : ℕ). n + one_if (lies_in_one p c)) (h.same p)
      ∙ sym (sum_by-insert (λ (x : Claim). one_if (lies_in_one p x)) claims at c);
  ascending = up;
}

pub regions_leave : (claims : List Claim) (regions new : List ℕ) (c : Claim) (at : ℕ) → AreRegionsOf claims regions → at < length claims
    → c ≡ get_or claims at c → MatchOption c.region (new ≡ regions) (λ r. IsPermutation regions (r ∷ new)) → IsAscending nat_cmp new
    → AreRegionsOf (remove claims at) new
regions_leave claims regions new c at h lt here items up = record {
  same = λ p.
      let kept : count_by p new + one_if (lies_in_one p c) ≡ count_by p regions = forgotten p c.region regions new items in
      let old : count_by p regions ≡ count_by (lies_in_one p) claims = h.same p in
      let less : sum_by (λ (x : Claim). one_if (lies_in_one p x)) (remove claims at) + one_if (lies_in_one p (get_or claims at c))
      ≡ sum_by (λ (x : Claim). one_if (lies_in_one p x)) claims = sum_by-remove (λ (x : Claim). one_if (lies_in_one p x)) claims at c
      lt in
      let is : one_if (lies_in_one p (get_or claims at c)) ≡ one_if (lies_in_one p c) =
      ap (λ (x : Claim). one_if (lies_in_one p x)) (sym here) in
      omega (arith, kept, old, less, is);
  ascending = up;
}

-- whether a piece lies in a region is whether that is there
pub any_region : (claims : List Claim) (regions : List ℕ) (region : ℕ) → AreRegionsOf claims regions
    → list_any (λ (r : ℕ). nat_eq r region) regions ≡ list_any (lies_in region) claims
any_region claims regions region h = any_alike (λ (r : ℕ). nat_eq r region) (lies_in region) regions claims (h.same (λ r. nat_eq r region))

-- the region of a piece is there
pub has_region_of : (claims : List Claim) (regions : List ℕ) (c : Claim) (at region : ℕ) → AreRegionsOf claims regions → at < length claims
    → c ≡ get_or claims at c → c.region ≡ Some region → Contains regions region
has_region_of claims regions c at region h lt here lies =
    let in_it : lies_in region c ≡ true =
    ap (λ (o : Option ℕ). option_map_or (λ r. nat_eq r region) o false) lies ∙ eq-eqb region region refl in
    let is : lies_in region (get_or claims at c) ≡ true = rw (← here) in_it in
    let any : list_any (λ (r : ℕ). nat_eq r region) regions ≡ true =
    any_region claims regions region h ∙ list_any_at (lies_in region) claims at c lt is in
    let found = Any-from_list_any (λ (r : ℕ). nat_eq r region) regions any in
    (found.0, found.2, get_or_default regions found.0 region found.1 found.2 ∙ found.3 ∙ eqb-true found.1 region found.4)

-- there are no more regions than pieces
all_counted : (regions : List ℕ) → count_by (λ r. true) regions ≡ length regions
all_counted [] = refl
all_counted (r ∷ regions) =
    let one : sum_by (λ (x : ℕ). 1) (r ∷ regions) ≡ 1 + sum_by (λ (x : ℕ). 1) regions = sum_by-cons (λ (x : ℕ). 1) r regions in
    let rest : sum_by (λ (x : ℕ). 1) regions ≡ length regions = all_counted regions in
    omega (arith, one, rest)

at_most_one : (b : Bool) → one_if b ≤ 1
at_most_one true = omega arith
at_most_one false = omega arith

pub fewer_regions : (claims : List Claim) (regions : List ℕ) → AreRegionsOf claims regions → length regions ≤ length claims
fewer_regions claims regions h =
    let all : count_by (λ r. true) regions ≡ length regions = all_counted regions in
    let same : count_by (λ r. true) regions ≡ sum_by (λ (c : Claim). one_if (lies_in_one (λ r. true) c)) claims = h.same (λ r. true) in
    let most : sum_by (λ (c : Claim). one_if (lies_in_one (λ r. true) c)) claims ≤ length claims * 1 =
    sum_by-le (λ (c : Claim). one_if (lies_in_one (λ r. true) c)) 1 claims
    (λ k d lt. at_most_one (lies_in_one (λ r. true) (get_or claims k d))) in
    omega (arith, all, same, most)
