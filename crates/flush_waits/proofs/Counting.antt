-- Flushes of different disks are fewer than the disks where one disk has none.
use Rattle.std.proofs.Common.{◌≡◌, ◌≤◌, ◌<◌, ℕ, true, false, cond, ◌||◌, nat_eq, List, [], ◌∷◌, length, map, Some, None}
use Rattle.std.proofs.Common.{refl, sym, subst, arith}
use Rattle.std.specs.Prelude.{All}
use Rattle.std.specs.List.{AllByRecursion, IsDistinct, list_any}
use Rattle.std.proofs.lemmas.Bool.{eqb-false, eqb-true, ne_eqb}
use Rattle.std.proofs.lemmas.List.{length-map}
use Rattle.std.proofs.lemmas.List.Elements.{recursion_from_All}
use Rattle.std.proofs.lemmas.Map.Steps.{length-le_from_distinct_below}
use Rattle.flush_plan.specs.declared.records.Flush.{Flush}
use Rattle.list_laws.proofs.Pairs.{Pairs}
use Rattle.flush_waits.proofs.Flights.{Apart, first_of}

abbrev pvs : List Flush → List ℕ
pvs fs = map (λ (f : Flush). f.pv) fs

-- the disks of flushes that differ from one
others : (pv : ℕ) (fs : List Flush) → AllByRecursion (λ (g : Flush). nat_eq pv g.pv ≡ false) fs
    → AllByRecursion (λ (p : ℕ). nat_eq pv p ≡ false) (pvs fs)
others pv [] all = tt
others pv (f ∷ fs) all = (all.0, others pv fs all.1)

distinct : (fs : List Flush) → Pairs Apart fs → IsDistinct nat_eq (pvs fs)
unfolding IsDistinct
distinct [] apart = tt
distinct (f ∷ fs) apart = (others f.pv fs apart.0, distinct fs apart.1)

-- a disk with none differs from all
none_is : (pv : ℕ) (fs : List Flush) → first_of fs pv ≡ None → AllByRecursion (λ (g : Flush). nat_eq pv g.pv ≡ false) fs
none_is pv [] none = tt
none_is pv (f ∷ fs) none =
    elim (nat_eq f.pv pv) as
    (λ b. nat_eq f.pv pv ≡ b → cond b (Some f) (first_of fs pv) ≡ None
    → AllByRecursion (λ (g : Flush). nat_eq pv g.pv ≡ false) (f ∷ fs)) [
      | true ↦ λ t h. cc
      | false ↦ λ t h. (ne_eqb pv f.pv (λ e. eqb-false f.pv pv t (sym e)), none_is pv fs h)
    ] refl none

distinct_with : (pv : ℕ) (fs : List Flush) → first_of fs pv ≡ None → Pairs Apart fs → IsDistinct nat_eq (pv ∷ pvs fs)
unfolding IsDistinct
distinct_with pv fs none apart = (others pv fs (none_is pv fs none), distinct fs apart)

-- each of these disks is below the number of disks
all_below : (n : ℕ) (fs : List Flush) → AllByRecursion (λ (f : Flush). f.pv < n) fs → (q : ℕ) → list_any (nat_eq q) (pvs fs) ≡ true → q < n
all_below n [] all q any = cc
all_below n (f ∷ fs) all q any =
    elim (nat_eq q f.pv) as (λ b. nat_eq q f.pv ≡ b → (b || list_any (nat_eq q) (pvs fs)) ≡ true → q < n) [
      | true ↦ λ t h. subst (λ (p : ℕ). p < n) (sym (eqb-true q f.pv t)) all.0
      | false ↦ λ t h. all_below n fs all.1 q h
    ] refl any

with_below : (pv n : ℕ) (fs : List Flush) → pv < n → AllByRecursion (λ (f : Flush). f.pv < n) fs
    → (q : ℕ) → list_any (nat_eq q) (pv ∷ pvs fs) ≡ true → q < n
with_below pv n fs lt all q any =
    elim (nat_eq q pv) as (λ b. nat_eq q pv ≡ b → (b || list_any (nat_eq q) (pvs fs)) ≡ true → q < n) [
      | true ↦ λ t h. subst (λ (p : ℕ). p < n) (sym (eqb-true q pv t)) lt
      | false ↦ λ t h. all_below n fs all q h
    ] refl any

pub few_flights : (fs : List Flush) (pv n : ℕ) → pv < n → All (λ (f : Flush). f.pv < n) fs → Pairs Apart fs → first_of fs pv ≡ None
    → length fs < n
few_flights fs pv n lt within apart none =
    let most : length (pv ∷ pvs fs) ≤ n =
    length-le_from_distinct_below (pv ∷ pvs fs) n (distinct_with pv fs none apart)
    (with_below pv n fs lt (recursion_from_All (λ (f : Flush). f.pv < n) fs within)) in
    let many : length (pvs fs) ≡ length fs = length-map fs (λ (f : Flush). f.pv) in
    omega (arith, most, many)
