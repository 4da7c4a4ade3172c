-- Parts are no more than the places where legs go on or end.
use Rattle.std.proofs.Common.{◌≡◌, ℕ, suc, ◌+◌, ◌<◌, ◌≤◌, true, false, List, [], ◌∷◌, ◌++◌, length, inl, inr, refl, sym, ap, subst, arith}
use Rattle.std.proofs.Common.{nat_eq, nat_le, ⊎_elim}
use Rattle.std.specs.Cmp.{nat_eq_equiv}
use Rattle.std.specs.List.{AllByRecursion, IsDistinct, list_any}
use Rattle.std.specs.Set.{distinct_count, unique_keys}
use Rattle.std.proofs.lemmas.Bool.{cond_both, eq-eqb, eqb-true, false≢true, leb-false, leb-true, ne_eqb, or_cases, or_left, or_right}
use Rattle.std.proofs.lemmas.Map.Made.{length-le_from_is_member}
use Rattle.extent_alloc.specs.Few.{ends_from}
use Rattle.extent_alloc.specs.Free.{counts_of, total}
use Rattle.extent_alloc.specs.Giving.{extents_in}
use Rattle.extent_alloc.specs.declared.part.Part.{Part}
use Rattle.extent_alloc.specs.declared.part.PvRun.{PvRun}
use Rattle.extent_alloc.proofs.LaidParts.{AgreeFrom, In, ends_of, extents_cons, stops, total_cons}
use Rattle.list_laws.proofs.Pairs.{all_weaker}

-- each is greater than the one before
abbrev Rises : ℕ → List ℕ → Type 0
Rises n [] = Unit {0}
Rises n (m ∷ more) = (n < m) × Rises m more

rises_above : (n : ℕ) (more : List ℕ) → Rises n more → AllByRecursion (λ m. n < m) more
rises_above n [] rises = tt
rises_above n (m ∷ more) rises =
    (rises.0, all_weaker (λ k. m < k) (λ k. n < k) (λ k lt. omega (arith, rises.0, lt)) more (rises_above m more rises.1))

rises_distinct : (n : ℕ) (more : List ℕ) → Rises n more → IsDistinct nat_eq more
unfolding IsDistinct
rises_distinct n [] rises = tt
rises_distinct n (m ∷ more) rises = (
  all_weaker (λ k. m < k) (λ k. nat_eq m k ≡ false) (λ k lt. ne_eqb m k (λ same. omega (arith, lt, same))) more
      (rises_above m more rises.1),
  rises_distinct m more rises.1,
)

ends_rise : (legs : List (List PvRun)) (at : ℕ) (parts : List Part) → AgreeFrom legs at parts → Rises at (ends_of at parts)
ends_rise legs at [] agree = tt
ends_rise legs at (part ∷ parts) agree = (omega (arith, agree.0), ends_rise legs (at + part.extents) parts agree.2)

ends_count : (at : ℕ) (parts : List Part) → length (ends_of at parts) ≡ length parts
ends_count at [] = refl
ends_count at (part ∷ parts) = ap suc (ends_count (at + part.extents) parts)

pub ends_within : (at n : ℕ) (parts : List Part) → In n (ends_of at parts) → n ≤ at + extents_in parts
ends_within at n [] is = absurd is
ends_within at n (part ∷ parts) (inl here) = omega (arith, here, extents_cons part parts)
ends_within at n (part ∷ parts) (inr later) = omega (arith, ends_within (at + part.extents) n parts later, extents_cons part parts)

-- a number among others, and what std asks of it
in_any : (n : ℕ) (more : List ℕ) → list_any (nat_eq n) more ≡ true → In n more
in_any n [] is = absurd (false≢true is)
in_any n (m ∷ more) is =
    ⊎_elim (λ (here : nat_eq n m ≡ true). inl (eqb-true n m here)) (λ (later : list_any (nat_eq n) more ≡ true). inr (in_any n more later))
    (or_cases (nat_eq n m) (list_any (nat_eq n) more) is)

any_in : (n : ℕ) (more : List ℕ) → In n more → list_any (nat_eq n) more ≡ true
any_in n [] is = absurd is
any_in n (m ∷ more) (inl here) = or_left (nat_eq n m) (list_any (nat_eq n) more) (eq-eqb n m here)
any_in n (m ∷ more) (inr later) = or_right (nat_eq n m) (list_any (nat_eq n) more) (any_in n more later)

in_unique : (n : ℕ) (more : List ℕ) → In n more → In n (unique_keys nat_eq more)
in_unique n [] is = is
in_unique n (m ∷ more) is =
    cond_both (list_any (nat_eq m) more) _ _ (In n)
    (λ again. in_unique n more (⊎_elim (λ (here : n ≡ m). subst (λ k. In k more) (sym here) (in_any m more again))
    (λ (later : In n more). later) is))
    (λ new. ⊎_elim (λ (here : n ≡ m). inl here) (λ (later : In n more). inr (in_unique n more later)) is)

-- parts whose ends are all among these are no more than these
pub counted : (legs : List (List PvRun)) (parts : List Part) (ends : List ℕ) → AgreeFrom legs 0 parts
    → ((n : ℕ) → In n (ends_of 0 parts) → In n ends) → length parts ≤ distinct_count nat_eq ends
counted legs parts ends agree among =
    let few : length (ends_of 0 parts) ≤ length (unique_keys nat_eq ends) =
    length-le_from_is_member nat_eq_equiv (ends_of 0 parts) (unique_keys nat_eq ends)
    (rises_distinct 0 (ends_of 0 parts) (ends_rise legs 0 parts agree))
    (λ n member. any_in n (unique_keys nat_eq ends) (in_unique n ends (among n (in_any n (ends_of 0 parts) member)))) in
    omega (arith, few, ends_count 0 parts)

-- the ends of a leg
stops_after : (at n : ℕ) (runs : List PvRun) → In n (stops at runs) → at ≤ n
stops_after at n [] is = absurd is
stops_after at n (run ∷ runs) (inl here) = omega (arith, here)
stops_after at n (run ∷ runs) (inr later) = omega (arith, stops_after (at + run.count) n runs later)

pub last_end : (at extents : ℕ) (runs : List PvRun) → at < extents → extents ≤ at + total runs
    → In extents (ends_from at extents (counts_of runs))
last_end at extents [] lt enough = absurd (omega (arith, lt, enough))
last_end at extents (run ∷ runs) lt enough =
    cond_both (nat_le extents (at + run.count)) _ _ (In extents) (λ is. inl refl)
    (λ isnt. inr (last_end (at + run.count) extents runs (leb-false extents (at + run.count) isnt)
    (omega (arith, enough, total_cons run runs))))

pub stop_end : (at extents n : ℕ) (runs : List PvRun) → In n (stops at runs) → n < extents → In n (ends_from at extents (counts_of runs))
stop_end at extents n [] is lt = absurd is
stop_end at extents n (run ∷ runs) (inl here) lt =
    cond_both (nat_le extents (at + run.count)) _ _ (In n) (λ is. absurd (omega (arith, here, lt, leb-true extents (at + run.count) is)))
    (λ isnt. inl here)
stop_end at extents n (run ∷ runs) (inr later) lt =
    cond_both (nat_le extents (at + run.count)) _ _ (In n)
    (λ is. absurd (omega (arith, lt, leb-true extents (at + run.count) is, stops_after (at + run.count) n runs later)))
    (λ isnt. inr (stop_end (at + run.count) extents n runs later lt))

pub in_left : (n : ℕ) (a b : List ℕ) → In n a → In n (a ++ b)
in_left n [] b is = absurd is
in_left n (m ∷ a) b (inl here) = inl here
in_left n (m ∷ a) b (inr later) = inr (in_left n a b later)

pub in_right : (n : ℕ) (a b : List ℕ) → In n b → In n (a ++ b)
in_right n [] b is = is
in_right n (m ∷ a) b is = inr (in_right n a b is)
