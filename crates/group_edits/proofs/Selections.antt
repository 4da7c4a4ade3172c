-- Some of the elements of a list in its order, and what a function gives of each.
use Rattle.std.proofs.Common.{◌≡◌, ◌≤◌, ◌⊎◌, ℕ, zero, suc, List, [], ◌∷◌, ◌++◌, length, map, Some, inl, inr, refl, sym, ap, subst, arith}
use Rattle.std.specs.Prelude.{slice_get, sum_by, All, AllPairs, Contains}
use Rattle.std.specs.List.{AllByRecursion as Each, remove}
use Rattle.std.proofs.lemmas.List.Elements.{All-append, All-cons, All-from_recursion, All-head, All-map, All-nil, All-tail}
use Rattle.std.proofs.lemmas.List.Elements.{recursion_from_All}
use Rattle.std.proofs.lemmas.List.Kept.{AllPairs-cons}
use Rattle.std.proofs.lemmas.List.Sums.{sum_by-cons}
use Rattle.std.proofs.lemmas.Option.{same_Some}
use Rattle.volume_rules.proofs.LegRuns.{contains_later}
use Rattle.list_laws.proofs.Inserted.{first_pairs, later_pairs}

-- what stands at a place is contained
pub contains_at : {X : Type 0} (xs : List X) (n : ℕ) (x : X) → slice_get xs n ≡ Some x → Contains xs x
contains_at [] n x is = absurd cc
contains_at (y ∷ xs) zero x is = (zero, omega arith, same_Some y x is)
contains_at (y ∷ xs) (suc n) x is = contains_later y x xs (contains_at xs n x is)

-- ---- what a function gives

module _ {X Y : Type 0} (f : X → Y) where
  pub map_at : (xs : List X) (k : ℕ) (x : X) → slice_get xs k ≡ Some x → slice_get (map f xs) k ≡ Some (f x)
  map_at [] k x is = absurd cc
  map_at (y ∷ xs) zero x is = ap (λ z. Some (f z)) (same_Some y x is)
  map_at (y ∷ xs) (suc k) x is = map_at xs k x is

  pub map_from : (xs : List X) (k : ℕ) (y : Y) → slice_get (map f xs) k ≡ Some y → (x : X) × (slice_get xs k ≡ Some x) × (f x ≡ y)
  map_from [] k y is = absurd cc
  map_from (x ∷ xs) zero y is = (x, refl, same_Some (f x) y is)
  map_from (x ∷ xs) (suc k) y is = map_from xs k y is

module _ {X : Type 0} (f : X → X) where
  -- a part that stays
  pub map_part : {Y : Type 0} (g : X → Y) → ((x : X) → g (f x) ≡ g x) → (xs : List X) → map g (map f xs) ≡ map g xs
  map_part g same [] = refl
  map_part g same (x ∷ xs) = λ i. same x i ∷ map_part g same xs i

  pub sum_less : (g : X → ℕ) → ((x : X) → g (f x) ≤ g x) → (xs : List X) → sum_by g (map f xs) ≤ sum_by g xs
  sum_less g less [] = omega arith
  sum_less g less (x ∷ xs) = omega (arith, less x, sum_less g less xs, sum_by-cons g (f x) (map f xs), sum_by-cons g x xs)

each_by : {X Y : Type 0} (R : X → X → Type 0) (Q : Y → Y → Type 0) (Good : X → Type 0) (g : X → Y)
    → ((a b : X) → Good a → Good b → R a b → Q (g a) (g b)) → (x : X) → Good x → (ys : List X) → Each Good ys → Each (R x) ys
    → Each (λ y. Q (g x) (g y)) ys
each_by R Q Good g by x good [] goods are = tt
each_by R Q Good g by x good (y ∷ ys) goods are = (by x y good goods.0 are.0, each_by R Q Good g by x good ys goods.1 are.1)

-- pairs of what a function gives
pub map_pairs : {X Y : Type 0} (R : X → X → Type 0) (Q : Y → Y → Type 0) (Good : X → Type 0) (g : X → Y)
    → ((a b : X) → Good a → Good b → R a b → Q (g a) (g b)) → (xs : List X) → Each Good xs → AllPairs R xs → AllPairs Q (map g xs)
map_pairs R Q Good g by [] good pairs = λ i j d before within. absurd (omega (arith, before, within))
map_pairs R Q Good g by (x ∷ xs) good pairs =
    AllPairs-cons Q (g x) (map g xs)
    (All-map (Q (g x)) g xs (All-from_recursion (λ y. Q (g x) (g y)) xs
    (each_by R Q Good g by x good.0 xs good.1 (recursion_from_All (R x) xs (first_pairs R x xs pairs)))))
    (map_pairs R Q Good g by xs good.1 (later_pairs R x xs pairs))

-- pairs of two lists, each element of the first related to all of the second
pub pairs_both : {X : Type 0} (R : X → X → Type 0) (xs ys : List X) → AllPairs R xs → AllPairs R ys → All (λ x. All (R x) ys) xs
    → AllPairs R (xs ++ ys)
pairs_both R [] ys first second cross = second
pairs_both R (x ∷ xs) ys first second cross =
    AllPairs-cons R x (xs ++ ys)
    (All-append (R x) xs ys (first_pairs R x xs first) (All-head (λ z. All (R z) ys) x xs cross))
    (pairs_both R xs ys (later_pairs R x xs first) second (All-tail (λ z. All (R z) ys) x xs cross))

-- ---- some elements

-- these are some of the elements of another list, in its order
abbrev pub AreSome : {X : Type 0} → List X → List X → Type 0
AreSome [] ys = Unit {0}
AreSome (x ∷ xs) [] = ⊥
AreSome (x ∷ xs) (y ∷ ys) = ((x ≡ y) × AreSome xs ys) ⊎ AreSome (x ∷ xs) ys

module _ {X : Type 0} where
  pub some_skip : (y : X) (xs ys : List X) → AreSome xs ys → AreSome xs (y ∷ ys)
  some_skip y [] ys some = tt
  some_skip y (x ∷ xs) ys some = inr some

  pub some_behind : (zs xs ys : List X) → AreSome xs ys → AreSome (zs ++ xs) (zs ++ ys)
  some_behind [] xs ys some = some
  some_behind (z ∷ zs) xs ys some = inl (refl, some_behind zs xs ys some)

  some_same : (xs : List X) → AreSome xs xs
  some_same [] = tt
  some_same (x ∷ xs) = inl (refl, some_same xs)

  pub some_front : (zs xs ys : List X) → AreSome xs ys → AreSome (xs ++ zs) (ys ++ zs)
  some_front zs [] [] some = some_same zs
  some_front zs [] (y ∷ ys) some = some_skip y zs (ys ++ zs) (some_front zs [] ys tt)
  some_front zs (x ∷ xs) [] some = absurd some
  some_front zs (x ∷ xs) (y ∷ ys) (inl here) = inl (here.0, some_front zs xs ys here.1)
  some_front zs (x ∷ xs) (y ∷ ys) (inr later) = inr (some_front zs (x ∷ xs) ys later)

  -- all but one
  pub some_without : (xs : List X) (removed : ℕ) → AreSome (remove xs removed) xs
  some_without [] zero = tt
  some_without [] (suc removed) = tt
  some_without (x ∷ xs) zero = some_skip x xs xs (some_same xs)
  some_without (x ∷ xs) (suc removed) = inl (refl, some_without xs removed)

  pub some_map : {Y : Type 0} (g : X → Y) (xs ys : List X) → AreSome xs ys → AreSome (map g xs) (map g ys)
  some_map g [] ys some = tt
  some_map g (x ∷ xs) [] some = absurd some
  some_map g (x ∷ xs) (y ∷ ys) (inl here) = inl (ap g here.0, some_map g xs ys here.1)
  some_map g (x ∷ xs) (y ∷ ys) (inr later) = inr (some_map g (x ∷ xs) ys later)

  pub some_all : (P : X → Type 0) (xs ys : List X) → AreSome xs ys → All P ys → All P xs
  some_all P [] ys some all = All-nil P
  some_all P (x ∷ xs) [] some all = absurd some
  some_all P (x ∷ xs) (y ∷ ys) (inl here) all =
      All-cons P x xs (subst P (sym here.0) (All-head P y ys all)) (some_all P xs ys here.1 (All-tail P y ys all))
  some_all P (x ∷ xs) (y ∷ ys) (inr later) all = some_all P (x ∷ xs) ys later (All-tail P y ys all)

  pub some_pairs : (R : X → X → Type 0) (xs ys : List X) → AreSome xs ys → AllPairs R ys → AllPairs R xs
  some_pairs R [] ys some pairs = λ i j d before within. absurd (omega (arith, before, within))
  some_pairs R (x ∷ xs) [] some pairs = absurd some
  some_pairs R (x ∷ xs) (y ∷ ys) (inl here) pairs =
      AllPairs-cons R x xs (some_all (R x) xs ys here.1 (subst (λ z. All (R z) ys) (sym here.0) (first_pairs R y ys pairs)))
      (some_pairs R xs ys here.1 (later_pairs R y ys pairs))
  some_pairs R (x ∷ xs) (y ∷ ys) (inr later) pairs = some_pairs R (x ∷ xs) ys later (later_pairs R y ys pairs)

  pub some_length : (xs ys : List X) → AreSome xs ys → length xs ≤ length ys
  some_length [] ys some = omega arith
  some_length (x ∷ xs) [] some = absurd some
  some_length (x ∷ xs) (y ∷ ys) (inl here) = omega (arith, some_length xs ys here.1)
  some_length (x ∷ xs) (y ∷ ys) (inr later) = let fewer = some_length (x ∷ xs) ys later in omega (arith, fewer)

  pub some_sum : (g : X → ℕ) (xs ys : List X) → AreSome xs ys → sum_by g xs ≤ sum_by g ys
  some_sum g [] ys some = omega arith
  some_sum g (x ∷ xs) [] some = absurd some
  some_sum g (x ∷ xs) (y ∷ ys) (inl here) =
      omega (arith, ap g here.0, some_sum g xs ys here.1, sum_by-cons g x xs, sum_by-cons g y ys)
  some_sum g (x ∷ xs) (y ∷ ys) (inr later) =
      let fewer = some_sum g (x ∷ xs) ys later in omega (arith, fewer, sum_by-cons g y ys)
