-- Members of lists that are made from numbered ones.
use Rattle.std.proofs.Common.{◌≡◌, ℕ, zero, suc, ◌+◌, ◌<◌, ◌⊎◌, Bool, true, false, cond, List, [], ◌∷◌, ◌++◌, length, Option, Some, None}
use Rattle.std.proofs.Common.{inl, inr, ⊎_elim, refl, sym, ap, subst, arith}
use Rattle.std.specs.Prelude.{filter_map, map, slice_get, slice_index_or}
use Rattle.std.specs.List.{Contains, cons_option, enumerate_from, filter, flat_map}
use Rattle.std.proofs.lemmas.Option.{same_Some}

abbrev pub In : {X : Type 0} → List X → X → Type 0
In [] x = ⊥
In (y ∷ ys) x = (y ≡ x) ⊎ In ys x

in_at : {X : Type 0} (xs : List X) (x : X) (k : ℕ) → k < length xs → slice_index_or xs k x ≡ x → In xs x
in_at [] x k within is = absurd (omega arith)
in_at (y ∷ ys) x zero within is = inl is
in_at (y ∷ ys) x (suc k) within is = inr (in_at ys x k (omega arith) is)

pub in_list : {X : Type 0} (xs : List X) (x : X) → Contains xs x → In xs x
in_list xs x has = in_at xs x has.0 has.1 has.2

pub has_member : {X : Type 0} (xs : List X) (x : X) → In xs x → Contains xs x
has_member [] x is = absurd is
has_member (y ∷ ys) x (inl is) = (0, omega arith, is)
has_member (y ∷ ys) x (inr later) = let has : Contains ys x = has_member ys x later in (suc has.0, omega (arith, has.1), has.2)

-- of one list behind another
in_left : {X : Type 0} (xs ys : List X) (x : X) → In xs x → In (xs ++ ys) x
in_left [] ys x is = absurd is
in_left (y ∷ xs) ys x (inl is) = inl is
in_left (y ∷ xs) ys x (inr later) = inr (in_left xs ys x later)

in_right : {X : Type 0} (xs ys : List X) (x : X) → In ys x → In (xs ++ ys) x
in_right [] ys x is = is
in_right (y ∷ xs) ys x is = inr (in_right xs ys x is)

in_either : {X : Type 0} (xs ys : List X) (x : X) → In (xs ++ ys) x → In xs x ⊎ In ys x
in_either [] ys x is = inr is
in_either (y ∷ xs) ys x (inl is) = inl (inl is)
in_either (y ∷ xs) ys x (inr later) = ⊎_elim (λ left. inl (inr left)) (λ right. inr right) (in_either xs ys x later)

-- an element at which this holds, its number counted from this one
record AtNumber {X : Type 0} (first : ℕ) (xs : List X) (P : ℕ × X → Type 0) : Type 0 where
  pub number : ℕ
  pub element : X
  pub got : slice_get xs number ≡ Some element
  pub holds : P (first + number, element)

at_first : {X : Type 0} (first : ℕ) (x : X) (xs : List X) (P : ℕ × X → Type 0) → P (first, x) → AtNumber first (x ∷ xs) P
at_first first x xs P p =
    record { number = 0; element = x; got = refl; holds = subst (λ (n : ℕ). P (n, x)) (let e : first ≡ first + 0 = omega arith in e) p }

at_later : {X : Type 0} (first : ℕ) (x : X) (xs : List X) (P : ℕ × X → Type 0) → AtNumber (first + 1) xs P → AtNumber first (x ∷ xs) P
at_later first x xs P at =
    record {
      number = suc at.number;
      element = at.element;
      got = at.got;
      holds = subst (λ (n : ℕ). P (n, at.element)) (let e : first + 1 + at.number ≡ first + suc at.number = omega arith in e) at.holds;
    }

-- members of what numbered elements give, a list each
in_flat_from : {X Y : Type 0} (f : ℕ × X → List Y) (first : ℕ) (xs : List X) (y : Y) → In (flat_map f (enumerate_from first xs)) y
    → AtNumber first xs (λ d. In (f d) y)
in_flat_from f first [] y is = absurd is
in_flat_from f first (x ∷ xs) y is =
    ⊎_elim (λ here. at_first first x xs (λ d. In (f d) y) here)
    (λ later. at_later first x xs (λ d. In (f d) y) (in_flat_from f (first + 1) xs y later))
    (in_either (f (first, x)) (flat_map f (enumerate_from (first + 1) xs)) y is)

flat_has_from : {X Y : Type 0} (f : ℕ × X → List Y) (first : ℕ) (xs : List X) (y : Y) (number : ℕ) (x : X) → slice_get xs number ≡ Some x
    → In (f (first + number, x)) y
    → In (flat_map f (enumerate_from first xs)) y
flat_has_from f first [] y number x got is = cc
flat_has_from f first (z ∷ xs) y zero x got is =
    in_left (f (first, z)) (flat_map f (enumerate_from (first + 1) xs)) y
    (subst (λ w. In (f (first, w)) y) (sym (same_Some z x got))
    (subst (λ (n : ℕ). In (f (n, x)) y) (let e : first + 0 ≡ first = omega arith in e) is))
flat_has_from f first (z ∷ xs) y (suc number) x got is =
    in_right (f (first, z)) (flat_map f (enumerate_from (first + 1) xs)) y
    (flat_has_from f (first + 1) xs y number x got
    (subst (λ (n : ℕ). In (f (n, x)) y) (let e : first + suc number ≡ first + 1 + number = omega arith in e) is))

-- an element at which this holds, with its number
pub record Numbered {X : Type 0} (xs : List X) (P : ℕ × X → Type 0) : Type 0 where
  pub number : ℕ
  pub element : X
  pub got : slice_get xs number ≡ Some element
  pub holds : P (number, element)

pub in_flat : {X Y : Type 0} (f : ℕ × X → List Y) (xs : List X) (y : Y) → In (flat_map f (enumerate_from 0 xs)) y
    → Numbered xs (λ d. In (f d) y)
in_flat f xs y is =
    let at = in_flat_from f 0 xs y is in
    record {
      number = at.number;
      element = at.element;
      got = at.got;
      holds = subst (λ (n : ℕ). In (f (n, at.element)) y) (let e : 0 + at.number ≡ at.number = omega arith in e) at.holds;
    }

pub flat_has : {X Y : Type 0} (f : ℕ × X → List Y) (xs : List X) (y : Y) (number : ℕ) (x : X) → slice_get xs number ≡ Some x
    → In (f (number, x)) y → In (flat_map f (enumerate_from 0 xs)) y
flat_has f xs y number x got is =
    flat_has_from f 0 xs y number x got (subst (λ (n : ℕ). In (f (n, x)) y) (let e : number ≡ 0 + number = omega arith in e) is)

-- and one at most each
next_flat : {Y : Type 0} (o : Option Y) (xs ys : List Y) → xs ≡ ys → cons_option o xs ≡ cons_option o [] ++ ys
next_flat None xs ys same = same
next_flat (Some y) xs ys same = ap (λ l. y ∷ l) same

each_flat : {X Y : Type 0} (h : X → Option Y) (xs : List X) → filter_map h xs ≡ flat_map (λ x. cons_option (h x) []) xs
each_flat h [] = refl
each_flat h (x ∷ xs) = next_flat (h x) (filter_map h xs) (flat_map (λ z. cons_option (h z) []) xs) (each_flat h xs)

in_one : {Y : Type 0} (o : Option Y) (y : Y) → In (cons_option o []) y → o ≡ Some y
in_one None y is = absurd is
in_one (Some x) y (inl is) = ap Some is
in_one (Some x) y (inr later) = absurd later

one_has : {Y : Type 0} (o : Option Y) (y : Y) → o ≡ Some y → In (cons_option o []) y
one_has o y is = subst (λ p. In (cons_option p []) y) (sym is) (inl refl)

pub in_kept : {X Y : Type 0} (h : ℕ × X → Option Y) (xs : List X) (y : Y) → In (filter_map h (enumerate_from 0 xs)) y
    → Numbered xs (λ d. h d ≡ Some y)
in_kept h xs y is =
    let at = in_flat (λ d. cons_option (h d) []) xs y (subst (λ l. In l y) (each_flat h (enumerate_from 0 xs)) is) in
    record { number = at.number; element = at.element; got = at.got; holds = in_one (h (at.number, at.element)) y at.holds }

pub kept_has : {X Y : Type 0} (h : ℕ × X → Option Y) (xs : List X) (y : Y) (number : ℕ) (x : X) → slice_get xs number ≡ Some x
    → h (number, x) ≡ Some y
    → In (filter_map h (enumerate_from 0 xs)) y
kept_has h xs y number x got is =
    subst (λ l. In l y) (sym (each_flat h (enumerate_from 0 xs)))
    (flat_has (λ d. cons_option (h d) []) xs y number x got (one_has (h (number, x)) y is))

-- members of what those that pass a test stand for
pub record Passing {X Y : Type 0} (g : X → Y) (test : X → Bool) (xs : List X) (y : Y) : Type 0 where
  pub element : X
  pub is_in : In xs element
  pub passes : test element ≡ true
  pub stands_for : g element ≡ y

pub in_passing : {X Y : Type 0} (g : X → Y) (test : X → Bool) (xs : List X) (y : Y) → In (map g (filter test xs)) y → Passing g test xs y
in_passing g test [] y is = absurd is
in_passing g test (x ∷ xs) y is = of (test x) refl is (in_passing g test xs y) where
  later : Passing g test xs y → Passing g test (x ∷ xs) y
  later p = record { element = p.element; is_in = inr p.is_in; passes = p.passes; stands_for = p.stands_for }

  of : (b : Bool) → test x ≡ b → In (map g (cond b (x ∷ filter test xs) (filter test xs))) y
      → (In (map g (filter test xs)) y → Passing g test xs y) → Passing g test (x ∷ xs) y
  of true e (inl here) rest = record { element = x; is_in = inl refl; passes = e; stands_for = here }
  of true e (inr is) rest = later (rest is)
  of false e is rest = later (rest is)

pub passing_has : {X Y : Type 0} (g : X → Y) (test : X → Bool) (xs : List X) (x : X) → In xs x → test x ≡ true
    → In (map g (filter test xs)) (g x)
passing_has g test [] x is passes = absurd is
passing_has g test (z ∷ xs) x (inl here) passes =
    subst (λ w. In (map g (filter test (w ∷ xs))) (g x)) (sym here)
    (subst (λ (b : Bool). In (map g (cond b (x ∷ filter test xs) (filter test xs))) (g x)) (sym passes) (inl refl))
passing_has g test (z ∷ xs) x (inr later) passes = of (test z) (passing_has g test xs x later passes) where
  of : (b : Bool) → In (map g (filter test xs)) (g x) → In (map g (cond b (z ∷ filter test xs) (filter test xs))) (g x)
  of true is = inr is
  of false is = is
