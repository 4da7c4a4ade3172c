-- A walk over a list, of which each element gives some of another.
use Rattle.std.proofs.Common.{◌≡◌, ℕ, ◌+◌, ◌<◌, Bool, ◌||◌, List, ◌++◌, length, get_or, drop, sum_by, ap, ◌∙◌, add-one, drop-cons, Some}
use Rattle.std.proofs.Common.{subst}
use Rattle.std.specs.Prelude.{All, slice_get}
use Rattle.std.specs.List.{flat_map, list_any}
use Rattle.std.proofs.lemmas.Option.{slice_get_within, get_or_from_slice_get}
use Rattle.std.proofs.lemmas.List.Folds.{list_any-append}
use Rattle.std.proofs.lemmas.List.Sums.{sum_by-append}

-- what is left gives what its first element gives, and then the others
pub flat_next : {X A : Type 0} (f : X → List A) (xs : List X) (i : ℕ) (d : X) → i < length xs
    → flat_map f (drop i xs) ≡ f (get_or xs i d) ++ flat_map f (drop (i + 1) xs)
flat_next f xs i d lt = rw add-one (ap (flat_map f) (drop-cons xs i d lt))

pub any_next : {X A : Type 0} (p : A → Bool) (f : X → List A) (xs : List X) (i : ℕ) (d : X) → i < length xs
    → list_any p (flat_map f (drop i xs)) ≡ (list_any p (f (get_or xs i d)) || list_any p (flat_map f (drop (i + 1) xs)))
any_next p f xs i d lt = ap (list_any p) (flat_next f xs i d lt) ∙ list_any-append p (f (get_or xs i d)) (flat_map f (drop (i + 1) xs))

pub sum_next : {X A : Type 0} (n : A → ℕ) (f : X → List A) (xs : List X) (i : ℕ) (d : X) → i < length xs
    → sum_by n (flat_map f (drop i xs)) ≡ sum_by n (f (get_or xs i d)) + sum_by n (flat_map f (drop (i + 1) xs))
sum_next n f xs i d lt = ap (sum_by n) (flat_next f xs i d lt) ∙ sum_by-append n (f (get_or xs i d)) (flat_map f (drop (i + 1) xs))

-- the same where the element is found by its number
pub flat_row : {X A : Type 0} (f : X → List A) (xs : List X) (i : ℕ) (x : X) → slice_get xs i ≡ Some x
    → flat_map f (drop i xs) ≡ f x ++ flat_map f (drop (i + 1) xs)
flat_row f xs i x is =
    flat_next f xs i x (slice_get_within xs i x is) ∙ ap (λ y. f y ++ flat_map f (drop (i + 1) xs)) (get_or_from_slice_get xs i x x is)

pub any_row : {X A : Type 0} (p : A → Bool) (f : X → List A) (xs : List X) (i : ℕ) (x : X) → slice_get xs i ≡ Some x
    → list_any p (flat_map f (drop i xs)) ≡ (list_any p (f x) || list_any p (flat_map f (drop (i + 1) xs)))
any_row p f xs i x is = ap (list_any p) (flat_row f xs i x is) ∙ list_any-append p (f x) (flat_map f (drop (i + 1) xs))

pub sum_row : {X A : Type 0} (n : A → ℕ) (f : X → List A) (xs : List X) (i : ℕ) (x : X) → slice_get xs i ≡ Some x
    → sum_by n (flat_map f (drop i xs)) ≡ sum_by n (f x) + sum_by n (flat_map f (drop (i + 1) xs))
sum_row n f xs i x is = ap (sum_by n) (flat_row f xs i x is) ∙ sum_by-append n (f x) (flat_map f (drop (i + 1) xs))

-- what holds of all holds of the one with this number
pub all_at : {X : Type 0} (P : X → Type 0) (xs : List X) (k : ℕ) (x : X) → All P xs → slice_get xs k ≡ Some x → P x
all_at P xs k x all is = subst P (get_or_from_slice_get xs k x x is) (all k x (slice_get_within xs k x is))
