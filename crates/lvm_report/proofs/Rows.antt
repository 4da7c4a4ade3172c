-- A walk over a list by number, and the text that it puts.
use Rattle.std.proofs.Common.{◌≡◌, ℕ, suc, ◌+◌, ◌<◌, ◌≤◌, List, [], ◌∷◌, ◌++◌, length, get_or, drop, sum_by, Some, sym, ap, ◌∙◌}
use Rattle.std.proofs.Common.{append_assoc, add-one, drop-cons, arith}
use Rattle.std.specs.Prelude.{slice_get}
use Rattle.std.specs.List.{enumerate_from, flat_map, range_with_len}
use Rattle.std.proofs.lemmas.List.{append-nil, at_drop_all}
use Rattle.std.proofs.lemmas.List.FromFn.{length-enumerate_from, get_or-enumerate_from, length-range_with_len, get_or-range_with_len}
use Rattle.std.proofs.lemmas.List.Sums.{sum_by-append}
use Rattle.std.proofs.lemmas.Option.{slice_get_within, slice_get-get_or, get_or_from_slice_get}
use Rattle.list_laws.proofs.RowWalks.{flat_row}

-- the first of what is left
pub next_row : {X : Type 0} (xs : List X) (i : ℕ) (x : X) → slice_get xs i ≡ Some x → drop i xs ≡ x ∷ drop (i + 1) xs
next_row xs i x is =
    rw add-one (drop-cons xs i x (slice_get_within xs i x is) ∙ ap (λ y. y ∷ drop (suc i) xs) (get_or_from_slice_get xs i x x is))

-- each element has its number
pub numbered_at : {X : Type 0} (xs : List X) (i : ℕ) (x : X) → slice_get xs i ≡ Some x → slice_get (enumerate_from 0 xs) i ≡ Some (i, x)
numbered_at xs i x is =
    let within : i < length xs = slice_get_within xs i x is in
    let from_zero : 0 + i ≡ i = omega arith in
    slice_get-get_or (enumerate_from 0 xs) i (i, x) (omega (arith, length-enumerate_from 0 xs))
    ∙ ap Some (get_or-enumerate_from 0 xs i (i, x) within ∙ ap (λ k. (k, get_or xs i x)) from_zero
    ∙ ap (λ y. (i, y)) (get_or_from_slice_get xs i x x is))

pub range_at : (n i : ℕ) → i < n → slice_get (range_with_len 0 n) i ≡ Some i
range_at n i within =
    let from_zero : 0 + i ≡ i = omega arith in
    slice_get-get_or (range_with_len 0 n) i 0 (omega (arith, length-range_with_len 0 n))
    ∙ ap Some (get_or-range_with_len 0 n i 0 within ∙ from_zero)

-- one line more
pub one_line : (before after line whole rest rest' : List ℕ) → after ≡ before ++ line → rest ≡ line ++ rest' → before ++ rest ≡ whole
    → after ++ rest' ≡ whole
one_line before after line whole rest rest' put row so_far =
    ap (λ some. some ++ rest') put ∙ append_assoc before line rest' ∙ ap (λ some. before ++ some) (sym row) ∙ so_far

pub line_more : {X : Type 0} (f : X → List ℕ) (xs : List X) (i : ℕ) (x : X) (before after whole : List ℕ) → slice_get xs i ≡ Some x
    → after ≡ before ++ f x → before ++ flat_map f (drop i xs) ≡ whole
    → after ++ flat_map f (drop (i + 1) xs) ≡ whole
line_more f xs i x before after whole here put so_far =
    one_line before after (f x) whole (flat_map f (drop i xs)) (flat_map f (drop (i + 1) xs)) put (flat_row f xs i x here) so_far

-- a number more of a sum
pub sum_row : {X : Type 0} (n : X → ℕ) (xs : List X) (i : ℕ) (x : X) → slice_get xs i ≡ Some x
    → sum_by n (drop i xs) ≡ n x + sum_by n (drop (i + 1) xs)
sum_row n xs i x here = omega (arith, ap (sum_by n) (next_row xs i x here), sum_by-append n (x ∷ []) (drop (i + 1) xs))

pub sum_past : (n : ℕ → ℕ) (total i : ℕ) → total ≤ i → sum_by n (drop i (range_with_len 0 total)) ≡ 0
sum_past n total i done = at_drop_all (sum_by n) (range_with_len 0 total) i (omega (arith, done, length-range_with_len 0 total))

-- at the end of the walk
pub walked : {X A : Type 0} (f : List X → List A) (xs : List X) (i : ℕ) (so_far whole : List A) → f [] ≡ [] → length xs ≤ i
    → so_far ++ f (drop i xs) ≡ whole → so_far ≡ whole
walked f xs i so_far whole none done is = sym (append-nil so_far) ∙ ap (λ rest. so_far ++ rest) (sym (at_drop_all f xs i done ∙ none)) ∙ is

pub range_walked : {A : Type 0} (f : List ℕ → List A) (n i : ℕ) (so_far whole : List A) → f [] ≡ [] → n ≤ i
    → so_far ++ f (drop i (range_with_len 0 n)) ≡ whole → so_far ≡ whole
range_walked f n i so_far whole none done is =
    walked f (range_with_len 0 n) i so_far whole none (omega (arith, length-range_with_len 0 n)) is

pub rows_walked : {X A : Type 0} (f : List (ℕ × X) → List A) (xs : List X) (i : ℕ) (so_far whole : List A) → f [] ≡ [] → length xs ≤ i
    → so_far ++ f (drop i (enumerate_from 0 xs)) ≡ whole → so_far ≡ whole
rows_walked f xs i so_far whole none done is =
    walked f (enumerate_from 0 xs) i so_far whole none (omega (arith, length-enumerate_from 0 xs)) is
