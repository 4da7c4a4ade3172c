-- Walks along the rows of a table.
use Rattle.std.proofs.Common.{◌≡◌, ℕ, ◌+◌, ◌<◌, ◌≤◌, List, length, get_or, take, slice_get, Some, All, sum_by, sym, subst, ap, ◌∙◌}
use Rattle.std.proofs.lemmas.List.{take_all}
use Rattle.std.proofs.lemmas.List.Sums.{sum_by_more, sum_by_more_le}
use Rattle.std.proofs.lemmas.List.Elements.{All-more, All-get_or}
use Rattle.std.proofs.lemmas.Option.{slice_get_within, get_or_from_slice_get}

-- one row more
pub all_more : {A : Type 0} (P : A → Type 0) (rows : List A) (at : ℕ) (row : A) → All P (take at rows) → slice_get rows at ≡ Some row
    → P row → All P (take (at + 1) rows)
all_more P rows at row before is here =
    All-more P rows at row (slice_get_within rows at row is) before (subst P (sym (get_or_from_slice_get rows at row row is)) here)

-- all of them
pub all_seen : {A : Type 0} (P : A → Type 0) (rows : List A) (at : ℕ) → All P (take at rows) → length rows ≤ at → All P rows
all_seen P rows at before done = subst (All P) (take_all at rows done) before

-- a row of them
pub row_of_all : {A : Type 0} (P : A → Type 0) (rows : List A) (at : ℕ) (row : A) → slice_get rows at ≡ Some row → All P rows → P row
row_of_all P rows at row is all =
    subst P (get_or_from_slice_get rows at row row is) (All-get_or P rows at row (slice_get_within rows at row is) all)

-- the same, of a list whose items are lent
pub all_more_read : {A : Type 0} (P : A → Type 0) (items : List A) (at : ℕ) (item : A) → All P (take at items) → at < length items
    → item ≡ get_or items at item → P item → All P (take (at + 1) items)
all_more_read P items at item before within is here = All-more P items at item within before (subst P is here)

pub item_of_all : {A : Type 0} (P : A → Type 0) (items : List A) (at : ℕ) (item : A) → at < length items → item ≡ get_or items at item
    → All P items → P item
item_of_all P items at item within is all = subst P (sym is) (All-get_or P items at item within all)

-- a sum over the rows so far and the next one
pub sum_more : {A : Type 0} (f : A → ℕ) (rows : List A) (at : ℕ) (row : A) → slice_get rows at ≡ Some row
    → sum_by f (take (at + 1) rows) ≡ sum_by f (take at rows) + f row
sum_more f rows at row is =
    sum_by_more f rows at row (slice_get_within rows at row is)
    ∙ ap (λ x. sum_by f (take at rows) + f x) (get_or_from_slice_get rows at row row is)

pub sum_so_far : {A : Type 0} (f : A → ℕ) (rows : List A) (at : ℕ) (row : A) → slice_get rows at ≡ Some row
    → sum_by f (take at rows) + f row ≤ sum_by f rows
sum_so_far f rows at row is =
    subst (λ x. sum_by f (take at rows) + f x ≤ sum_by f rows) (get_or_from_slice_get rows at row row is)
    (sum_by_more_le f rows at row (slice_get_within rows at row is))
