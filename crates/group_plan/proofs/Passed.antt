-- What the rows tell where none refuses.
use Rattle.std.proofs.Common.{◌≡◌, ◌≢◌, ◌≤◌, ℕ, ◌+◌, Bool, true, false, not, ◌||◌, ◌&&◌, ◌==◌, cond, eqb, ltb, List, [], ◌∷◌, Option, Some}
use Rattle.std.proofs.Common.{None, refl, sym, ap, ◌∙◌, map, ◌++◌}
use Rattle.std.specs.Prelude.{find, option_map}
use Rattle.std.specs.Option.{option_or}
use Rattle.std.specs.List.{AllByRecursion as Each}
use Rattle.std.specs.FinSet as set
use Rattle.std.specs.Cmp.{nat_cmp_total, unsigned_tied}
use Rattle.std.specs.Ordering.{nat_cmp}
use Rattle.std.proofs.lemmas.Bool.{eq-eqb, eqb-true, ltb-false, true≢false}
use Rattle.std.proofs.lemmas.List.Elements.{recursion_from_All}
use Rattle.std.specs.Str.{bytes_eq}
use Rattle.line_answers.specs.declared.op_refusal.OpRefusal.{OpRefusal}
use Rattle.pv_header.proofs.Overlaps.{All-from_find}
use Rattle.scan_rules.proofs.Scanning.{same_bytes_to}
use Rattle.group_plan.specs.Added.{data_end, data_start}
use Rattle.group_plan.specs.Judging.{first_used, is_small, many_row, small_row, used_row, set_of, with_all}
use Rattle.group_plan.specs.declared.added.AddedPv.{AddedPv}

-- ---- rows

pub no_map : {X Y : Type 0} (f : X → Y) (o : Option X) → option_map f o ≡ None → o ≡ None
no_map f None none = refl
no_map f (Some x) none = absurd cc

pub both_false : (a b : Bool) → (a || b) ≡ false → (a ≡ false) × (b ≡ false)
both_false true b none = absurd cc
both_false false b none = (refl, none)

-- five rows
pub five_none : (a b c d e : Option OpRefusal) → option_or a (option_or b (option_or c (option_or d (option_or e None)))) ≡ None
    → (a ≡ None) × (b ≡ None) × (c ≡ None) × (d ≡ None) × (e ≡ None)
five_none (Some x) b c d e none = absurd cc
five_none None (Some x) c d e none = absurd cc
five_none None None (Some x) d e none = absurd cc
five_none None None None (Some x) e none = absurd cc
five_none None None None None (Some x) none = absurd cc
five_none None None None None None none = (refl, refl, refl, refl, refl)

-- and one more before them
pub six_none : (a b c d e f : Option OpRefusal)
    → option_or a (option_or b (option_or c (option_or d (option_or e (option_or f None))))) ≡ None
    → (a ≡ None) × (b ≡ None) × (c ≡ None) × (d ≡ None) × (e ≡ None) × (f ≡ None)
six_none (Some x) b c d e f none = absurd cc
six_none None b c d e f none = let later = five_none b c d e f none in (refl, later.0, later.1, later.2, later.3, later.4)

-- ---- disks that are used

-- a number that isn't in a set with others isn't in the set, and is none of them
pub absent : (taken : set.FinSet nat_cmp) (numbers : List ℕ) (q : ℕ) → set.contains (with_all taken numbers) q ≡ false
    → (set.contains taken q ≡ false) × Each (λ n. n ≢ q) numbers
absent taken [] q none = (none, tt)
absent taken (n ∷ numbers) q none =
    let later : (set.contains (set.insert taken n) q ≡ false) × Each (λ m. m ≢ q) numbers = absent (set.insert taken n) numbers q none in
    let parts : ((q == n) ≡ false) × (set.contains taken q ≡ false) =
    both_false (q == n) (set.contains taken q)
    (ap (λ (b : Bool). b || set.contains taken q) (sym (unsigned_tied q n)) ∙ sym (set.contains-insert nat_cmp_total taken n q)
    ∙ later.0)
    in
    (parts.1, (differs n q parts.0, later.1))
  where
    differs : (n q : ℕ) → (q == n) ≡ false → n ≢ q
    differs n q other same = true≢false (sym (eq-eqb q n (sym same)) ∙ other)

abbrev pub DiskApart : AddedPv → AddedPv → Type 0
DiskApart a b = b.disk ≢ a.disk

abbrev pub DisksApart : List AddedPv → Type 0
DisksApart [] = Unit {0}
DisksApart (added ∷ more) = Each (DiskApart added) more × DisksApart more

abbrev pub IsUnused : set.FinSet nat_cmp → AddedPv → Type 0
IsUnused taken added = set.contains taken added.disk ≡ false

unused_later : (taken : set.FinSet nat_cmp) (added : AddedPv) (more : List AddedPv) → Each (IsUnused (set.insert taken added.disk)) more
    → Each (IsUnused taken) more × Each (DiskApart added) more
unused_later taken added [] all = (tt, tt)
unused_later taken added (other ∷ more) all =
    let here : (set.contains taken other.disk ≡ false) × Each (λ n. n ≢ other.disk) (added.disk ∷ []) =
    absent taken (added.disk ∷ []) other.disk all.0 in
    let later = unused_later taken added more all.1 in
    ((here.0, later.0), ((λ same. here.1.0 (sym same)), later.1))

used_by : (taken : set.FinSet nat_cmp) (added : AddedPv) (b : Bool) (more : List AddedPv) → set.contains taken added.disk ≡ b
    → cond b (Some added) (first_used (set.insert taken added.disk) more) ≡ None
    → (set.contains taken added.disk ≡ false) × (first_used (set.insert taken added.disk) more ≡ None)
used_by taken added true more is none = absurd cc
used_by taken added false more is none = (is, none)

pub unused : (taken : set.FinSet nat_cmp) (all : List AddedPv) → first_used taken all ≡ None → Each (IsUnused taken) all × DisksApart all
unused taken [] none = (tt, tt)
unused taken (added ∷ more) none =
    let here = used_by taken added (set.contains taken added.disk) more refl none in
    let later = unused (set.insert taken added.disk) more here.1 in
    let both = unused_later taken added more later.0 in
    ((here.0, both.0), (both.1, later.1))

-- ---- sizes and counts

fits_by : (extent_size : ℕ) (all : List AddedPv) → Each (λ added. is_small extent_size added ≡ false) all
    → Each (λ added. data_start added + extent_size ≤ data_end added) all
fits_by extent_size [] none = tt
fits_by extent_size (added ∷ more) none =
    (ltb-false (data_end added) (data_start added + extent_size) none.0, fits_by extent_size more none.1)

pub all_fit : (extent_size : ℕ) (all : List AddedPv) → small_row extent_size all ≡ None
    → Each (λ added. data_start added + extent_size ≤ data_end added) all
unfolding small_row
all_fit extent_size all none =
    fits_by extent_size all (recursion_from_All (λ added. is_small extent_size added ≡ false) all
    (All-from_find (is_small extent_size) all (no_map _ (find (is_small extent_size) all) none)))

many_by : (most limit count : ℕ) (a b c : Bool) (x y : OpRefusal) → ltb most count ≡ a → eqb limit 0 ≡ b → ltb limit count ≡ c
    → cond a (Some x) (cond (not b && c) (Some y) None) ≡ None → (count ≤ most) × (limit ≢ 0 → count ≤ limit)
many_by most limit count true b c x y is_a is_b is_c none = absurd cc
many_by most limit count false true c x y is_a is_b is_c none =
    (ltb-false most count is_a, λ other. absurd (other (eqb-true limit 0 is_b)))
many_by most limit count false false true x y is_a is_b is_c none = absurd cc
many_by most limit count false false false x y is_a is_b is_c none =
    (ltb-false most count is_a, λ other. ltb-false limit count is_c)

pub few_enough : (most limit count : ℕ) → many_row most limit count ≡ None → (count ≤ most) × (limit ≢ 0 → count ≤ limit)
unfolding many_row
few_enough most limit count none = many_by most limit count (ltb most count) (eqb limit 0) (ltb limit count) _ _ refl refl refl none

pub all_unused : (listed : List ℕ) (all : List AddedPv) → used_row listed all ≡ None → Each (IsUnused (set_of listed)) all × DisksApart all
unfolding used_row
all_unused listed all none = unused (set_of listed) all (no_map _ (first_used (set_of listed) all) none)

-- what isn't said to be the same isn't
pub not_same : (a b : List ℕ) → bytes_eq a b ≡ false → a ≢ b
not_same a b other same = true≢false (sym (same_bytes_to a b same) ∙ other)

pub ids_differ : {V : Type 0} (its : V → List ℕ) (id : List ℕ) (rows : List (List ℕ × V))
    → Each (λ (row : List ℕ × V). bytes_eq (its row.1) id ≡ false) rows
    → Each (λ other. other ≢ id) (map (λ (row : List ℕ × V). its row.1) rows)
ids_differ its id [] none = tt
ids_differ its id (row ∷ rows) none = (not_same (its row.1) id none.0, ids_differ its id rows none.1)

pub each_both : {X : Type 0} (P : X → Type 0) (xs ys : List X) → Each P xs → Each P ys → Each P (xs ++ ys)
each_both P [] ys first second = second
each_both P (x ∷ xs) ys first second = (first.0, each_both P xs ys first.1 second)
