-- Items whose keys rise: what a binary search among them says of the first that has a key.
use Rattle.std.proofs.Common.{◌≡◌, ◌≤◌, ◌<◌, ℕ, ◌+◌, Bool, true, false, cond, nat_eq, nat_lt, List, length, get_or, None, Some, Ok, Err}
use Rattle.std.proofs.Common.{AllPairs, find, inl, inr, position, slice_get, refl, sym, ap, subst, ◌∙◌, arith}
use Rattle.std.specs.Cmp.{ranks}
use Rattle.std.specs.List.{position_or_len}
use Rattle.std.specs.List.Sorted.{IsBinarySearchResult, IsSearchInRange}
use Rattle.std.specs.Ordering.{MatchOrdering, is_lt, nat_cmp}
use Rattle.std.specs.declared.cmp.Ordering.{Ordering}
use Rattle.std.specs.declared.cmp.Ordering.TheVariants.{Less, Equal, Greater}
use Rattle.std.proofs.lemmas.Bool.{cases_lt, eq-eqb, le-ltb, lt-ltb, ne_eqb}
use Rattle.std.proofs.lemmas.Cmp.{nat_cmp_total}
use Rattle.std.proofs.lemmas.List.Folds.{find_at}
use Rattle.std.proofs.lemmas.List.Sorted.{searchable_from_sorted}
use Rattle.std.proofs.lemmas.List.Sums.{position_or_len_is}
use Rattle.std.proofs.lemmas.Option.{slice_get-get_or, slice_get_past}

-- a number isn't below one that is no larger
not_below : (a b : ℕ) → b ≤ a → is_lt (nat_cmp a b) ≡ false
not_below a b le =
    ap (λ (t : Bool). is_lt (cond t Less (cond (nat_eq a b) Equal Greater))) (le-ltb a b le)
    ∙ (elim (nat_eq a b) as (λ t. is_lt (cond t Equal Greater) ≡ false) [ true ↦ refl | false ↦ refl ])

equal_from : (a k : ℕ) → nat_cmp a k ≡ Equal → a ≡ k
equal_from a k is = subst (λ (o : Ordering). MatchOrdering o (a < k) (a ≡ k) (k < a)) is (ranks a k)

below_from : (a k : ℕ) → nat_cmp a k ≡ Less → a < k
below_from a k is = subst (λ (o : Ordering). MatchOrdering o (a < k) (a ≡ k) (k < a)) is (ranks a k)

above_from : (a k : ℕ) → nat_cmp a k ≡ Greater → k < a
above_from a k is = subst (λ (o : Ordering). MatchOrdering o (a < k) (a ≡ k) (k < a)) is (ranks a k)

module _ {X : Type 0} (key : X → ℕ) where
  abbrev pub Rise : List X → Type 0
  Rise xs = AllPairs (λ (x y : X). key x < key y) xs

  -- whether it has the key
  abbrev pub has_key : ℕ → X → Bool
  has_key k x = nat_eq (key x) k

  -- the place where a search found the key
  found_place : (xs : List X) (k i : ℕ) (d : X) → Rise xs → i < length xs → key (get_or xs i d) ≡ k
      → position_or_len (has_key k) xs ≡ i
  found_place xs k i d rise within is =
      position_or_len_is (has_key k) xs i d (omega arith)
      (λ j lt. ne_eqb (key (get_or xs j d)) k (λ same. let less : key (get_or xs j d) < key (get_or xs i d) = rise j i d lt within in
      omega (arith, less, is, same)))
      (λ h. eq-eqb (key (get_or xs i d)) k is)

  -- none has it, where a search found a place between others
  no_place : (xs : List X) (k i : ℕ) (d : X) → Rise xs → IsBinarySearchResult (λ (y : X). nat_cmp (key y) k) xs (Err i)
      → position_or_len (has_key k) xs ≡ length xs
  no_place xs k i d rise searched =
      let parted =
      searched (searchable_from_sorted nat_cmp_total key xs k
      (λ a e low high. not_below (key (get_or xs (a + 1) e)) (key (get_or xs a e))
      (let less : key (get_or xs a e) < key (get_or xs (a + 1) e) = rise a (a + 1) e (omega arith) high in omega (arith, less)))) in
      position_or_len_is (has_key k) xs (length xs) d (omega arith)
      (λ j lt. ne_eqb (key (get_or xs j d)) k (λ same. elim (cases_lt j i) [
        | inl low ↦
            let less : key (get_or xs j d) < k = below_from (key (get_or xs j d)) k (parted.0 j d (omega arith) low) in
            omega (arith, less, same)
        | inr high ↦
            let more : k < key (get_or xs j d) = above_from (key (get_or xs j d)) k (parted.1 j d high lt) in
            omega (arith, more, same)
      ]))
      (λ h. absurd (omega (arith, h)))

  -- what is found and where, by the place of the first
  pub found_first : (xs : List X) (k i : ℕ) (d : X) → Rise xs → IsBinarySearchResult (λ (y : X). nat_cmp (key y) k) xs (Ok i)
      → IsSearchInRange (Ok i) (length xs)
      → (find (has_key k) xs ≡ Some (get_or xs i d)) × (position (has_key k) xs ≡ Some i)
  found_first xs k i d rise searched within =
      let place : position_or_len (has_key k) xs ≡ i =
      found_place xs k i d rise within (equal_from (key (get_or xs i d)) k (searched d)) in (
        find_at (has_key k) xs ∙ ap (slice_get xs) place ∙ slice_get-get_or xs i d within,
        ap (λ (n : ℕ). cond (nat_lt n (length xs)) (Some n) None) place
            ∙ ap (λ (b : Bool). cond b (Some i) None) (lt-ltb i (length xs) within),
      )

  pub found_none : (xs : List X) (k i : ℕ) (d : X) → Rise xs → IsBinarySearchResult (λ (y : X). nat_cmp (key y) k) xs (Err i)
      → (find (has_key k) xs ≡ None) × (position (has_key k) xs ≡ None)
  found_none xs k i d rise searched =
      let place : position_or_len (has_key k) xs ≡ length xs = no_place xs k i d rise searched in (
        find_at (has_key k) xs ∙ ap (slice_get xs) place ∙ slice_get_past xs (length xs) (omega arith),
        ap (λ (n : ℕ). cond (nat_lt n (length xs)) (Some n) None) place
            ∙ ap (λ (b : Bool). cond b (Some (length xs)) None) (le-ltb (length xs) (length xs) (omega arith)),
      )

  -- the same of a slice of a list, by the item that was read
  pub item_found : (slice xs : List X) (k i : ℕ) (x : X) → slice ≡ xs → Rise xs
      → IsBinarySearchResult (λ (y : X). nat_cmp (key y) k) slice (Ok i)
      → IsSearchInRange (Ok i) (length slice)
      → x ≡ get_or xs i x
      → (find (has_key k) xs ≡ Some x) × (position (has_key k) xs ≡ Some i) × (slice_get xs i ≡ Some x)
  item_found slice xs k i x same rise searched within is =
      let searched' : IsBinarySearchResult (λ (y : X). nat_cmp (key y) k) xs (Ok i) =
      subst (λ (l : List X). IsBinarySearchResult (λ (y : X). nat_cmp (key y) k) l (Ok i)) same searched in
      let within' : i < length xs = subst (λ (l : List X). i < length l) same within in
      let found = found_first xs k i x rise searched' within' in
      (found.0 ∙ ap Some (sym is), found.1, slice_get-get_or xs i x within' ∙ ap Some (sym is))

  pub item_wanting : (slice xs : List X) (k i : ℕ) (d : X) → slice ≡ xs → Rise xs
      → IsBinarySearchResult (λ (y : X). nat_cmp (key y) k) slice (Err i)
      → (find (has_key k) xs ≡ None) × (position (has_key k) xs ≡ None)
  item_wanting slice xs k i d same rise searched =
      found_none xs k i d rise (subst (λ (l : List X). IsBinarySearchResult (λ (y : X). nat_cmp (key y) k) l (Err i)) same searched)
