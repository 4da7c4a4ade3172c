-- The volumes that stay, by their new numbers.
use Rattle.std.proofs.Common.{◌≡◌, ℕ, zero, suc, ◌+◌, Bool, true, false, cond, List, [], ◌∷◌, ◌++◌, length, map, Some, inl, refl, sym, ap}
use Rattle.std.proofs.Common.{◌∙◌, length-append, arith}
use Rattle.std.specs.Prelude.{filter, slice_get}
use Rattle.std.specs.List.{range_with_len}
use Rattle.std.proofs.lemmas.List.Elements.{filter-append}
use Rattle.meta_model.specs.declared.lv.Lv.{Lv}
use Rattle.group_edits.proofs.Selections.{AreSome, some_skip}
use Rattle.group_edits.specs.Removing.{number_after, on_after, that_stay}
use Rattle.group_edits.specs.Renumbered.{renumbered_row}

range_next : (a n : ℕ) → range_with_len a (suc n) ≡ range_with_len a n ++ (a + n) ∷ []
range_next a zero = ap (λ (x : ℕ). x ∷ []) (let e : a ≡ a + 0 = omega arith in e)
range_next a (suc n) =
    ap (λ (xs : List ℕ). a ∷ xs) (range_next (a + 1) n)
    ∙ ap (λ (x : ℕ). a ∷ (range_with_len (a + 1) n ++ x ∷ [])) (let e : a + 1 + n ≡ a + suc n = omega arith in e)

module _ (stays : ℕ → Bool) where
  abbrev pub new : ℕ → ℕ
  new lv = number_after stays lv

  -- the next volume's number
  next : (n : ℕ) → new (suc n) ≡ new n + length (cond (stays n) (n ∷ []) [])
  next n =
      ap (λ (xs : List ℕ). length (filter stays xs)) (range_next 0 n)
      ∙ ap length (filter-append stays (range_with_len 0 n) ((0 + n) ∷ []))
      ∙ length-append (filter stays (range_with_len 0 n)) (filter stays ((0 + n) ∷ []))
      ∙ ap (λ (m : ℕ). new n + length (cond (stays m) (m ∷ []) [])) (let e : 0 + n ≡ n = omega arith in e)

  pub next_staying : (n : ℕ) → stays n ≡ true → new (suc n) ≡ new n + 1
  next_staying n is = next n ∙ ap (λ (b : Bool). new n + length (cond b (n ∷ []) [])) is

  pub next_going : (n : ℕ) → stays n ≡ false → new (suc n) ≡ new n
  next_going n is = next n ∙ ap (λ (b : Bool). new n + length (cond b (n ∷ []) [])) is ∙ (let e : new n + 0 ≡ new n = omega arith in e)

  -- ---- rows

  -- those that stay of these, the first of which has this number
  abbrev pub rows_after : ℕ → List (List ℕ × Lv) → List (List ℕ × Lv)
  rows_after n rows = map (renumbered_row (on_after stays)) (that_stay stays n rows)

  pub rows_staying : (n : ℕ) (row : List ℕ × Lv) (rows : List (List ℕ × Lv)) → stays n ≡ true
      → rows_after n (row ∷ rows) ≡ renumbered_row (on_after stays) row ∷ rows_after (n + 1) rows
  rows_staying n row rows is =
      ap (λ (b : Bool). map (renumbered_row (on_after stays)) (cond b (row ∷ that_stay stays (n + 1) rows) (that_stay stays (n + 1) rows)))
      is

  pub rows_going : (n : ℕ) (row : List ℕ × Lv) (rows : List (List ℕ × Lv)) → stays n ≡ false
      → rows_after n (row ∷ rows) ≡ rows_after (n + 1) rows
  rows_going n row rows is =
      ap (λ (b : Bool). map (renumbered_row (on_after stays)) (cond b (row ∷ that_stay stays (n + 1) rows) (that_stay stays (n + 1) rows)))
      is

  -- ---- places

  -- how many of so many from n on stay: from 0 on it is the new number
  abbrev counted : ℕ → ℕ → ℕ
  counted n k = length (filter stays (range_with_len n k))

  module _ {A : Type 0} where
    stay_at_from : (n k : ℕ) (items : List A) (item : A) → slice_get items k ≡ Some item → stays (n + k) ≡ true
        → slice_get (that_stay stays n items) (counted n k) ≡ Some item
    stay_at_from n k [] item is stayed = absurd cc
    stay_at_from n zero (x ∷ items) item is stayed =
        ap (λ (b : Bool). slice_get (cond b (x ∷ that_stay stays (n + 1) items) (that_stay stays (n + 1) items)) 0)
        (ap stays (let e : n ≡ n + 0 = omega arith in e) ∙ stayed) ∙ is
    stay_at_from n (suc k) (x ∷ items) item is stayed =
        by (stays n)
        (stay_at_from (n + 1) k items item is (ap stays (let e : n + 1 + k ≡ n + suc k = omega arith in e) ∙ stayed)) where
          rest : List A
          rest = that_stay stays (n + 1) items

          others : List ℕ
          others = filter stays (range_with_len (n + 1) k)

          by : (b : Bool) → slice_get rest (length others) ≡ Some item
              → slice_get (cond b (x ∷ rest) rest) (length (cond b (n ∷ others) others)) ≡ Some item
          by true later = later
          by false later = later

    stay_from_from : (n m : ℕ) (items : List A) (item : A) → slice_get (that_stay stays n items) m ≡ Some item
        → (k : ℕ) × (slice_get items k ≡ Some item) × (stays (n + k) ≡ true) × (counted n k ≡ m)
    stay_from_from n m [] item is = absurd cc
    stay_from_from n m (x ∷ items) item is = by (stays n) refl m is (λ j at. stay_from_from (n + 1) j items item at) where
      rest : List A
      rest = that_stay stays (n + 1) items

      by : (b : Bool) → stays n ≡ b → (j : ℕ) → slice_get (cond b (x ∷ rest) rest) j ≡ Some item
          → ((i : ℕ) → slice_get rest i ≡ Some item
          → (k : ℕ) × (slice_get items k ≡ Some item) × (stays (n + 1 + k) ≡ true) × (counted (n + 1) k ≡ i))
          → (k : ℕ) × (slice_get (x ∷ items) k ≡ Some item) × (stays (n + k) ≡ true) × (counted n k ≡ j)
      by true first zero at later = (0, at, ap stays (let e : n + 0 ≡ n = omega arith in e) ∙ first, refl)
      by true first (suc j) at later =
          let old = later j at in
          let others : List ℕ = filter stays (range_with_len (n + 1) old.0) in (
            suc old.0,
            old.1,
            ap stays (let e : n + suc old.0 ≡ n + 1 + old.0 = omega arith in e) ∙ old.2,
            ap (λ (b : Bool). length (cond b (n ∷ others) others)) first ∙ ap suc old.3,
          )
      by false first j at later =
          let old = later j at in
          let others : List ℕ = filter stays (range_with_len (n + 1) old.0) in (
            suc old.0,
            old.1,
            ap stays (let e : n + suc old.0 ≡ n + 1 + old.0 = omega arith in e) ∙ old.2,
            ap (λ (b : Bool). length (cond b (n ∷ others) others)) first ∙ old.3,
          )

    -- those that stay are some of them
    pub some_stay : (n : ℕ) (items : List A) → AreSome (that_stay stays n items) items
    some_stay n [] = tt
    some_stay n (x ∷ items) = by (stays n) (some_stay (n + 1) items) where
      by : (b : Bool) → AreSome (that_stay stays (n + 1) items) items
          → AreSome (cond b (x ∷ that_stay stays (n + 1) items) (that_stay stays (n + 1) items)) (x ∷ items)
      by true later = inl (refl, later)
      by false later = some_skip x (that_stay stays (n + 1) items) items later

    -- one that stays stands at its new number
    pub stay_at : (k : ℕ) (items : List A) (item : A) → slice_get items k ≡ Some item → stays k ≡ true
        → slice_get (that_stay stays 0 items) (new k) ≡ Some item
    stay_at k items item is stayed = stay_at_from 0 k items item is (ap stays (let e : 0 + k ≡ k = omega arith in e) ∙ stayed)

    -- and what stands there is one that stays
    pub stay_from : (m : ℕ) (items : List A) (item : A) → slice_get (that_stay stays 0 items) m ≡ Some item
        → (k : ℕ) × (slice_get items k ≡ Some item) × (stays k ≡ true) × (new k ≡ m)
    stay_from m items item is =
        let old = stay_from_from 0 m items item is in
        (old.0, old.1, ap stays (let e : old.0 ≡ 0 + old.0 = omega arith in e) ∙ old.2, old.3)

  some_counted : (n b : ℕ) → stays n ≡ true → 0 ≡ counted n (suc b) → ⊥
  some_counted n b is none =
      let others : List ℕ = filter stays (range_with_len (n + 1) b) in
      let e : counted n (suc b) ≡ suc (length others) = ap (λ (t : Bool). length (cond t (n ∷ others) others)) is in
      omega (arith, none, e)

  counted_apart : (n a b : ℕ) → stays (n + a) ≡ true → stays (n + b) ≡ true → counted n a ≡ counted n b → a ≡ b
  counted_apart n zero zero first second same = refl
  counted_apart n zero (suc b) first second same =
      absurd (some_counted n b (ap stays (let e : n ≡ n + 0 = omega arith in e) ∙ first) same)
  counted_apart n (suc a) zero first second same =
      absurd (some_counted n a (ap stays (let e : n ≡ n + 0 = omega arith in e) ∙ second) (sym same))
  counted_apart n (suc a) (suc b) first second same =
      ap suc (counted_apart (n + 1) a b (ap stays (let e : n + 1 + a ≡ n + suc a = omega arith in e) ∙ first)
      (ap stays (let e : n + 1 + b ≡ n + suc b = omega arith in e) ∙ second) (by (stays n) same))
    where
      xs : List ℕ
      xs = filter stays (range_with_len (n + 1) a)

      ys : List ℕ
      ys = filter stays (range_with_len (n + 1) b)

      by : (t : Bool) → length (cond t (n ∷ xs) xs) ≡ length (cond t (n ∷ ys) ys) → length xs ≡ length ys
      by true equal = omega (arith, equal)
      by false equal = equal

  -- volumes that stay have different new numbers
  pub new_apart : (a b : ℕ) → stays a ≡ true → stays b ≡ true → new a ≡ new b → a ≡ b
  new_apart a b first second same =
      counted_apart 0 a b (ap stays (let e : 0 + a ≡ a = omega arith in e) ∙ first)
      (ap stays (let e : 0 + b ≡ b = omega arith in e) ∙ second) same
