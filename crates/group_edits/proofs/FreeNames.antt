-- The name of a new physical volume is a name that no volume has.
use Rattle.std.proofs.Common.{◌≡◌, ◌≢◌, ◌≤◌, ◌<◌, ℕ, zero, suc, ◌+◌, ◌^◌, Bool, true, false, not, ◌||◌, cond, List, [], ◌∷◌, ◌++◌, drop}
use Rattle.std.proofs.Common.{length, get_or, map, Option, Some, None, refl, sym, ap, ◌∙◌, length-append, ⊎_elim, eq-or-lt_of_le, arith}
use Rattle.std.specs.Prelude.{◌==◌, nat_eq, nat_le, find, unwrap_or, codes}
use Rattle.std.specs.Char.{is_ascii_digit}
use Rattle.std.specs.Fmt.{decimal}
use Rattle.std.specs.List.{AllByRecursion as Each, IsDistinct, list_all, list_any, position, position_from, range_with_len}
use Rattle.std.specs.Cmp.Lexicographic.{nat_list_eq_equiv, pointwise, same_text}
use Rattle.std.proofs.lemmas.Bool.{and_parts, cases_eq, cases_order, false_from_ne_true, le-leb, ne_eqb, not-true, true≢false}
use Rattle.std.proofs.lemmas.Fmt.{decimal_injective, length-decimal-le}
use Rattle.std.proofs.lemmas.Iterator.Adapters.{position_from-zero}
use Rattle.std.proofs.lemmas.List.FromFn.{get_or-map-range_with_len, length-map-range_with_len}
use Rattle.std.proofs.lemmas.List.{drop_more, length-map}
use Rattle.std.proofs.lemmas.List.Folds.{list_any-append}
use Rattle.std.proofs.lemmas.Map.Keys.{IsDistinct-from_apart}
use Rattle.std.proofs.lemmas.Map.Made.{length-le_from_is_member}
use Rattle.std.proofs.lemmas.Option.{same_Some}
use Rattle.lvm_name.specs.Names.{any_name_refusal, is_among, is_name_byte}
use Rattle.meta_model.specs.Tables.{names_of}
use Rattle.meta_model.specs.declared.lv.Lv.{Lv}
use Rattle.meta_model.specs.declared.pv.Pv.{Pv}
use Rattle.meta_print.proofs.Numbered.{decimal_digits}
use Rattle.group_edits.specs.JoinedGroup.{free_number, is_free, names_in, pv_name, with_pvs}

-- ---- which numbers are free

-- where no element passes, each fails
none_found : {X : Type 0} (p : X → Bool) (xs : List X) → find p xs ≡ None → Each (λ x. p x ≡ false) xs
none_found p [] none = tt
none_found p (x ∷ xs) none = step (p x) refl none (none_found p xs)
  where
    step : (b : Bool) → p x ≡ b → cond b (Some x) (find p xs) ≡ None → (find p xs ≡ None → Each (λ y. p y ≡ false) xs)
        → (p x ≡ false) × Each (λ y. p y ≡ false) xs
    step true is none later = absurd cc
    step false is none later = (is, later none)

-- each number is below the end
module _ (end : ℕ) where
  below_by : (p : ℕ → Bool) (a : ℕ) (b : Bool) (n k : ℕ) → a + suc n ≤ end → p a ≡ b
      → (find p (range_with_len (a + 1) n) ≡ Some k → (k < end) × (p k ≡ true))
      → cond b (Some a) (find p (range_with_len (a + 1) n)) ≡ Some k
      → (k < end) × (p k ≡ true)
  below_by p a true n k room is later found = let same : a ≡ k = same_Some a k found in (omega (arith, same), ap p (sym same) ∙ is)
  below_by p a false n k room is later found = later found

  pub found_below : (p : ℕ → Bool) (a n k : ℕ) → a + n ≤ end → find p (range_with_len a n) ≡ Some k → (k < end) × (p k ≡ true)
  found_below p a zero k room found = absurd cc
  found_below p a (suc n) k room found = below_by p a (p a) n k room refl (λ later. found_below p (a + 1) n k (omega arith) later) found

names_differ : (m n : ℕ) → m < 2 ^ 64 → n < 2 ^ 64 → m ≢ n → pointwise nat_eq (pv_name m) (pv_name n) ≡ false
names_differ m n first second differ =
    false_from_ne_true (pointwise nat_eq (pv_name m) (pv_name n))
    (λ e. differ (decimal_injective m n first second (same_text (decimal m) (decimal n) (sym e))))

distinct : (count : ℕ) → count < 2 ^ 64 → IsDistinct (pointwise nat_eq) (map pv_name (range_with_len 0 count))
distinct count small =
    IsDistinct-from_apart (pointwise nat_eq) (map pv_name (range_with_len 0 count)) (λ i j d before within.
    let long : length (map pv_name (range_with_len 0 count)) ≡ count = length-map-range_with_len pv_name 0 count in
    let at_i : get_or (map pv_name (range_with_len 0 count)) i d ≡ pv_name i =
    get_or-map-range_with_len pv_name 0 count i i d (omega arith) (omega arith) in
    let at_j : get_or (map pv_name (range_with_len 0 count)) j d ≡ pv_name j =
    get_or-map-range_with_len pv_name 0 count j j d (omega arith) (omega arith) in
    ap (λ (x : List ℕ). pointwise nat_eq x (get_or (map pv_name (range_with_len 0 count)) j d)) at_i
    ∙ ap (pointwise nat_eq (pv_name i)) at_j
    ∙ names_differ i j (omega arith) (omega arith) (λ e. omega (arith, e)))

-- what holds of each name holds of one that is among them
member_by : (names : List (List ℕ)) (q x : List ℕ) (xs : List (List ℕ)) (b : Bool) → pointwise nat_eq q x ≡ b → is_among names x ≡ true
    → (list_any (pointwise nat_eq q) xs ≡ true → is_among names q ≡ true)
    → (b || list_any (pointwise nat_eq q) xs) ≡ true → is_among names q ≡ true
member_by names q x xs true is here later any = ap (is_among names) (same_text q x (sym is)) ∙ here
member_by names q x xs false is here later any = later any

all_members : (names xs : List (List ℕ)) (q : List ℕ) → Each (λ x. is_among names x ≡ true) xs → list_any (pointwise nat_eq q) xs ≡ true
    → is_among names q ≡ true
all_members names [] q all any = absurd (true≢false (sym any))
all_members names (x ∷ xs) q all any = member_by names q x xs (pointwise nat_eq q x) refl all.0 (all_members names xs q all.1) any

taken : (b : Bool) → not b ≡ false → b ≡ true
taken true is = refl
taken false is = absurd (true≢false is)

taken_names : (names : List (List ℕ)) (ns : List ℕ) → Each (λ n. is_free names n ≡ false) ns
    → Each (λ x. is_among names x ≡ true) (map pv_name ns)
taken_names names [] all = tt
taken_names names (n ∷ ns) all = (taken (is_among names (pv_name n)) all.0, taken_names names ns all.1)

-- so many names can't all be taken
free_by : (names : List (List ℕ)) (o : Option ℕ) → length names + 1 < 2 ^ 64
    → find (is_free names) (range_with_len 0 (length names + 1)) ≡ o
    → (unwrap_or o 0 < length names + 1) × (is_free names (unwrap_or o 0) ≡ true)
free_by names (Some n) small is = found_below (length names + 1) (is_free names) 0 (length names + 1) n (omega arith) is
free_by names None small is =
    let all : Each (λ x. is_among names x ≡ true) (map pv_name (range_with_len 0 (length names + 1))) =
    taken_names names (range_with_len 0 (length names + 1)) (none_found (is_free names) (range_with_len 0 (length names + 1)) is) in
    let many : length (map pv_name (range_with_len 0 (length names + 1))) ≤ length names =
    length-le_from_is_member nat_list_eq_equiv (map pv_name (range_with_len 0 (length names + 1))) names (distinct (length names + 1) small)
    (λ q any. all_members names (map pv_name (range_with_len 0 (length names + 1))) q all any)
    in
    absurd (omega (arith, many, length-map-range_with_len pv_name 0 (length names + 1)))

pub free : (names : List (List ℕ)) → length names + 1 < 2 ^ 64
    → (free_number names < length names + 1) × (is_among names (pv_name (free_number names)) ≡ false)
unfolding free_number
free names small =
    let found = free_by names (find (is_free names) (range_with_len 0 (length names + 1))) small refl in
    (found.0, not-true (is_among names (pv_name (free_number names))) found.1)

-- ---- names

digit_may : (b : ℕ) → is_ascii_digit b ≡ true → is_name_byte b ≡ true
digit_may b is = rw is refl

-- no digit is refused
none_refused : (i : ℕ) (bs : List ℕ) → list_all is_ascii_digit bs ≡ true → position_from (λ b. not (is_name_byte b)) i bs ≡ None
none_refused i [] all = refl
none_refused i (b ∷ bs) all =
    let parts : (is_ascii_digit b ≡ true) × (list_all is_ascii_digit bs ≡ true) =
    and_parts (is_ascii_digit b) (list_all is_ascii_digit bs) all in
    rw (digit_may b parts.0, none_refused (i + 1) bs parts.1) refl

letters_may : (bs : List ℕ) → position_from (λ b. not (is_name_byte b)) 2 bs ≡ None
    → position_from (λ b. not (is_name_byte b)) 0 (codes "pv" ++ bs) ≡ None
letters_may bs none = none

named_by : (bs : List ℕ) → length bs ≤ 20 → position (λ b. not (is_name_byte b)) (codes "pv" ++ bs) ≡ None
    → any_name_refusal (codes "pv" ++ bs) ≡ None
named_by bs short none =
    let some : (length (codes "pv" ++ bs) == 0) ≡ false = ne_eqb (length (codes "pv" ++ bs)) 0 (λ e. omega (arith, e)) in
    let few : nat_le (length (codes "pv" ++ bs)) 127 ≡ true = le-leb (length (codes "pv" ++ bs)) 127 (omega (arith, short)) in
    rw (some, few, none) refl

pub pv_name-named : (n : ℕ) → n < 2 ^ 64 → any_name_refusal (pv_name n) ≡ None
pv_name-named n small =
    named_by (decimal n) (length-decimal-le 20 n (omega arith) (omega (arith, small)) small)
    (position_from-zero (λ b. not (is_name_byte b)) (pv_name n)
    ∙ letters_may (decimal n) (none_refused 2 (decimal n) (decimal_digits n small)))

-- ---- the search for one

pub names_length : (pvs : List (List ℕ × Pv)) (lvs : List (List ℕ × Lv)) → length (names_in pvs lvs) ≡ length pvs + length lvs
names_length pvs lvs =
    length-append (names_of pvs) (names_of lvs)
    ∙ ap (λ (n : ℕ). n + length (names_of lvs)) (length-map pvs (λ (row : List ℕ × Pv). row.0))
    ∙ ap (λ (n : ℕ). length pvs + n) (length-map lvs (λ (row : List ℕ × Lv). row.0))

pub among_first : (xs ys : List (List ℕ)) (name : List ℕ) → is_among xs name ≡ true → is_among (xs ++ ys) name ≡ true
among_first xs ys name is = list_any-append (pointwise nat_eq name) xs ys ∙ ap (λ (b : Bool). b || is_among ys name) is

pub among_last : (xs ys : List (List ℕ)) (name : List ℕ) → is_among xs name ≡ false → is_among (xs ++ ys) name ≡ is_among ys name
among_last xs ys name other = list_any-append (pointwise nat_eq name) xs ys ∙ ap (λ (b : Bool). b || is_among ys name) other

-- no physical volume has the free name
pub free_not_taken : (pvs : List (List ℕ × Pv)) (lvs : List (List ℕ × Lv)) (name : List ℕ) → length pvs + length lvs < 2 ^ 32
    → name ≡ pv_name (free_number (names_in pvs lvs)) → is_among (names_of pvs) name ≡ true → ⊥
free_not_taken pvs lvs name few is taken =
    let names : List (List ℕ) = names_in pvs lvs in
    let other : is_among names (pv_name (free_number names)) ≡ false = (free names (omega (arith, few, names_length pvs lvs))).1 in
    true≢false (sym (among_first (names_of pvs) (names_of lvs) name taken) ∙ ap (is_among names) is ∙ other)

-- a name below the free one is taken
taken_by : (p : ℕ → Bool) (a n k : ℕ) (b : Bool) → p a ≡ b → cond b (Some a) (find p (range_with_len (a + 1) n)) ≡ Some k → (j : ℕ) → a ≤ j
    → j < k
    → (find p (range_with_len (a + 1) n) ≡ Some k → a + 1 ≤ j → p j ≡ false) → p j ≡ false
taken_by p a n k true is found j from below later = let same : a ≡ k = same_Some a k found in absurd (omega (arith, same, from, below))
taken_by p a n k false is found j from below later =
    ⊎_elim (λ here. ap p (sym here) ∙ is) (λ other. later found (omega (arith, from, other))) (cases_eq a j)

found_first : (p : ℕ → Bool) (a n k : ℕ) → find p (range_with_len a n) ≡ Some k → (j : ℕ) → a ≤ j → j < k → p j ≡ false
found_first p a zero k found j from below = absurd cc
found_first p a (suc n) k found j from below =
    taken_by p a n k (p a) refl found j from below (λ later next. found_first p (a + 1) n k later j next below)

below_free : (p : ℕ → Bool) (o : Option ℕ) (n : ℕ) → find p (range_with_len 0 n) ≡ o → (j : ℕ) → j < unwrap_or o 0 → p j ≡ false
below_free p None n found j below = absurd (omega (arith, below))
below_free p (Some k) n found j below = found_first p 0 n k found j (omega arith) below

pub taken_below : (names : List (List ℕ)) (j : ℕ) → j < free_number names → is_free names j ≡ false
unfolding free_number
taken_below names j below =
    below_free (is_free names) (find (is_free names) (range_with_len 0 (length names + 1))) (length names + 1) refl j below

-- a name that is free and at most the free one is this
pub free_here : (names : List (List ℕ)) (n : ℕ) (name : List ℕ) (b : Bool) → n ≤ free_number names → name ≡ pv_name n
    → b ≡ not (is_among names name) → b ≡ true → n ≡ free_number names
free_here names n name b from named told is =
    let passes : is_free names n ≡ true = ap (λ (x : List ℕ). not (is_among names x)) (sym named) ∙ sym told ∙ is in
    ⊎_elim (λ same. same) (λ below. absurd (true≢false (sym passes ∙ taken_below names n below))) (eq-or-lt_of_le from)

-- the free one lies behind one that isn't
pub free_past : (names : List (List ℕ)) (n : ℕ) (name : List ℕ) (b : Bool) → length names + 1 < 2 ^ 64 → n ≤ free_number names
    → name ≡ pv_name n → b ≡ not (is_among names name) → b ≡ false → n + 1 ≤ free_number names
free_past names n name b small from named told is =
    let other : is_free names n ≡ false = ap (λ (x : List ℕ). not (is_among names x)) (sym named) ∙ sym told ∙ is in
    ⊎_elim
    (λ same. absurd (true≢false (sym (ap not (free names small).1) ∙ ap (is_free names) (sym same) ∙ other)))
    (λ below. omega (arith, below))
    (eq-or-lt_of_le from)

-- ---- with one physical volume more

or_more : (b c d : Bool) → (c ≡ true → d ≡ true) → (b || c) ≡ true → (b || d) ≡ true
or_more true c d more is = refl
or_more false c d more is = more is

or_last : (b d : Bool) → d ≡ true → (b || d) ≡ true
or_last true d is = refl
or_last false d is = is

module _ (row : List ℕ × Pv) (lvs : List (List ℕ × Lv)) where
  still_among : (pvs : List (List ℕ × Pv)) (name : List ℕ) → is_among (names_in pvs lvs) name ≡ true
      → is_among (names_in (pvs ++ row ∷ []) lvs) name ≡ true
  still_among [] name is = or_last (pointwise nat_eq name row.0) (is_among (names_of lvs) name) is
  still_among (pv ∷ pvs) name is =
      or_more (pointwise nat_eq name pv.0) (is_among (names_in pvs lvs) name) (is_among (names_in (pvs ++ row ∷ []) lvs) name)
      (still_among pvs name) is

  own_among : (pvs : List (List ℕ × Pv)) → is_among (names_in (pvs ++ row ∷ []) lvs) row.0 ≡ true
  own_among [] = ap (λ (b : Bool). b || is_among (names_of lvs) row.0) (nat_list_eq_equiv.refl row.0)
  own_among (pv ∷ pvs) = or_last (pointwise nat_eq row.0 pv.0) (is_among (names_in (pvs ++ row ∷ []) lvs) row.0) (own_among pvs)

next_after : (pvs : List (List ℕ × Pv)) (lvs : List (List ℕ × Lv)) (pv : Pv) → length pvs + length lvs + 1 < 2 ^ 32
    → free_number (names_in pvs lvs) + 1 ≤ free_number (names_in (pvs ++ (pv_name (free_number (names_in pvs lvs)), pv) ∷ []) lvs)
next_after pvs lvs pv few =
    let last : ℕ = free_number (names_in pvs lvs) in
    let row : List ℕ × Pv = (pv_name last, pv) in
    let names : List (List ℕ) = names_in (pvs ++ row ∷ []) lvs in
    let next : ℕ = free_number names in
    let small : length names + 1 < 2 ^ 64 = omega (arith, few, names_length (pvs ++ row ∷ []) lvs, length-append pvs (row ∷ [])) in
    let other : is_among names (pv_name next) ≡ false = (free names small).1 in
    ⊎_elim
    (λ same. absurd (true≢false (sym (own_among row lvs pvs) ∙ ap (λ (n : ℕ). is_among names (pv_name n)) same ∙ other)))
    (⊎_elim
    (λ below. omega (arith, below))
    (λ above. absurd (true≢false (sym (still_among row lvs pvs (pv_name next)
    (taken (is_among (names_in pvs lvs) (pv_name next)) (taken_below (names_in pvs lvs) next above))) ∙ other))))
    (cases_order last next)

-- once a volume has the free name, the next one lies behind it
pub free_after : (pvs new : List (List ℕ × Pv)) (lvs : List (List ℕ × Lv)) (name : List ℕ) (pv : Pv) (number : ℕ)
    → length pvs + length lvs + 1 < 2 ^ 32
    → name ≡ pv_name (free_number (names_in pvs lvs)) → number ≡ free_number (names_in pvs lvs) → new ≡ pvs ++ (name, pv) ∷ []
    → number + 1 ≤ free_number (names_in new lvs)
free_after pvs new lvs name pv number few named last pushed =
    let is : new ≡ pvs ++ (pv_name (free_number (names_in pvs lvs)), pv) ∷ [] =
    pushed ∙ ap (λ (name : List ℕ). pvs ++ (name, pv) ∷ []) named in
    omega (arith, last, next_after pvs lvs pv few, ap (λ (rows : List (List ℕ × Pv)). free_number (names_in rows lvs)) is)

-- a volume that was pushed is one fewer to be joined
pub joined_next : (lvs : List (List ℕ × Lv)) (pvs new : List (List ℕ × Pv)) (all : List Pv) (i : ℕ) (own : Pv) (name : List ℕ) (pv : Pv)
    → i < length all → own ≡ get_or all i own → name ≡ pv_name (free_number (names_in pvs lvs)) → pv ≡ own → new ≡ pvs ++ (name, pv) ∷ []
    → with_pvs lvs new (drop (i + 1) all) ≡ with_pvs lvs pvs (drop i all)
joined_next lvs pvs new all i own name pv within is named made pushed =
    let row : (name, pv) ≡ (pv_name (free_number (names_in pvs lvs)), own) = λ j. (named j, made j) in
    ap (λ (rows : List (List ℕ × Pv)). with_pvs lvs rows (drop (i + 1) all))
    (pushed ∙ ap (λ (last : List ℕ × Pv). pvs ++ last ∷ []) row)
    ∙ ap (λ (first : Pv). with_pvs lvs pvs (first ∷ drop (i + 1) all)) is
    ∙ sym (ap (with_pvs lvs pvs) (drop_more all i own within))
