-- The entries of a table are read, slot by slot.
use Rattle.std.proofs.Common.{◌≡◌, ◌≢◌, ◌≤◌, ◌<◌, ℕ, zero, suc, ◌+◌, ◌-◌, ◌*◌, ◌%◌, not, ◌==◌, ◌&&◌, ◌||◌, cond, Bool, true, false, nat_lt}
use Rattle.std.proofs.Common.{List, [], ◌∷◌, ◌++◌}
use Rattle.std.proofs.Common.{length, get_or, map, take, drop, set, replicate, Option, Some, None, is_some, refl, sym, ap, ◌∙◌, arith}
use Rattle.std.specs.List.{list_any, position_from, range_with_len, slice_get}
use Rattle.std.proofs.lemmas.Bool.Decides.{nat_tests}
use Rattle.std.proofs.lemmas.List.{append_assoc, append-nil, length-set, take_more, take_more_set, length-take-le}
use Rattle.std.proofs.lemmas.List.FromFn.{map-range_with_len_more}
use Rattle.cow_store.specs.Entries.{names, slot_of, with_chunk}
use Rattle.cow_store.specs.Layout.{entry_place}
use Rattle.cow_store.specs.Opening.{first_bad, is_bad}
use Rattle.cow_store.specs.Reading.{IsReadTo}
use Rattle.cow_store.proofs.GoodEntries.{first_good, free_good, good_more}
use Rattle.cow_store.proofs.Images.{same_on_range}
use Rattle.cow_store.proofs.Slots.{given_not_free, none_given}

-- whether a value is among others
abbrev is_among : ℕ → List ℕ → Bool
is_among entry before = list_any (λ other. other == entry) before

-- the first bad one behind entries that are good
bad_append : (chunks : ℕ) (before xs ys : List ℕ) → first_bad chunks before xs ≡ None
    → first_bad chunks before (xs ++ ys) ≡ first_bad chunks (before ++ xs) ys
bad_append chunks before [] ys good = ap (λ (l : List ℕ). first_bad chunks l ys) (sym (append-nil before))
bad_append chunks before (x ∷ xs) ys good =
    let h = first_good chunks before x xs good in
    ap (λ (b : Bool). cond b (Some (length before, x)) (first_bad chunks (before ++ x ∷ []) (xs ++ ys))) h.0
    ∙ bad_append chunks (before ++ x ∷ []) xs ys h.1
    ∙ ap (λ (l : List ℕ). first_bad chunks l ys) (append_assoc before (x ∷ []) xs)

-- a chunk has a slot where its entry stands before those that are free
names_front : (chunk first n m : ℕ) (xs : List ℕ) → drop n xs ≡ replicate m 0
    → is_some (position_from (names chunk) first xs) ≡ is_among (chunk + 1) (take n xs)
names_front chunk first zero m [] e = refl
names_front chunk first (suc n) m [] e = refl
names_front chunk first zero m (x ∷ xs) e =
    ap (λ (l : List ℕ). is_some (position_from (names chunk) first l)) e ∙ ap (λ (o : Option ℕ). is_some o) (none_given m chunk first)
names_front chunk first (suc n) m (x ∷ xs) e = by (x == chunk + 1) (names_front chunk (first + 1) n m xs e)
  where
    by : (b : Bool) → is_some (position_from (names chunk) (first + 1) xs) ≡ is_among (chunk + 1) (take n xs)
        → is_some (cond b (Some first) (position_from (names chunk) (first + 1) xs)) ≡ (b || is_among (chunk + 1) (take n xs))
    by true h = refl
    by false h = h

-- the first of the slots that are free
behind : (entries : List ℕ) (slot more : ℕ) → drop slot entries ≡ replicate (suc more) 0
    → (slice_get entries slot ≡ Some 0) × (get_or entries slot 0 ≡ 0) × (drop (suc slot) entries ≡ replicate more 0)
behind [] zero more e = absurd (let h : [] ≡ 0 ∷ replicate more 0 = e in cc)
behind [] (suc slot) more e = absurd (let h : [] ≡ 0 ∷ replicate more 0 = e in cc)
behind (x ∷ xs) zero more e =
    let h : x ∷ xs ≡ 0 ∷ replicate more 0 = e in
    let first : x ≡ 0 = cc in
    let others : xs ≡ replicate more 0 = cc in
    (ap (λ (n : ℕ). Some n) first, first, others)
behind (x ∷ xs) (suc slot) more e = behind xs slot more e

drop_set : (xs : List ℕ) (i y : ℕ) → drop (suc i) (set xs i y) ≡ drop (suc i) xs
drop_set [] i y = refl
drop_set (x ∷ xs) zero y = refl
drop_set (x ∷ xs) (suc i) y = drop_set xs i y

range_both : (f : ℕ → ℕ) (first n m : ℕ)
    → map f (range_with_len first (n + m)) ≡ map f (range_with_len first n) ++ map f (range_with_len (first + n) m)
range_both f first zero m =
    ap (λ (k : ℕ). map f (range_with_len first k)) (omega arith) ∙ ap (λ (k : ℕ). map f (range_with_len k m)) (omega arith)
range_both f first (suc n) m =
    ap (λ (k : ℕ). map f (range_with_len first k)) (let e : suc n + m ≡ suc (n + m) = omega arith in e)
    ∙ ap (λ (l : List ℕ). f first ∷ l) (range_both f (first + 1) n m)
    ∙ ap (λ (k : ℕ). f first ∷ (map f (range_with_len (first + 1) n) ++ map f (range_with_len k m))) (omega arith)

-- an entry is bad where its chunk is outside of the origin, or has a slot
pub bad_outside : (chunks chunk : ℕ) (b : Bool) → chunks ≤ chunk → (nat_lt chunks (chunk + 1) || b) ≡ true
bad_outside chunks chunk b out = let e : nat_lt chunks (chunk + 1) ≡ true = grind (arith, nat_tests) in ap (λ (t : Bool). t || b) e

pub bad_listed : (chunks chunk : ℕ) (b : Bool) → b ≡ true → (nat_lt chunks (chunk + 1) || b) ≡ true
bad_listed chunks chunk b e = ap (λ (t : Bool). nat_lt chunks (chunk + 1) || t) e ∙ by (nat_lt chunks (chunk + 1))
  where
    by : (t : Bool) → (t || true) ≡ true
    by true = refl
    by false = refl

module _ (chunks slot : ℕ) (read : ℕ → ℕ) (entries : List ℕ) (lt : slot < length entries) (r : IsReadTo chunks slot read entries) where
  next : (slice_get entries slot ≡ Some 0) × (get_or entries slot 0 ≡ 0)
      × (drop (suc slot) entries ≡ replicate (length entries - (slot + 1)) 0)
  next =
      let many : length entries - slot ≡ suc (length entries - (slot + 1)) = omega (arith, lt) in
      behind entries slot (length entries - (slot + 1)) (r.rest ∙ ap (λ (n : ℕ). replicate n 0) many)

  -- the next slot is free
  pub next_free : slice_get entries slot ≡ Some 0
  next_free = next.0

  -- one entry more that isn't bad
  more_read : (entry : ℕ) (after : List ℕ) → read slot ≡ entry → is_bad chunks (take slot entries) entry ≡ false
      → take (slot + 1) after ≡ take slot entries ++ entry ∷ [] → drop (suc slot) after ≡ drop (suc slot) entries
      → length after ≡ length entries → IsReadTo chunks (slot + 1) read after
  more_read entry after is fine front rest long = record {
    front =
        front
        ∙ ap (λ (l : List ℕ). l ++ entry ∷ []) r.front
        ∙ ap (λ (n : ℕ). map read (range_with_len 0 slot) ++ n ∷ []) (sym is)
        ∙ sym (map-range_with_len_more read 0 slot slot (omega arith));
    rest =
        ap (λ (n : ℕ). drop n after) (let e : slot + 1 ≡ suc slot = omega arith in e) ∙ rest ∙ next.2
        ∙ ap (λ (n : ℕ). replicate (n - (slot + 1)) 0) (sym long);
    good =
        ap (first_bad chunks []) front
        ∙ bad_append chunks [] (take slot entries) (entry ∷ []) r.good
        ∙ good_more chunks (take slot entries) entry [] fine refl;
  }

  -- a free one
  pub free_read : (entry : ℕ) → entry ≡ 0 → read slot ≡ entry → IsReadTo chunks (slot + 1) read entries
  free_read entry none is =
      more_read entry entries is (free_good chunks (take slot entries) entry none)
      (take_more entries slot 0 lt ∙ ap (λ (n : ℕ). take slot entries ++ n ∷ []) (next.1 ∙ sym none)) refl refl

  -- whether the next entry is bad
  is_listed : (chunk : ℕ) → is_some (slot_of entries chunk) ≡ is_among (chunk + 1) (take slot entries)
  is_listed chunk = names_front chunk 0 slot (length entries - slot) entries r.rest

  bad_by : (chunk : ℕ) → is_bad chunks (take slot entries) (chunk + 1) ≡ (nat_lt chunks (chunk + 1) || is_some (slot_of entries chunk))
  bad_by chunk =
      ap (λ (b : Bool). not b && (nat_lt chunks (chunk + 1) || is_among (chunk + 1) (take slot entries))) (given_not_free chunk)
      ∙ ap (λ (b : Bool). nat_lt chunks (chunk + 1) || b) (sym (is_listed chunk))

  -- one that has a chunk of its own
  pub given_read : (entry : ℕ) → entry ≢ 0 → entry - 1 < chunks → is_some (slot_of entries (entry - 1)) ≡ false → read slot ≡ entry
      → IsReadTo chunks (slot + 1) read (with_chunk entries slot (entry - 1))
  given_read entry some within new is =
      let chunk : ℕ = entry - 1 in
      let below : nat_lt chunks (chunk + 1) ≡ false = grind (arith, nat_tests) in
      let same : entry ≡ chunk + 1 = whole entry some in
      more_read (chunk + 1) (with_chunk entries slot chunk) (is ∙ same)
      (bad_by chunk
      ∙ ap (λ (b : Bool). b || is_some (slot_of entries chunk)) below
      ∙ new)
      (take_more_set entries slot (chunk + 1) lt) (drop_set entries slot (chunk + 1)) (length-set entries slot (chunk + 1))
    where
      whole : (n : ℕ) → n ≢ 0 → n ≡ n - 1 + 1
      whole zero some = absurd (some refl)
      whole (suc n) some = omega arith

  -- and one that is bad is the first
  pub bad_read : (entry : ℕ) → entry ≢ 0 → (nat_lt chunks (entry - 1 + 1) || is_some (slot_of entries (entry - 1))) ≡ true
      → read slot ≡ entry
      → first_bad chunks [] (map read (range_with_len 0 (length entries))) ≡ Some (slot, entry)
  bad_read entry some bad is =
      let chunk : ℕ = entry - 1 in
      let same : entry ≡ chunk + 1 = whole entry some in
      let rest : List ℕ = map read (range_with_len (slot + 1) (length entries - (slot + 1))) in
      let all : length entries ≡ slot + suc (length entries - (slot + 1)) = omega (arith, lt) in
      let parted : map read (range_with_len 0 (length entries)) ≡ take slot entries ++ entry ∷ rest =
      ap (λ (n : ℕ). map read (range_with_len 0 n)) all
      ∙ range_both read 0 slot (suc (length entries - (slot + 1)))
      ∙ ap (λ (n : ℕ). map read (range_with_len 0 slot) ++ map read (range_with_len n (suc (length entries - (slot + 1))))) (omega arith)
      ∙ ap (λ (n : ℕ). map read (range_with_len 0 slot) ++ n ∷ rest) is
      ∙ ap (λ (l : List ℕ). l ++ entry ∷ rest) (sym r.front) in
      let it : is_bad chunks (take slot entries) entry ≡ true = ap (is_bad chunks (take slot entries)) same ∙ bad_by chunk ∙ bad in
      ap (first_bad chunks []) parted
      ∙ bad_append chunks [] (take slot entries) (entry ∷ rest) r.good
      ∙ ap (λ (b : Bool). cond b (Some (length (take slot entries), entry)) (first_bad chunks (take slot entries ++ entry ∷ []) rest)) it
      ∙ ap (λ (n : ℕ). Some (n, entry)) (length-take-le slot entries (omega (arith, lt)))
    where
      whole : (n : ℕ) → n ≢ 0 → n ≡ n - 1 + 1
      whole zero some = absurd (some refl)
      whole (suc n) some = omega arith

-- some values of the slots give what was read, and from the next slot on these values
pub some_read : (chunks first : ℕ) (values : ℕ → ℕ) (entries : List ℕ) → ((read : ℕ → ℕ) × IsReadTo chunks first read entries)
    → (read : ℕ → ℕ) × IsReadTo chunks first read entries × ((slot : ℕ) → first ≤ slot → read slot ≡ values slot)
some_read chunks first values entries some =
    let was : ℕ → ℕ = some.0 in
    let r : IsReadTo chunks first was entries = some.1 in
    let read : ℕ → ℕ = λ slot. cond (nat_lt slot first) (was slot) (values slot) in (
      read,
      record {
        front =
            r.front
            ∙ same_on_range was read 0 first
            (λ k low high.
            let e : nat_lt k first ≡ true = grind (arith, nat_tests) in sym (ap (λ (b : Bool). cond b (was k) (values k)) e));
        rest = r.rest;
        good = r.good;
      },
      λ slot le.
          let e : nat_lt slot first ≡ false = grind (arith, nat_tests) in ap (λ (b : Bool). cond b (was slot) (values slot)) e,
    )

-- where the entry of a slot stands in its sector
pub place_from : (first slot : ℕ) → first % 64 ≡ 0 → first ≤ slot → slot < first + 64 → entry_place slot ≡ 8 * (slot - first)
place_from first slot whole low high = omega (arith, whole, low, high)
