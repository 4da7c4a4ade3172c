-- The slot of a chunk, and the free slots, once a free slot has a chunk.
use Rattle.std.proofs.Common.{◌≡◌, ◌≤◌, ℕ, zero, suc, ◌+◌, not, ◌==◌, cond, Bool, true, false, List, [], ◌∷◌, length, filter, replicate}
use Rattle.std.proofs.Common.{set, Option}
use Rattle.std.proofs.Common.{Some, None, ⊎_elim, refl, sym, ap, ◌∙◌, arith}
use Rattle.std.specs.List.{position_from, position_or_len, slice_get}
use Rattle.std.proofs.lemmas.Bool.Decides.{eqb_tells, nat_tests}
use Rattle.cow_store.specs.Entries.{is_free, names}

-- the first of some entries has the chunk or not
pub first_names : (chunk first entry : ℕ) (entries : List ℕ) → position_from (names chunk) first (entry ∷ entries) ≡ None
    → (names chunk entry ≡ false) × (position_from (names chunk) (first + 1) entries ≡ None)
first_names chunk first entry entries none =
    by (names chunk entry) refl none
  where
    by : (b : Bool) → names chunk entry ≡ b → cond b (Some first) (position_from (names chunk) (first + 1) entries) ≡ None
        → (names chunk entry ≡ false) × (position_from (names chunk) (first + 1) entries ≡ None)
    by true e none = absurd (let h : Some first ≡ None = none in cc)
    by false e none = (e, none)

-- a chunk that has no slot has the free one once that was given to it, and no other chunk's slot changes
pub slot_given : (entries : List ℕ) (slot chunk c first : ℕ) → slice_get entries slot ≡ Some 0
    → position_from (names chunk) first entries ≡ None
    → position_from (names c) first (set entries slot (chunk + 1))
    ≡ cond (chunk == c) (Some (first + slot)) (position_from (names c) first entries)
slot_given [] slot chunk c first free none = cc
slot_given (e ∷ es) zero chunk c first free none =
    let zero_there : e ≡ 0 = cc in
    ⊎_elim
    (λ same.
    let here : (chunk + 1 == c + 1) ≡ true = grind (arith, nat_tests) in
    ap (λ (b : Bool). cond b (Some first) (position_from (names c) (first + 1) es)) here
    ∙ ap (λ (n : ℕ). Some n) (omega arith)
    ∙ sym (ap (λ (b : Bool). cond b (Some (first + 0)) (position_from (names c) first (e ∷ es))) same.0))
    (λ other.
    let away : (chunk + 1 == c + 1) ≡ false = grind (arith, nat_tests) in
    let away' : (e == c + 1) ≡ false = grind (arith, nat_tests) in
    ap (λ (b : Bool). cond b (Some first) (position_from (names c) (first + 1) es)) away
    ∙ sym (ap (λ (b : Bool). cond b (Some first) (position_from (names c) (first + 1) es)) away')
    ∙ sym (ap (λ (b : Bool). cond b (Some (first + 0)) (position_from (names c) first (e ∷ es))) other.0))
    (eqb_tells chunk c)
slot_given (e ∷ es) (suc slot) chunk c first free none =
    let away = first_names chunk first e es none in
    let rest = slot_given es slot chunk c (first + 1) free away.1 in
    let far : Some (first + 1 + slot) ≡ Some (first + suc slot) = ap (λ (n : ℕ). Some n) (omega arith) in
    ap (λ (o : Option ℕ). cond (e == c + 1) (Some first) o) rest
    ∙ ⊎_elim
    (λ same.
    let not_here : (e == c + 1) ≡ false = ap (λ (n : ℕ). e == n + 1) (sym same.1) ∙ away.0 in
    ap (λ (b : Bool). cond b (Some first) (cond (chunk == c) (Some (first + 1 + slot)) (position_from (names c) (first + 1) es))) not_here
    ∙ ap (λ (b : Bool). cond b (Some (first + 1 + slot)) (position_from (names c) (first + 1) es)) same.0
    ∙ far
    ∙ sym (ap (λ (b : Bool). cond b (Some (first + suc slot)) (position_from (names c) first (e ∷ es))) same.0))
    (λ other.
    ap (λ (b : Bool). cond (e == c + 1) (Some first) (cond b (Some (first + 1 + slot)) (position_from (names c) (first + 1) es))) other.0
    ∙ sym (ap (λ (b : Bool). cond b (Some (first + suc slot)) (position_from (names c) first (e ∷ es))) other.0))
    (eqb_tells chunk c)

-- an entry that names a chunk isn't free
pub given_not_free : (chunk : ℕ) → is_free (chunk + 1) ≡ false
given_not_free chunk = grind (arith, nat_tests)

length_kept : (entry : ℕ) (es : List ℕ) (b : Bool) → is_free entry ≡ b
    → length (filter is_free (entry ∷ es)) ≡ length (cond b (entry ∷ filter is_free es) (filter is_free es))
length_kept entry es b e = ap (λ (t : Bool). length (cond t (entry ∷ filter is_free es) (filter is_free es))) e

-- one free slot fewer is left
pub fewer_free : (entries : List ℕ) (slot entry : ℕ) → is_free entry ≡ false → slice_get entries slot ≡ Some 0
    → length (filter is_free (set entries slot entry)) + 1 ≡ length (filter is_free entries)
fewer_free [] slot entry given free = cc
fewer_free (e ∷ es) zero entry given free =
    let there : e ≡ 0 = cc in
    let was : is_free e ≡ true = ap is_free there in
    omega (arith, length_kept entry es false given, length_kept e es true was)
fewer_free (e ∷ es) (suc slot) entry given free =
    let rest = fewer_free es slot entry given free in
    by (is_free e) refl rest
  where
    by : (b : Bool) → is_free e ≡ b → length (filter is_free (set es slot entry)) + 1 ≡ length (filter is_free es)
        → length (filter is_free (e ∷ set es slot entry)) + 1 ≡ length (filter is_free (e ∷ es))
    by true is rest = omega (arith, length_kept e (set es slot entry) true is, length_kept e es true is, rest)
    by false is rest = omega (arith, length_kept e (set es slot entry) false is, length_kept e es false is, rest)

first_kept : (entry : ℕ) (es : List ℕ) (b : Bool) → is_free entry ≡ b
    → position_or_len is_free (entry ∷ es) ≡ cond (not b) (1 + position_or_len is_free es) 0
first_kept entry es b e = ap (λ (t : Bool). cond (not t) (1 + position_or_len is_free es) 0) e

-- and the first that is free is where it was, or later
pub first_free_later : (entries : List ℕ) (slot entry : ℕ) → is_free entry ≡ false
    → position_or_len is_free entries ≤ position_or_len is_free (set entries slot entry)
first_free_later [] slot entry given = omega arith
first_free_later (e ∷ es) zero entry given = by (is_free e) refl
  where
    by : (b : Bool) → is_free e ≡ b → position_or_len is_free (e ∷ es) ≤ position_or_len is_free (entry ∷ es)
    by true is = omega (arith, first_kept e es true is)
    by false is = omega (arith, first_kept e es false is, first_kept entry es false given)
first_free_later (e ∷ es) (suc slot) entry given =
    let rest = first_free_later es slot entry given in
    by (is_free e) refl rest
  where
    by : (b : Bool) → is_free e ≡ b → position_or_len is_free es ≤ position_or_len is_free (set es slot entry)
        → position_or_len is_free (e ∷ es) ≤ position_or_len is_free (e ∷ set es slot entry)
    by true is rest = omega (arith, first_kept e es true is)
    by false is rest = omega (arith, first_kept e es false is, first_kept e (set es slot entry) false is, rest)

-- in a table whose slots are all free no chunk has one
pub none_given : (slots chunk first : ℕ) → position_from (names chunk) first (replicate slots 0) ≡ None
none_given zero chunk first = refl
none_given (suc slots) chunk first =
    let away : (0 == chunk + 1) ≡ false = grind (arith, nat_tests) in
    ap (λ (b : Bool). cond b (Some first) (position_from (names chunk) (first + 1) (replicate slots 0))) away
    ∙ none_given slots chunk (first + 1)

pub all_free : (slots : ℕ) → length (filter is_free (replicate slots 0)) ≡ slots
all_free zero = refl
all_free (suc slots) = omega (arith, all_free slots)

pub first_is_free : (slots : ℕ) → 0 ≡ position_or_len is_free (replicate slots 0)
first_is_free zero = refl
first_is_free (suc slots) = refl
