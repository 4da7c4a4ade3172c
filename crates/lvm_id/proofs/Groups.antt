-- Ids and their printed form, place by place.
use Rattle.std.proofs.Common.{◌≡◌, ℕ, ◌<◌, List, length, get_or, map, refl, sym, subst, ◌∙◌, true, arith}
use Rattle.std.specs.Prelude.{IsUtf8, IsTrue, slice_range, replicate}
use Rattle.std.specs.List.{range_with_len, AllByRecursion}
use Rattle.std.proofs.lemmas.Bool.{eqb-true, false≢true}
use Rattle.std.proofs.lemmas.List.Elements.{All-from_recursion, recursion_from_All, All-get_or, All-same, All-weaker}
use Rattle.std.proofs.lemmas.List.FromFn.{fill_by_all, get_or-range_with_len, length-range_with_len}
use Rattle.std.proofs.lemmas.Bool.Decides.{nat_tests}
use Rattle.std.proofs.lemmas.Str.{IsUtf8-from_ascii}
use Rattle.std.proofs.lemmas.Str.Ascii.{IsAscii-from_all}
use Rattle.lvm_id.specs.LvmId.{IsId, IsIdChar, IsFirstMisfit, fits_hyphenated, hyphen_form}
use Rattle.lvm_id.specs.Put.{with_bytes}

-- so many values of a function
abbrev pub values : ℕ → (ℕ → ℕ) → List ℕ
values n f = map f (range_with_len 0 n)

-- the elements of a list, by place
abbrev element : List ℕ → ℕ → ℕ
element xs k = get_or xs k 0

-- a list is the values of its elements
values-element : (xs : List ℕ) (n : ℕ) → length xs ≡ n → values n (element xs) ≡ xs
values-element xs n e = sym (fill_by_all (element xs) xs n 0 e (λ k h. refl))

-- what holds at each number below n, written out
written_out : (P : ℕ → Type 0) (n : ℕ) → ((k : ℕ) → k < n → P k) → AllByRecursion P (range_with_len 0 n)
written_out P n each =
    recursion_from_All P (range_with_len 0 n) (λ k d below.
    let in_range : k < n = omega (arith, length-range_with_len 0 n) in
    subst P (sym (get_or-range_with_len 0 n k d in_range ∙ omega arith)) (each k in_range))

each_of : (P : ℕ → Type 0) (n : ℕ) → AllByRecursion P (range_with_len 0 n) → (k : ℕ) → k < n → P k
each_of P n all k below =
    subst P (get_or-range_with_len 0 n k 0 below ∙ omega arith)
    (All-get_or P (range_with_len 0 n) k 0 (omega (arith, length-range_with_len 0 n)) (All-from_recursion P (range_with_len 0 n) all))

-- the groups of an id, put into a text of hyphens
abbrev pub with_groups : List ℕ → List ℕ
with_groups chars =
    with_bytes (with_bytes (with_bytes (with_bytes
    (with_bytes (with_bytes (with_bytes (replicate 38 45) 0 (slice_range chars 0 6)) 7 (slice_range chars 6 10)) 12
    (slice_range chars 10 14)) 17 (slice_range chars 14 18)) 22 (slice_range chars 18 22)) 27 (slice_range chars 22 26)) 32
    (slice_range chars 26 32)

-- the groups of a printed id, put behind one another
abbrev pub joined : List ℕ → List ℕ
joined text =
    with_bytes (with_bytes (with_bytes (with_bytes
    (with_bytes (with_bytes (with_bytes (replicate 32 0) 0 (slice_range text 0 6)) 6 (slice_range text 7 11)) 10
    (slice_range text 12 16)) 14 (slice_range text 17 21)) 18 (slice_range text 22 26)) 22 (slice_range text 27 31)) 26
    (slice_range text 32 38)

with_groups-values : (f : ℕ → ℕ) → with_groups (values 32 f) ≡ hyphen_form (values 32 f)
unfolding hyphen_form
with_groups-values f = refl

pub with_groups-hyphen_form : (chars : List ℕ) → length chars ≡ 32 → with_groups chars ≡ hyphen_form chars
with_groups-hyphen_form chars e =
    subst (λ xs. with_groups xs ≡ hyphen_form xs) (values-element chars 32 e) (with_groups-values (element chars))

length-hyphen_form-values : (f : ℕ → ℕ) → length (hyphen_form (values 32 f)) ≡ 38
unfolding hyphen_form
length-hyphen_form-values f = refl

pub length-hyphen_form : (chars : List ℕ) → length chars ≡ 32 → length (hyphen_form chars) ≡ 38
length-hyphen_form chars e =
    subst (λ xs. length (hyphen_form xs) ≡ 38) (values-element chars 32 e) (length-hyphen_form-values (element chars))

joined-hyphen_form-values : (f : ℕ → ℕ) → joined (hyphen_form (values 32 f)) ≡ values 32 f
unfolding hyphen_form
joined-hyphen_form-values f = refl

pub joined-hyphen_form : (chars : List ℕ) → length chars ≡ 32 → joined (hyphen_form chars) ≡ chars
joined-hyphen_form chars e =
    subst (λ xs. joined (hyphen_form xs) ≡ xs) (values-element chars 32 e) (joined-hyphen_form-values (element chars))

-- the byte at a place fits
abbrev Fits : (ℕ → ℕ) → ℕ → Type 0
Fits f k = IsTrue (fits_hyphenated k (f k))

hyphen_form-joined-values : (f : ℕ → ℕ) → AllByRecursion (Fits f) (range_with_len 0 38) → hyphen_form (joined (values 38 f)) ≡ values 38 f
unfolding hyphen_form
hyphen_form-joined-values f fits =
    let at = each_of (Fits f) 38 fits in
    let h6 : f 6 ≡ 45 = eqb-true _ _ (at 6 (omega arith)) in
    let h11 : f 11 ≡ 45 = eqb-true _ _ (at 11 (omega arith)) in
    let h16 : f 16 ≡ 45 = eqb-true _ _ (at 16 (omega arith)) in
    let h21 : f 21 ≡ 45 = eqb-true _ _ (at 21 (omega arith)) in
    let h26 : f 26 ≡ 45 = eqb-true _ _ (at 26 (omega arith)) in
    let h31 : f 31 ≡ 45 = eqb-true _ _ (at 31 (omega arith)) in
    rw (h6, h11, h16, h21, h26, h31) refl

pub hyphen_form-joined : (text : List ℕ) → length text ≡ 38 → ((k : ℕ) → k < 38 → IsTrue (fits_hyphenated k (get_or text k 0)))
    → hyphen_form (joined text) ≡ text
hyphen_form-joined text e fits =
    subst (λ xs. hyphen_form (joined xs) ≡ xs) (values-element text 38 e)
    (hyphen_form-joined-values (element text) (written_out (Fits (element text)) 38 fits))

IsId-joined-values : (f : ℕ → ℕ) → AllByRecursion (Fits f) (range_with_len 0 38) → IsId (joined (values 38 f))
IsId-joined-values f fits = record {
  length_is = refl;
  in_alphabet = All-from_recursion IsIdChar (joined (values 38 f)) (assumption (fits, tt));
}

pub IsId-joined : (text : List ℕ) → length text ≡ 38 → ((k : ℕ) → k < 38 → IsTrue (fits_hyphenated k (get_or text k 0)))
    → IsId (joined text)
IsId-joined text e fits =
    subst (λ xs. IsId (joined xs)) (values-element text 38 e)
    (IsId-joined-values (element text) (written_out (Fits (element text)) 38 fits))

fits-hyphen_form-values : (f : ℕ → ℕ) → AllByRecursion IsIdChar (values 32 f)
    → AllByRecursion (Fits (element (hyphen_form (values 32 f)))) (range_with_len 0 38)
unfolding hyphen_form
fits-hyphen_form-values f valid = let yes : true ≡ true = refl in assumption (valid, yes, tt)

-- each byte of a printed id fits
fits-hyphen_form : (chars : List ℕ) → IsId chars → (k : ℕ) → k < 38 → Fits (element (hyphen_form chars)) k
fits-hyphen_form chars valid =
    let e = values-element chars 32 valid.length_is in
    let written =
    recursion_from_All IsIdChar (values 32 (element chars)) (All-same IsIdChar (values 32 (element chars)) chars e valid.in_alphabet) in
    subst (λ xs. (k : ℕ) → k < 38 → Fits (element (hyphen_form xs)) k) e
    (each_of (Fits (element (hyphen_form (values 32 (element chars))))) 38 (fits-hyphen_form-values (element chars) written))

-- so a printed id has no misfit
pub no_misfit : (chars text : List ℕ) (place : ℕ) → IsId chars → hyphen_form chars ≡ text → IsFirstMisfit fits_hyphenated text place → ⊥
no_misfit chars text place valid e m =
    let long : length (hyphen_form chars) ≡ 38 = length-hyphen_form chars valid.length_is in
    let within : place < length (hyphen_form chars) = subst (λ t. place < length t) (sym e) m.within in
    false≢true (sym m.misfit ∙ subst (λ t. Fits (element t) place) e (fits-hyphen_form chars valid place (omega arith)))

IsIdChar-small : (c : ℕ) → IsIdChar c → c < 128
IsIdChar-small c valid = grind (arith, nat_tests)

small-hyphen_form-values : (f : ℕ → ℕ) → AllByRecursion (λ b. b < 128) (values 32 f)
    → AllByRecursion (λ b. b < 128) (hyphen_form (values 32 f))
unfolding hyphen_form
small-hyphen_form-values f small = let hyphen : 45 < 128 = omega arith in assumption (small, hyphen, tt)

-- a printed id is a text
pub IsUtf8-hyphen_form : (chars : List ℕ) → IsId chars → IsUtf8 (hyphen_form chars)
IsUtf8-hyphen_form chars valid =
    let e = values-element chars 32 valid.length_is in
    let small =
    All-weaker IsIdChar (λ b. b < 128) IsIdChar-small (values 32 (element chars))
    (All-same IsIdChar (values 32 (element chars)) chars e valid.in_alphabet) in
    let printed =
    All-from_recursion (λ b. b < 128) (hyphen_form (values 32 (element chars)))
    (small-hyphen_form-values (element chars) (recursion_from_All (λ b. b < 128) (values 32 (element chars)) small)) in
    subst (λ xs. IsUtf8 (hyphen_form xs)) e (IsUtf8-from_ascii _ (IsAscii-from_all _ printed))
