-- Names that are put one behind the other are found as the first of them.
use Rattle.std.proofs.Common.{◌≡◌, ℕ, ◌+◌, Bool, true, false, nat_eq, List, [], ◌∷◌, ◌++◌, length, take, position, Option, Some, None}
use Rattle.std.proofs.Common.{option_map, if◌then◌else◌, cond, refl, sym, ap, ◌∙◌, ◌<◌, get_or, Bor, arith}
use Rattle.std.proofs.Math.ListN.{get_or-map}
use Rattle.std.proofs.lemmas.List.{take_more, length-take-le, length-map}
use Rattle.conf_text.specs.Entries.{Conf}
use Rattle.meta_read.specs.Reading.{as_sections}
use Rattle.std.specs.Option.{option_or}
use Rattle.std.specs.List.{position_from}
use Rattle.std.proofs.lemmas.Iterator.Adapters.{position_from-zero}
use Rattle.std.specs.Cmp.Lexicographic.{pointwise}
use Rattle.indexmap.specs.IndexMap.{IndexMap, get, insert_entry}
use Rattle.indexmap.proofs.CallerLemmas.{insert_entry-new}
use Rattle.meta_model.specs.declared.segment.On.{On}
use Rattle.meta_read.specs.Places.{place_in, names_in}

abbrev pub same_bytes : Bor (List ℕ) → Bor (List ℕ) → Bool
same_bytes a b = pointwise nat_eq a.now b.now

-- what stands before goes first
or_behind : {A : Type 0} (b : Bool) (x : A) (rest before last : Option A) → rest ≡ option_or before last
    → cond b (Some x) rest ≡ option_or (cond b (Some x) before) last
or_behind true x rest before last is = refl
or_behind false x rest before last is = is

place_in-last : (places : List (Bor (List ℕ) × On)) (name : Bor (List ℕ)) (carrier : On) (q : List ℕ)
    → place_in (places ++ (name, carrier) ∷ []) q
    ≡ option_or (place_in places q) (if pointwise nat_eq q name.now then Some carrier else None)
place_in-last [] name carrier q = refl
place_in-last (place ∷ places) name carrier q =
    or_behind (pointwise nat_eq q place.0.now) place.1 _ (place_in places q) _ (place_in-last places name carrier q)

-- a new name is found too
pub place_in-insert : {S : Type 0} (places : IndexMap (Bor (List ℕ)) On S) (name : Bor (List ℕ)) (carrier : On)
    → get same_bytes places name ≡ None
    → (q : List ℕ) → place_in (insert_entry same_bytes places.entries name carrier) q
    ≡ option_or (place_in places.entries q) (if pointwise nat_eq q name.now then Some carrier else None)
place_in-insert places name carrier none q =
    ap (λ entries. place_in entries q) (insert_entry-new same_bytes places name carrier none) ∙ place_in-last places.entries name carrier q

position_from-last : {A : Type 0} (test : A → Bool) (first : ℕ) (xs : List A) (x : A)
    → position_from test first (xs ++ x ∷ []) ≡ option_or (position_from test first xs) (if test x then Some (first + length xs) else None)
position_from-last test first [] x = let same : first ≡ first + 0 = omega arith in ap (λ n. cond (test x) (Some n) None) same
position_from-last test first (y ∷ ys) x =
    let same : first + 1 + length ys ≡ first + length (y ∷ ys) = omega arith in
    or_behind (test y) first _ (position_from test (first + 1) ys) _
    (position_from-last test (first + 1) ys x
    ∙ ap (λ n. option_or (position_from test (first + 1) ys) (cond (test x) (Some n) None)) same)

position-last : {A : Type 0} (test : A → Bool) (xs : List A) (x : A)
    → position test (xs ++ x ∷ []) ≡ option_or (position test xs) (if test x then Some (length xs) else None)
position-last test xs x =
    let same : 0 + length xs ≡ length xs = omega arith in
    position_from-zero test (xs ++ x ∷ []) ∙ position_from-last test 0 xs x
    ∙ ap (λ n. option_or (position_from test 0 xs) (cond (test x) (Some n) None)) same
    ∙ ap (λ found. option_or found (cond (test x) (Some (length xs)) None)) (sym (position_from-zero test xs))

carried : (carrier : ℕ → On) (before : Option On) (found : Option ℕ) (here : Bool) (at : ℕ)
    → option_or (option_or before (option_map carrier found)) (cond here (Some (carrier at)) None)
    ≡ option_or before (option_map carrier (option_or found (cond here (Some at) None)))
carried carrier (Some on) found here at = refl
carried carrier None (Some number) here at = refl
carried carrier None None true at = refl
carried carrier None None false at = refl

-- what has the names so far, and one more
pub counted_one_more : {A : Type 0} (test : A → Bool) (carrier : ℕ → On) (before : Option On) (xs : List A) (x : A)
    → option_or (option_or before (option_map carrier (position test xs))) (if test x then Some (carrier (length xs)) else None)
    ≡ option_or before (option_map carrier (position test (xs ++ x ∷ [])))
counted_one_more test carrier before xs x =
    carried carrier before (position test xs) (test x) (length xs)
    ∙ ap (λ found. option_or before (option_map carrier found)) (sym (position-last test xs x))

names_next : (sections : List (Bor (List ℕ) × Conf)) (number : ℕ) (found : Bor (List ℕ) × Conf) → number < length sections
    → found ≡ get_or sections number found → take (number + 1) (names_in sections) ≡ take number (names_in sections) ++ found.0.now ∷ []
names_next sections number found within is =
    let long : length (names_in sections) ≡ length sections =
    length-map (as_sections sections) (λ (pair : List ℕ × Conf). pair.0)
    ∙ length-map sections (λ (pair : Bor (List ℕ) × Conf). (pair.0.now, pair.1)) in
    let here : get_or (names_in sections) number found.0.now ≡ found.0.now =
    get_or-map (λ (pair : List ℕ × Conf). pair.0) (as_sections sections) number (found.0.now, found.1)
    ∙ ap (λ (pair : List ℕ × Conf). pair.0) (get_or-map (λ (pair : Bor (List ℕ) × Conf). (pair.0.now, pair.1)) sections number found)
    ∙ ap (λ (pair : Bor (List ℕ) × Conf). pair.0.now) (sym is) in
    take_more (names_in sections) number found.0.now (omega arith) ∙ ap (λ name. take number (names_in sections) ++ name ∷ []) here

-- what is found among the names so far, and the next one
pub next_found : (carrier : ℕ → On) (sections : List (Bor (List ℕ) × Conf)) (number at : ℕ) (found : Bor (List ℕ) × Conf)
    (before now : Option On) (q : List ℕ)
    → number < length sections → found ≡ get_or sections number found → at ≡ number
    → now ≡ option_or (option_or before (option_map carrier (position (pointwise nat_eq q) (take number (names_in sections)))))
    (if pointwise nat_eq q found.0.now then Some (carrier at) else None)
    → now ≡ option_or before (option_map carrier (position (pointwise nat_eq q) (take (number + 1) (names_in sections))))
next_found carrier sections number at found before now q within is same_number is_now =
    let names : List (List ℕ) = take number (names_in sections) in
    let long : length (names_in sections) ≡ length sections =
    length-map (as_sections sections) (λ (pair : List ℕ × Conf). pair.0)
    ∙ length-map sections (λ (pair : Bor (List ℕ) × Conf). (pair.0.now, pair.1)) in
    let counted : length names ≡ number = length-take-le number (names_in sections) (omega arith) in
    is_now
    ∙ ap (λ n. option_or (option_or before (option_map carrier (position (pointwise nat_eq q) names)))
    (cond (pointwise nat_eq q found.0.now) (Some (carrier n)) None)) (same_number ∙ sym counted)
    ∙ counted_one_more (pointwise nat_eq q) carrier before names found.0.now
    ∙ ap (λ taken. option_or before (option_map carrier (position (pointwise nat_eq q) taken)))
    (sym (names_next sections number found within is))
