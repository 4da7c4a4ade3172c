-- An id is what its printed form is without the hyphens.
use Rattle.std.proofs.Common.{◌≡◌, ℕ, ◌+◌, Bool, true, false, not, ◌&&◌, ◌==◌, nat_eq, true≢false, List, [], ◌∷◌, ◌++◌, length, take, drop}
use Rattle.std.proofs.Common.{filter, Option, Some, None, refl, sym, ap, ◌∙◌, arith, length-drop, if◌then◌else◌}
use Rattle.std.proofs.lemmas.Bool.{eqb-true, eq-eqb}
use Rattle.std.proofs.lemmas.List.{take-append-drop, take_all}
use Rattle.std.proofs.lemmas.List.Elements.{filter-append}
use Rattle.std.proofs.lemmas.List.Folds.{list_all-append}
use Rattle.std.proofs.lemmas.List.Sums.{list_all-from_AllPass, AllPass-from_list_all}
use Rattle.std.specs.List.{list_all, join_with_byte}
use Rattle.std.specs.Cmp.Lexicographic.{pointwise}
use Rattle.lvm_id.specs.LvmId.{IsId, is_id_char, pieces, hyphen_form}
use Rattle.meta_model.specs.Keys.{id_printed}

abbrev no_hyphen : ℕ → Bool
no_hyphen c = not (c == 45)

-- a hyphen is in no id
apart : (c : ℕ) → is_id_char c ≡ true → no_hyphen c ≡ true
apart c is_char = by (c == 45) refl
  where
    by : (b : Bool) → (c == 45) ≡ b → no_hyphen c ≡ true
    by true e = absurd (true≢false (sym is_char ∙ ap is_id_char (eqb-true c 45 e)))
    by false e = ap not e

and-first : (a b : Bool) → (a && b) ≡ true → a ≡ true
and-first true b both = refl
and-first false b both = both

and-second : (a b : Bool) → (a && b) ≡ true → b ≡ true
and-second true b both = both
and-second false b both = absurd (true≢false (sym both))

-- of characters of ids all are kept
filter-chars : (chars : List ℕ) → list_all is_id_char chars ≡ true → filter no_hyphen chars ≡ chars
filter-chars [] are = refl
filter-chars (c ∷ chars) are = rw (apart c (and-first _ _ are)) (ap (λ cs. c ∷ cs) (filter-chars chars (and-second _ _ are)))

-- the sum of lengths
abbrev total : List ℕ → ℕ
total [] = 0
total (n ∷ ns) = n + total ns

front-chars : (n : ℕ) (chars : List ℕ) → list_all is_id_char chars ≡ true → list_all is_id_char (take n chars) ≡ true
front-chars n chars are =
    and-first _ _ (sym (list_all-append is_id_char (take n chars) (drop n chars)) ∙ ap (list_all is_id_char) (take-append-drop n chars)
    ∙ are)

rest-chars : (n : ℕ) (chars : List ℕ) → list_all is_id_char chars ≡ true → list_all is_id_char (drop n chars) ≡ true
rest-chars n chars are =
    and-second (list_all is_id_char (take n chars)) _
    (sym (list_all-append is_id_char (take n chars) (drop n chars)) ∙ ap (list_all is_id_char) (take-append-drop n chars) ∙ are)

empty : (chars : List ℕ) → 0 ≡ length chars → [] ≡ chars
empty [] none = refl
empty (c ∷ chars) none = absurd (omega (arith, none))

-- so are they of pieces with hyphens between
filter-pieces : (lengths : List ℕ) (chars : List ℕ) → total lengths ≡ length chars → list_all is_id_char chars ≡ true
    → filter no_hyphen (join_with_byte 45 (pieces lengths chars)) ≡ chars
filter-pieces [] chars all are = empty chars all
filter-pieces (n ∷ []) chars all are = filter-chars (take n chars) (front-chars n chars are) ∙ take_all n chars (omega arith)
filter-pieces (n ∷ m ∷ lengths) chars all are =
    let rest : total (m ∷ lengths) ≡ length (drop n chars) = omega (arith, length-drop n chars) in
    filter-append no_hyphen (take n chars) (45 ∷ join_with_byte 45 (pieces (m ∷ lengths) (drop n chars)))
    ∙ ap (λ front. front ++ filter no_hyphen (join_with_byte 45 (pieces (m ∷ lengths) (drop n chars))))
    (filter-chars (take n chars) (front-chars n chars are))
    ∙ ap (λ back. take n chars ++ back) (filter-pieces (m ∷ lengths) (drop n chars) rest (rest-chars n chars are))
    ∙ take-append-drop n chars

hyphenless : (id : List ℕ) → IsId id → filter no_hyphen (hyphen_form id) ≡ id
unfolding hyphen_form
hyphenless id is = filter-pieces (6 ∷ 4 ∷ 4 ∷ 4 ∷ 4 ∷ 4 ∷ 6 ∷ []) id (sym is.length_is) (list_all-from_AllPass is_id_char id is.in_alphabet)

pointwise-same : (xs : List ℕ) → pointwise nat_eq xs xs ≡ true
pointwise-same [] = refl
pointwise-same (x ∷ xs) = rw (eq-eqb x x refl) (pointwise-same xs)

pub pointwise-equal : (xs ys : List ℕ) → pointwise nat_eq xs ys ≡ true → xs ≡ ys
pointwise-equal [] [] same = refl
pointwise-equal [] (y ∷ ys) same = absurd (true≢false (sym same))
pointwise-equal (x ∷ xs) [] same = absurd (true≢false (sym same))
pointwise-equal (x ∷ xs) (y ∷ ys) same =
    ap (λ z. z ∷ xs) (eqb-true x y (and-first _ _ same)) ∙ ap (λ zs. y ∷ zs) (pointwise-equal xs ys (and-second (x == y) _ same))

-- what prints as the text is read of it
pub id_printed-is : (id text : List ℕ) → IsId id → hyphen_form id ≡ text → id_printed text ≡ Some id
id_printed-is id text is printed =
    let bare : filter no_hyphen text ≡ id = ap (filter no_hyphen) (sym printed) ∙ hyphenless id is in
    let long : (length id == 32) ≡ true = eq-eqb (length id) 32 is.length_is in
    let chars : list_all is_id_char id ≡ true = list_all-from_AllPass is_id_char id is.in_alphabet in
    let same : pointwise nat_eq (hyphen_form id) text ≡ true =
    ap (pointwise nat_eq (hyphen_form id)) (sym printed) ∙ pointwise-same (hyphen_form id) in
    rw (bare, long, chars, same) refl

-- where an id is read of the text, it prints as the text
pub printed-id_printed : (id text : List ℕ) → id_printed text ≡ Some id → IsId id × (hyphen_form id ≡ text)
printed-id_printed id text read = by (is_read text) refl read
  where
    is_read : List ℕ → Bool
    is_read printed =
        length (filter no_hyphen printed) == 32 && list_all is_id_char (filter no_hyphen printed)
        && pointwise nat_eq (hyphen_form (filter no_hyphen printed)) printed

    by : (b : Bool) → is_read text ≡ b → (if b then Some (filter no_hyphen text) else None) ≡ Some id → IsId id × (hyphen_form id ≡ text)
    by true e some =
        let bare : filter no_hyphen text ≡ id = cc in
        let front : (length (filter no_hyphen text) == 32 && list_all is_id_char (filter no_hyphen text)) ≡ true = and-first _ _ e in
        let long : length (filter no_hyphen text) ≡ 32 = eqb-true _ _ (and-first _ _ front) in
        let chars : list_all is_id_char (filter no_hyphen text) ≡ true = and-second (length (filter no_hyphen text) == 32) _ front in
        let same : hyphen_form (filter no_hyphen text) ≡ text =
        pointwise-equal _ _ (and-second (length (filter no_hyphen text) == 32 && list_all is_id_char (filter no_hyphen text)) _ e) in (
          record {
            length_is = ap length (sym bare) ∙ long;
            in_alphabet = AllPass-from_list_all is_id_char id (ap (list_all is_id_char) (sym bare) ∙ chars);
          },
          ap hyphen_form (sym bare) ∙ same,
        )
    by false e none = cc

-- where no id prints as the text, none is read of it
pub id_printed-none : (text : List ℕ) → ((id : List ℕ) → IsId id → hyphen_form id ≡ text → ⊥) → id_printed text ≡ None
id_printed-none text none = by (id_printed text) refl
  where
    by : (read : Option (List ℕ)) → id_printed text ≡ read → id_printed text ≡ None
    by None is = is
    by (Some id) is = let printed = printed-id_printed id text is in absurd (none id printed.0 printed.1)
