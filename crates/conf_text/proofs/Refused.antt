-- Where a limit is broken, the reader refuses the text for it, at its place.
use Rattle.std.proofs.Common.{◌≡◌, ℕ, ◌+◌, ◌-◌, ◌<◌, ◌≤◌, ◌^◌, true, false, ltb, List, [], ◌∷◌, ◌++◌, length, Result, Err, refl, ap, ◌∙◌}
use Rattle.std.proofs.Common.{append_assoc, arith, inl, inr}
use Rattle.std.proofs.lemmas.Bool.{le-ltb}
use Rattle.std.specs.List.{list_all}
use Rattle.std.specs.Str.Parse.{digits_value}
use Rattle.conf_text.specs.declared.refusal.ConfRefusal.{ConfRefusal}
use Rattle.conf_text.specs.declared.refusal.ConfRefusal.TheVariants.{DuplicateKey, NumberTooWide, TooDeep}
use Rattle.conf_text.specs.declared.kind.Kind.TheVariants.{OpenBrace, OpenBracket}
use Rattle.conf_text.specs.Bytes.{kind}
use Rattle.conf_text.specs.declared.reader.Mode.TheVariants.{Between, Word}
use Rattle.conf_text.specs.declared.reader.Phase.{Phase}
use Rattle.conf_text.specs.declared.reader.Phase.TheVariants.{Item, Named, Wanted, First, Next}
use Rattle.conf_text.specs.Entries.{Scalar, ConfEntry, sections, is_given, fits_scalar}
use Rattle.conf_text.specs.Grammar.{is_name, is_digit, IsName, IsDigits, EndsWord}
use Rattle.conf_text.specs.Refusals.{IsBeforeScalar, IsDuplicate, IsTooWide, IsTooDeep}
use Rattle.conf_text.specs.Reader.{Read, ◌>>=◌, step, outcome, reading, ended, begun, word_ended}
use Rattle.conf_text.proofs.Steps.{in_state, reaches_then, reaches_step, step_is, name_more, name_begins, digits_more, digit_begins}
use Rattle.conf_text.proofs.Steps.{word_step, both_true, Arrives, wants_scalar}
use Rattle.conf_text.proofs.Accepted.{between, item, gap_arrives, name_arrives, key_arrives, byte_arrives, gap_ends, mark_ends}
use Rattle.conf_text.proofs.Accepted.{array_to_comma, entries_arrive, kind-open_bracket, kind-open_brace}

abbrev refused : ConfRefusal → Result (List ConfEntry) ConfRefusal
refused e = Err e

-- a word that is refused where it ends
word_refused : (rest : List ℕ) (at : ℕ) (p : Phase) (w n : List ℕ) (ss : List Scalar) (es : List ConfEntry) (bs : List ℕ) (e : ConfRefusal)
    → EndsWord rest
    → word_ended p (at - length w) (in_state Word p w n ss es bs) ≡ Err e → outcome at (in_state Word p w n ss es bs) rest ≡ Err e
unfolding outcome step ended
word_refused [] at p w n ss es bs e ends h = rw h refl
word_refused (b ∷ rest) at p w n ss es bs e ends h =
    let r = in_state Word p w n ss es bs in
    let one : step at b r ≡ Err e = word_step p (kind b) b at r refl ends ∙ ap (λ (x : Read). x >>= λ t. begun t.phase (kind b) b at t) h in
    ap (λ (x : Read). x >>= λ t. outcome (at + 1) t rest) one

some_given : (given : List (List (List ℕ))) (name : List ℕ) → is_given given name ≡ true → 0 < length given
some_given [] name h = absurd cc
some_given (names ∷ outer) name h = omega arith

pub name_refused : (name more : List ℕ) (at place : ℕ) (es : List ConfEntry) (bs : List ℕ) → IsName name → EndsWord more
    → is_given (sections es) name ≡ true → at ≡ place → outcome at (item es bs) (name ++ more) ≡ Err (DuplicateKey place)
name_refused [] more at place es bs h ends given same = absurd (h.0 refl)
name_refused (b ∷ name) more at place es bs h ends given same =
    let (first, others) = both_true (is_name (kind b)) (list_all (λ b. is_name (kind b)) name) h.1 in
    let one =
    reaches_step at b (item es bs) (in_state Word Item (b ∷ []) [] [] es bs) (name ++ more)
    (step_is Between (kind b) b at (item es bs) refl refl ∙ name_begins (kind b) b at [] [] es bs first) in
    let two = name_more name more (at + 1) (b ∷ []) [] [] es bs others in
    let from : (at + 1 + length name) - length (b ∷ name) ≡ place = omega (arith, same) in
    one.same ∙ two.same ∙ word_refused more (at + 1 + length name) Item (b ∷ name) [] [] es bs (DuplicateKey place) ends
    (rw (given, from) refl)

pub duplicate_refused : (text : List ℕ) (place : ℕ) → IsDuplicate text place → reading text ≡ Err (DuplicateKey place)
duplicate_refused text place h =
    let (bs, open_, (a, one)) =
    entries_arrive h.before text (h.gap ++ h.name ++ h.more) 0 [] [] refl h.entries h.limits
    (some_given (sections h.before) h.name h.given) in
    let parts : h.gap ++ h.name ++ h.more ≡ h.gap ++ (h.name ++ h.more) = append_assoc h.gap h.name h.more in
    let (m, two) = gap_arrives h.gap (h.name ++ h.more) a Item [] [] h.before bs h.gap_is in
    let same : m ≡ place = omega (arith, one.place, two.place, h.place_is, ap length parts) in
    one.same ∙ ap (outcome a (item h.before bs)) parts ∙ two.same
    ∙ name_refused h.name h.more m place h.before bs h.name_is h.name_ends h.given same

-- the reader before a scalar, where the earlier ones are read
AtScalar : ℕ → List ℕ → List ℕ → List ℕ → List Scalar → List ConfEntry → List ℕ → Type 0
AtScalar at front rest name earlier es bs =
    (p : Phase) × (wants_scalar p ≡ true) × Arrives at (item es bs) (front ++ rest) (between p name earlier es bs) rest

scalar_awaited : (earlier : List Scalar) (front name rest : List ℕ) (at : ℕ) (es : List ConfEntry) (bs : List ℕ)
    → IsBeforeScalar front name earlier → list_all fits_scalar earlier ≡ true → is_given (sections es) name ≡ false
    → AtScalar at front rest name earlier es bs
unfolding AtScalar
scalar_awaited [] front name rest at es bs (inl key) fits fresh = (Wanted, refl, key_arrives front name rest at es bs key fresh)
scalar_awaited [] front name rest at es bs (inr (key, g, key_is, gap, parts)) fits fresh =
    let (a, one) = key_arrives key name (91 ∷ (g ++ rest)) at es bs key_is fresh in
    let two =
    byte_arrives 91 OpenBracket (g ++ rest) a (between Wanted name [] es bs) (between (First a) name [] es bs) refl kind-open_bracket
    refl in
    let three = gap_arrives g rest two.0 (First a) name [] es bs gap in
    let whole : front ++ rest ≡ key ++ 91 ∷ (g ++ rest) = rw parts (simp append_assoc refl) in
    (First a, refl, (three.0, rw whole (reaches_then one (reaches_then two.1 three.1))))
scalar_awaited (s ∷ ss) front name rest at es bs (key, list, g, key_is, array, gap, parts) fits fresh =
    let (a, one) = key_arrives key name (91 ∷ (list ++ 44 ∷ (g ++ rest))) at es bs key_is fresh in
    let two =
    byte_arrives 91 OpenBracket (list ++ 44 ∷ (g ++ rest)) a (between Wanted name [] es bs) (between (First a) name [] es bs) refl
    kind-open_bracket refl in
    let three = array_to_comma true a ss s list (g ++ rest) two.0 name [] es bs array fits in
    let four = gap_arrives g rest three.0 (Next a) name (s ∷ ss) es bs gap in
    let whole : front ++ rest ≡ key ++ 91 ∷ (list ++ 44 ∷ (g ++ rest)) = rw parts (simp append_assoc refl) in
    (Next a, refl, (four.0, rw whole (reaches_then one (reaches_then two.1 (reaches_then three.1 four.1)))))

number_refused : (p : Phase) (at : ℕ) (w n : List ℕ) (ss : List Scalar) (es : List ConfEntry) (bs : List ℕ) (place : ℕ)
    → wants_scalar p ≡ true → ltb (digits_value 10 w) (2 ^ 64) ≡ false
    → word_ended p place (in_state Word p w n ss es bs) ≡ Err (NumberTooWide place)
number_refused Wanted at w n ss es bs place f e = rw e refl
number_refused (First q) at w n ss es bs place f e = rw e refl
number_refused (Next q) at w n ss es bs place f e = rw e refl
number_refused _ at w n ss es bs place f e = absurd cc

pub digits_refused : (p : Phase) (digits more : List ℕ) (at place : ℕ) (n : List ℕ) (ss : List Scalar) (es : List ConfEntry) (bs : List ℕ)
    → wants_scalar p ≡ true → IsDigits digits → EndsWord more → 2 ^ 64 ≤ digits_value 10 digits → at ≡ place
    → outcome at (between p n ss es bs) (digits ++ more) ≡ Err (NumberTooWide place)
digits_refused p [] more at place n ss es bs f h ends wide same = absurd (h.0 refl)
digits_refused p (b ∷ x) more at place n ss es bs f h ends wide same =
    let (first, others) = both_true (is_digit (kind b)) (list_all (λ b. is_digit (kind b)) x) h.1 in
    let one =
    reaches_step at b (between p n ss es bs) (in_state Word p (b ∷ []) n ss es bs) (x ++ more)
    (step_is Between (kind b) b at (between p n ss es bs) refl refl ∙ digit_begins (kind b) b at p n ss es bs f first) in
    let two = digits_more x more (at + 1) p (b ∷ []) n ss es bs others in
    let from : (at + 1 + length x) - length (b ∷ x) ≡ place = omega (arith, same) in
    let big : ltb (digits_value 10 (b ∷ x)) (2 ^ 64) ≡ false = le-ltb _ _ wide in
    one.same ∙ two.same ∙ word_refused more (at + 1 + length x) p (b ∷ x) n ss es bs (NumberTooWide place) ends
    (rw from (number_refused p at (b ∷ x) n ss es bs place f big))

pub too_wide_refused : (text : List ℕ) (place : ℕ) → IsTooWide text place → reading text ≡ Err (NumberTooWide place)
unfolding AtScalar
too_wide_refused text place h =
    let (bs, open_, (a, one)) = entries_arrive h.before text (h.front ++ h.digits ++ h.more) 0 [] [] refl h.entries h.limits h.inside in
    let parts : h.front ++ h.digits ++ h.more ≡ h.front ++ (h.digits ++ h.more) = append_assoc h.front h.digits h.more in
    let (p, wants, (m, two)) =
    scalar_awaited h.earlier h.front h.name (h.digits ++ h.more) a h.before bs h.front_is h.earlier_fit h.fresh in
    let same : m ≡ place = omega (arith, one.place, two.place, h.place_is, ap length parts) in
    one.same ∙ ap (outcome a (item h.before bs)) parts ∙ two.same
    ∙ digits_refused p h.digits h.more m place h.name h.earlier h.before bs wants h.digits_are h.digits_end h.wide same

pub deep_step : (at : ℕ) (name : List ℕ) (es : List ConfEntry) (bs rest : List ℕ) → ltb (length (sections es)) 17 ≡ false
    → outcome at (between Named name [] es bs) (123 ∷ rest) ≡ Err (TooDeep at)
unfolding outcome
deep_step at name es bs rest deep =
    let one : step at 123 (between Named name [] es bs) ≡ Err (TooDeep at) =
    step_is Between OpenBrace 123 at (between Named name [] es bs) refl kind-open_brace ∙ rw deep refl in
    ap (λ (x : Read). x >>= λ t. outcome (at + 1) t rest) one

pub too_deep_refused : (text : List ℕ) (place : ℕ) → IsTooDeep text place → reading text ≡ Err (TooDeep place)
too_deep_refused text place h =
    let some : 0 < length (sections h.before) = omega (arith, h.deep) in
    let rest = h.more in
    let (bs, open_, (a, one)) = entries_arrive h.before text (h.front ++ 123 ∷ rest) 0 [] [] refl h.entries h.limits some in
    let (g, k, gap, name_is, gap_k, parts) = h.header in
    let whole : h.front ++ 123 ∷ rest ≡ g ++ (h.name ++ (k ++ 123 ∷ rest)) = rw parts (simp append_assoc refl) in
    let b = gap_arrives g (h.name ++ (k ++ 123 ∷ rest)) a Item [] [] h.before bs gap in
    let c =
    name_arrives h.name (k ++ 123 ∷ rest) b.0 h.before bs name_is h.fresh
    (gap_ends k (123 ∷ rest) gap_k (mark_ends 123 OpenBrace rest kind-open_brace refl)) in
    let d = gap_arrives k (123 ∷ rest) c.0 Named h.name [] h.before bs gap_k in
    let same : d.0 ≡ place = omega (arith, one.place, b.1.place, c.1.place, d.1.place, h.place_is, ap length whole) in
    let deep : ltb (length (sections h.before)) 17 ≡ false = rw h.deep refl in
    one.same ∙ ap (outcome a (item h.before bs)) whole ∙ b.1.same ∙ c.1.same ∙ d.1.same ∙ deep_step d.0 h.name h.before bs rest deep
    ∙ ap (λ n. refused (TooDeep n)) same
