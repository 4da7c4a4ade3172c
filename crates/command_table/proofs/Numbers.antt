-- The number of a word, as `parse` reads it.
use Rattle.std.proofs.Common.{◌≡◌, ◌<◌, ◌^◌, ◌==◌, ℕ, not, true, false, nat_lt, nat_le, List, [], ◌∷◌, length, Some, None, Result, Ok, Err}
use Rattle.std.proofs.Common.{refl, ap, sym, subst, inl, inr, ◌⊎◌, arith, lt-ltb, ltb-true, leb-true}
use Rattle.std.proofs.lemmas.Bool.{and_parts, cases_Bool, true≢false, ne_eqb}
use Rattle.std.proofs.lemmas.Str.{IsUtf8-from_ascii}
use Rattle.std.proofs.lemmas.Str.Ascii.{IsAscii-cons, IsAscii-nil}
use Rattle.std.specs.Str.{IsAscii, IsUtf8}
use Rattle.std.specs.List.{list_all}
use Rattle.std.specs.Result.{OkIff, result_ok}
use Rattle.std.specs.Str.Parse.{AllDigits, IsNumeral, ParsesUnsigned, digits_value, without_leading_plus}
use Rattle.command_table.specs.Values.{is_digit, is_numeral, number_of}

all_digits : (ds : List ℕ) → list_all is_digit ds ≡ true → AllDigits 10 ds
all_digits [] all = tt
all_digits (d ∷ ds) all =
    let both = and_parts (is_digit d) (list_all is_digit ds) all in
    let here = and_parts (nat_le 48 d) (nat_le d 57) both.0 in
    let least = leb-true 48 d here.0 in
    let most = leb-true d 57 here.1 in
    (grind (arith, least, most), all_digits ds both.1)

no_plus : (ds : List ℕ) → list_all is_digit ds ≡ true → without_leading_plus ds ≡ ds
no_plus [] all = refl
no_plus (d ∷ ds) all =
    let here = and_parts (nat_le 48 d) (nat_le d 57) (and_parts (is_digit d) (list_all is_digit ds) all).0 in
    let least = leb-true 48 d here.0 in
    let other : (d == 43) ≡ false = ne_eqb d 43 (λ e. omega (arith, least, e)) in
    rw other refl

some_length : (ds : List ℕ) → not (length ds == 0) ≡ true → 0 < length ds
some_length [] some = absurd (true≢false (sym some))
some_length (d ∷ ds) some = omega arith

parsed : {E : Type 0} (ds : List ℕ) (r : Result ℕ E) → is_numeral ds ≡ true → IsNumeral 10 ds
    → OkIff r (IsNumeral 10 ds × (digits_value 10 ds < 2 ^ 64)) (digits_value 10 ds) → result_ok r ≡ number_of ds
parsed ds (Ok n) numeral is parses = rw (numeral, lt-ltb (digits_value 10 ds) (2 ^ 64) parses.0.1) (ap Some parses.1)
parsed ds (Err e) numeral is parses = go (cases_Bool (nat_lt (digits_value 10 ds) (2 ^ 64)))
  where
    go : (nat_lt (digits_value 10 ds) (2 ^ 64) ≡ true) ⊎ (nat_lt (digits_value 10 ds) (2 ^ 64) ≡ false) → None ≡ number_of ds
    go (inl fits) = absurd (parses (is, ltb-true (digits_value 10 ds) (2 ^ 64) fits))
    go (inr past) = rw (numeral, past) refl

pub parsed_number : {E : Type 0} (ds : List ℕ) (r : Result ℕ E) → is_numeral ds ≡ true → ParsesUnsigned 64 10 ds r
    → result_ok r ≡ number_of ds
parsed_number ds r numeral parses =
    let both = and_parts (not (length ds == 0)) (list_all is_digit ds) numeral in
    parsed ds r numeral (some_length ds both.0, all_digits ds both.1)
    (subst (λ text. OkIff r (IsNumeral 10 text × (digits_value 10 text < 2 ^ 64)) (digits_value 10 text)) (no_plus ds both.1) parses)

ascii : (ds : List ℕ) → list_all is_digit ds ≡ true → IsAscii ds
ascii [] all = IsAscii-nil
ascii (d ∷ ds) all =
    let both = and_parts (is_digit d) (list_all is_digit ds) all in
    let here = and_parts (nat_le 48 d) (nat_le d 57) both.0 in
    let most = leb-true d 57 here.1 in
    IsAscii-cons d ds (omega (arith, most)) (ascii ds both.1)

-- digits are a text
pub is_text : (ds : List ℕ) → is_numeral ds ≡ true → IsUtf8 ds
is_text ds numeral = IsUtf8-from_ascii ds (ascii ds (and_parts (not (length ds == 0)) (list_all is_digit ds) numeral).1)
