-- The names of segments.
use Rattle.std.proofs.Common.{◌≡◌, ◌≢◌, ℕ, ◌<◌, ◌^◌, true, false, List, [], ◌∷◌, ◌++◌, get_or, refl, sym, arith}
use Rattle.std.specs.Prelude.{nat_eq, codes}
use Rattle.std.specs.Char.{is_ascii_digit}
use Rattle.std.specs.Fmt.{decimal}
use Rattle.std.specs.List.{list_all}
use Rattle.std.specs.Str.Parse.{AllDigits}
use Rattle.std.specs.Cmp.Lexicographic.{pointwise, same_text}
use Rattle.std.proofs.lemmas.Bool.{ne_eqb, false_from_ne_true}
use Rattle.std.proofs.lemmas.Bool.Decides.{nat_tests}
use Rattle.std.proofs.lemmas.Fmt.{digits_decimal, first_decimal, decimal_injective}
use Rattle.std.proofs.lemmas.Str.Parse.{numerals_by_value, tells_digits, digit_from_value}
use Rattle.meta_model.specs.Standing.{is_segment_name}

-- the name of the segment with this number
abbrev pub numbered : ℕ → List ℕ
numbered at = codes "segment" ++ decimal at

digits_are : (ds : List ℕ) → AllDigits 10 ds → list_all is_ascii_digit ds ≡ true
digits_are [] h = refl
digits_are (c ∷ ds) h =
    let first : is_ascii_digit c ≡ true = grind (arith, digit_from_value c h.0, nat_tests) in
    rw (first, digits_are ds h.1) refl

pub decimal_digits : (n : ℕ) → n < 2 ^ 64 → list_all is_ascii_digit (decimal n) ≡ true
decimal_digits n h = digits_are (decimal n) (digits_decimal (numerals_by_value (AllDigits 10) tells_digits) n h)

named_by : (ds : List ℕ) → 48 < get_or ds 0 0 → list_all is_ascii_digit ds ≡ true → is_segment_name (codes "segment" ++ ds) ≡ true
named_by [] first all = absurd (omega (arith, first))
named_by (d ∷ ds) first all =
    let other : nat_eq d 48 ≡ false = ne_eqb d 48 (λ e. omega (arith, first, e)) in
    rw (other, all) refl

pub numbered_names : (at : ℕ) → 0 < at → at < 2 ^ 64 → is_segment_name (numbered at) ≡ true
numbered_names at some fits = named_by (decimal at) (first_decimal at some fits) (decimal_digits at fits)

pub numbered_differ : (m n : ℕ) → m < 2 ^ 64 → n < 2 ^ 64 → m ≢ n → pointwise nat_eq (numbered m) (numbered n) ≡ false
numbered_differ m n first second differ =
    false_from_ne_true (pointwise nat_eq (numbered m) (numbered n))
    (λ e. differ (decimal_injective m n first second (same_text (decimal m) (decimal n) (sym e))))
