-- The hex digits of bytes.
use Rattle.std.proofs.Common.{◌≡◌, ◌<◌, ◌≤◌, ◌-◌, ◌/◌, ◌%◌, ℕ, List, [], ◌∷◌, Result, Ok, length, reverse, refl, ap, sym, subst, ◌∙◌, ◌⊎◌}
use Rattle.std.proofs.Common.{inl, inr, arith, suc}
use Rattle.std.proofs.lemmas.Bool.{cases_lt}
use Rattle.std.proofs.lemmas.List.{get_or-reverse, get_or_past, length-reverse}
use Rattle.std.proofs.lemmas.List.FromFn.{get_or-map-range_with_len}
use Rattle.std.specs.Prelude.{OnOk, ⊤, flat_map, slice_index}
use Rattle.hex.specs.Hex.{IsBytes, encode_lower, encode_with, lower_digits}
use Rattle.line_answers.specs.Answers.{hex_byte, hex_digit}

digit : (d : ℕ) → d < 16 → slice_index lower_digits d ≡ hex_digit d
digit d lt = get_or-map-range_with_len hex_digit 0 16 d d 0 lt (omega arith)

-- two digits for each byte
hex_text : (bytes : List ℕ) → IsBytes bytes → encode_lower bytes ≡ flat_map hex_byte bytes
unfolding encode_with
hex_text [] fits = refl
hex_text (byte ∷ bytes) fits =
    let fit = fits 0 in
    rw (digit (byte / 16) (omega (arith, fit)), digit (byte % 16) (omega (arith, fit)))
    (ap (λ text. hex_digit (byte / 16) ∷ hex_digit (byte % 16) ∷ text) (hex_text bytes (λ i. fits (suc i))))

-- bytes in the other order are bytes
pub are_bytes-reverse : (bytes : List ℕ) → IsBytes bytes → IsBytes (reverse bytes)
are_bytes-reverse bytes fits i = go (cases_lt i (length bytes))
  where
    go : (i < length bytes) ⊎ (length bytes ≤ i) → slice_index (reverse bytes) i < 256
    go (inl within) = subst (λ b. b < 256) (sym (get_or-reverse bytes i 0 within)) (fits (length bytes - 1 - i))
    go (inr past) = subst (λ b. b < 256) (sym (get_or_past (reverse bytes) i 0 (omega (arith, past, length-reverse bytes)))) (omega arith)

-- what was written by a call that went well
pub hex_written : {E : Type 0} (r : Result ⊤ E) (text bytes : List ℕ) → IsBytes bytes → OnOk r (text ≡ encode_lower bytes) → (well : ⊤)
    → r ≡ Ok well → text ≡ flat_map hex_byte bytes
hex_written r text bytes fits written well is = subst (λ r. OnOk r (text ≡ encode_lower bytes)) is written ∙ hex_text bytes fits
