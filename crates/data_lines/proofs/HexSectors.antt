-- What hex digits say, byte by byte.
use Rattle.std.proofs.Common.{◌≡◌, ◌<◌, ℕ, zero, suc, ◌+◌, ◌*◌, List, [], ◌∷◌, length, get_or, refl, sym, ap, ◌∙◌, arith}
use Rattle.std.specs.Prelude.{unwrap_or}
use Rattle.std.proofs.lemmas.Grind.{same_number_lists}
use Rattle.hex.specs.Hex.{hex_digit_value}
use Rattle.data_lines.specs.DataLines.{bytes_of_hex}

-- the byte of two digits
abbrev pub byte_of : ℕ → ℕ → ℕ
byte_of high low = unwrap_or (hex_digit_value high) 0 * 16 + unwrap_or (hex_digit_value low) 0

-- the byte at a place
abbrev pub hex_byte : List ℕ → ℕ → ℕ
hex_byte digits k = byte_of (get_or digits (2 * k) 0) (get_or digits (2 * k + 1) 0)

hex_length : (digits : List ℕ) (n : ℕ) → length digits ≡ 2 * n → length (bytes_of_hex digits) ≡ n
hex_length [] n is = omega arith
hex_length (high ∷ []) n is = absurd (omega arith)
hex_length (high ∷ low ∷ rest) zero is = absurd (omega arith)
hex_length (high ∷ low ∷ rest) (suc n) is = let rest_is : length (bytes_of_hex rest) ≡ n = hex_length rest n (omega arith) in omega arith

hex_at : (digits : List ℕ) (k : ℕ) → 2 * k + 1 < length digits → get_or (bytes_of_hex digits) k 0 ≡ hex_byte digits k
hex_at [] k lt = absurd (omega arith)
hex_at (high ∷ []) k lt = absurd (omega arith)
hex_at (high ∷ low ∷ rest) zero lt = refl
hex_at (high ∷ low ∷ rest) (suc k) lt =
    let first : suc (suc (2 * k)) ≡ 2 * suc k = omega arith in
    let second : suc (suc (2 * k + 1)) ≡ 2 * suc k + 1 = omega arith in
    hex_at rest k (omega arith) ∙ ap (λ (n : ℕ). byte_of (get_or (high ∷ low ∷ rest) n 0) (get_or rest (2 * k + 1) 0)) first
    ∙ ap (λ (n : ℕ). byte_of (get_or (high ∷ low ∷ rest) (2 * suc k) 0) (get_or (high ∷ low ∷ rest) n 0)) second

-- bytes that each are of their two digits are all that the digits say
pub is_hex : (digits bytes : List ℕ) (n : ℕ) → length digits ≡ 2 * n → length bytes ≡ n
    → ((k : ℕ) → k < n → get_or bytes k 0 ≡ hex_byte digits k) → bytes ≡ bytes_of_hex digits
is_hex digits bytes n many long each =
    same_number_lists bytes (bytes_of_hex digits) (long ∙ sym (hex_length digits n many))
    (λ k lt. each k (omega arith) ∙ sym (hex_at digits k (omega arith)))
