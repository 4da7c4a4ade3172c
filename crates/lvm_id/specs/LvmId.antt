-- Ids of lvm2: 32 characters of its alphabet, printed in groups.
use Rattle.std.specs.Prelude.{◌≡◌, ℕ, ◌+◌, ◌-◌, ◌/◌, ◌%◌, ◌^◌, ◌<◌, Bool, ◌||◌, ◌==◌, nat_lt, if◌then◌else◌, IsTrue, IsFalse, List, [], ◌∷◌}
use Rattle.std.specs.Prelude.{length, map, take, drop, All, flat_map, slice_index}
use Rattle.std.specs.Char.{is_ascii_alphanumeric}
use Rattle.std.specs.List.{range_with_len, join_with_byte}

-- whether a byte is in lvm2's alphabet of ids: a digit, a letter, `!` or `#`
abbrev pub is_id_char : ℕ → Bool
is_id_char c = is_ascii_alphanumeric c || c == 33 || c == 35

-- the byte is in that alphabet
abbrev pub IsIdChar : ℕ → Type 0
IsIdChar c = IsTrue (is_id_char c)

-- an id as it is stored: 32 characters
pub record IsId (chars : List ℕ) : Type 0 where
  pub length_is : length chars ≡ 32
  pub in_alphabet : All IsIdChar chars

-- a text cut into pieces of these lengths
abbrev pub pieces : List ℕ → List ℕ → List (List ℕ)
pieces [] text = []
pieces (n ∷ ns) text = take n text ∷ pieces ns (drop n text)

-- an id as it prints: its groups with hyphens between
unfoldable pub hyphen_form : List ℕ → List ℕ
hyphen_form chars = join_with_byte 45 (pieces (6 ∷ 4 ∷ 4 ∷ 4 ∷ 4 ∷ 4 ∷ 6 ∷ []) chars)

-- the places of the hyphens in a printed id
abbrev pub is_hyphen_place : ℕ → Bool
is_hyphen_place place = place == 6 || place == 11 || place == 16 || place == 21 || place == 26 || place == 31

-- whether a byte may stand at this place of an id as it is stored
abbrev pub fits_plain : ℕ → ℕ → Bool
fits_plain place byte = is_id_char byte

-- whether a byte may stand at this place of an id as it prints
abbrev pub fits_hyphenated : ℕ → ℕ → Bool
fits_hyphenated place byte = if is_hyphen_place place then byte == 45 else is_id_char byte

-- the first place of a text whose byte may not stand there
pub record IsFirstMisfit (fits : ℕ → ℕ → Bool) (text : List ℕ) (place : ℕ) : Type 0 where
  pub within : place < length text
  pub before : (k : ℕ) → k < place → IsTrue (fits k (slice_index text k))
  pub misfit : IsFalse (fits place (slice_index text place))

-- the digit 0 to 61: `0-9`, `a-z`, `A-Z`
unfoldable pub digit_char : ℕ → ℕ
digit_char digit = if nat_lt digit 10 then 48 + digit else if nat_lt digit 36 then 97 + (digit - 10) else 65 + (digit - 36)

-- the last eight digits of a number in base 62, the lowest first
unfoldable pub word_chars : ℕ → List ℕ
word_chars word = map (λ j. digit_char ((word / 62 ^ j) % 62)) (range_with_len 0 8)

-- the characters that these numbers give, one number after another
abbrev pub id_of_words : List ℕ → List ℕ
id_of_words words = flat_map word_chars words
