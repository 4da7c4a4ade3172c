-- Sources of numbers: for each n, the list of the next n numbers.
use Rattle.std.specs.Prelude.{◌≡◌, ℕ, ◌+◌, ◌*◌, ◌/◌, ◌%◌, ◌^◌, bit_xor, List, ◌++◌, length, map, take, replicate}
use Rattle.std.specs.List.{range_with_len}
use Rattle.std.proofs.lemmas.List.{length-take-le, length-append, length-replicate}
use Rattle.std.proofs.lemmas.List.FromFn.{length-map-range_with_len}
use Rattle.std.proofs.Common.{arith}

-- the given numbers, and then zeros
abbrev pub given_words : List ℕ → ℕ → List ℕ
given_words words n = take n (words ++ replicate n 0)

pub length-given_words : (words : List ℕ) (n : ℕ) → length (given_words words n) ≡ n
length-given_words words n =
    length-take-le n (words ++ replicate n 0) (omega (arith, length-append words (replicate n 0), length-replicate {A = ℕ} n 0))

-- a number of 64 bits combined with itself, shifted down, and multiplied, modulo 2^64
abbrev pub xorshift_product : ℕ → ℕ → ℕ → ℕ
xorshift_product z shift factor = (bit_xor z (z / 2 ^ shift) * factor) % 2 ^ 64

-- the output function of SplitMix64 (Steele, Lea and Flood, 2014)
unfoldable pub splitmix_output : ℕ → ℕ
splitmix_output state =
    let z = xorshift_product (xorshift_product state 30 0xBF58476D1CE4E5B9) 27 0x94D049BB133111EB in
    bit_xor z (z / 2 ^ 31)

-- the state of SplitMix64 so many steps on
abbrev pub state_after : ℕ → ℕ → ℕ
state_after state steps = (state + steps * 0x9E3779B97F4A7C15) % 2 ^ 64

-- number i, from 0, is the output of the state i + 1 steps on
abbrev pub splitmix_words : ℕ → ℕ → List ℕ
splitmix_words state n = map (λ i. splitmix_output (state_after state (i + 1))) (range_with_len 0 n)

pub length-splitmix_words : (state n : ℕ) → length (splitmix_words state n) ≡ n
length-splitmix_words state n = length-map-range_with_len (λ i. splitmix_output (state_after state (i + 1))) 0 n
