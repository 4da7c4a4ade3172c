-- The checksum of bytes, one bit at a time, is that of the state taken as a number.
use Rattle.std.proofs.Common.{lit≤, ◌≡◌, ◌≤◌, ◌<◌, ℕ, zero, suc, ◌/◌, ◌%◌, ◌^◌, Bool, true, false, ◌==◌, cond, List, [], ◌∷◌, ◌++◌, length}
use Rattle.std.proofs.Common.{replicate, refl, sym, ap, ◌∙◌, arith}
use Rattle.std.proofs.lemmas.Nat.{xor_shr, xor_mod}
use Rattle.std.proofs.lemmas.Bool.Decides.{nat_tests}
use Rattle.std.specs.Int.RustNames.{bit_xor}
use Rattle.sector_base.specs.Checksum.{bits_of, number_of, differs, xor_bits, polynomial, with_bit, with_bits}

-- exclusive or of two bits that are numbers
pub bit_differs : (a b : ℕ) → a < 2 → b < 2 → (bit_xor a b == 1) ≡ differs (a == 1) (b == 1)
bit_differs zero zero h k = refl
bit_differs zero (suc zero) h k = refl
bit_differs (suc zero) zero h k = refl
bit_differs (suc zero) (suc zero) h k = refl
bit_differs (suc (suc a)) b h k = absurd (omega arith)
bit_differs a (suc (suc b)) h k = absurd (omega arith)

-- the bits of an exclusive or
pub bits_of-xor : (count a b : ℕ) → bits_of count (bit_xor a b) ≡ xor_bits (bits_of count a) (bits_of count b)
unfolding bits_of
bits_of-xor zero a b = refl
bits_of-xor (suc count) a b =
    let low : bit_xor a b % 2 ≡ bit_xor (a % 2) (b % 2) = xor_mod a b 1 in
    let high : bit_xor a b / 2 ≡ bit_xor (a / 2) (b / 2) = xor_shr a b 1 in
    ap (λ (n : ℕ). (n == 1) ∷ bits_of count (bit_xor a b / 2)) low
    ∙ ap (λ (t : Bool). t ∷ bits_of count (bit_xor a b / 2)) (bit_differs (a % 2) (b % 2) (omega arith) (omega arith))
    ∙ ap (λ (n : ℕ). differs (a % 2 == 1) (b % 2 == 1) ∷ bits_of count n) high
    ∙ ap (λ (l : List Bool). differs (a % 2 == 1) (b % 2 == 1) ∷ l) (bits_of-xor count (a / 2) (b / 2))

-- one bit more of a number that has no more
bits_of-suc : (count n : ℕ) → n < 2 ^ count → bits_of (suc count) n ≡ bits_of count n ++ false ∷ []
unfolding bits_of
bits_of-suc zero n h = let e : n ≡ 0 = omega arith in rw e refl
bits_of-suc (suc count) n h = ap (λ (l : List Bool). (n % 2 == 1) ∷ l) (bits_of-suc count (n / 2) (omega arith))

pub length-bits_of : (count n : ℕ) → length (bits_of count n) ≡ count
unfolding bits_of
length-bits_of zero n = refl
length-bits_of (suc count) n = omega (arith, length-bits_of count (n / 2))

-- the number of its bits
pub number_of-bits_of : (count n : ℕ) → n < 2 ^ count → number_of (bits_of count n) ≡ n
unfolding bits_of
number_of-bits_of zero n h = omega arith
number_of-bits_of (suc count) n h =
    let high = number_of-bits_of count (n / 2) (omega arith) in
    grind (arith, nat_tests, high)

-- bits that are past a number's end change nothing
xor_bits-zeros : (xs : List Bool) (count : ℕ) → xor_bits xs (bits_of count 0) ≡ xs
unfolding bits_of
xor_bits-zeros [] count = refl
xor_bits-zeros (true ∷ xs) zero = refl
xor_bits-zeros (false ∷ xs) zero = refl
xor_bits-zeros (true ∷ xs) (suc count) = ap (λ (l : List Bool). true ∷ l) (xor_bits-zeros xs count)
xor_bits-zeros (false ∷ xs) (suc count) = ap (λ (l : List Bool). false ∷ l) (xor_bits-zeros xs count)

pub xor_bits-bits_of : (xs : List Bool) (few many n : ℕ) → n < 2 ^ few → few ≤ many
    → xor_bits xs (bits_of many n) ≡ xor_bits xs (bits_of few n)
unfolding bits_of
xor_bits-bits_of [] few many n h le = refl
xor_bits-bits_of (x ∷ xs) zero many n h le = let e : n ≡ 0 = omega arith in rw e (xor_bits-zeros (x ∷ xs) many)
xor_bits-bits_of (x ∷ xs) (suc few) zero n h le = absurd (omega arith)
xor_bits-bits_of (x ∷ xs) (suc few) (suc many) n h le =
    ap (λ (l : List Bool). differs x (n % 2 == 1) ∷ l) (xor_bits-bits_of xs few many (n / 2) (omega arith) (omega arith))

-- exclusive or in either order
differs-swap : (a b c : Bool) → differs (differs a b) c ≡ differs (differs a c) b
differs-swap true true true = refl
differs-swap true true false = refl
differs-swap true false true = refl
differs-swap true false false = refl
differs-swap false true true = refl
differs-swap false true false = refl
differs-swap false false true = refl
differs-swap false false false = refl

xor_bits-swap : (xs ys zs : List Bool) → xor_bits (xor_bits xs ys) zs ≡ xor_bits (xor_bits xs zs) ys
xor_bits-swap [] ys zs = refl
xor_bits-swap (x ∷ xs) [] [] = refl
xor_bits-swap (x ∷ xs) [] (z ∷ zs) = refl
xor_bits-swap (x ∷ xs) (y ∷ ys) [] = refl
xor_bits-swap (x ∷ xs) (y ∷ ys) (z ∷ zs) =
    ap (λ (t : Bool). t ∷ xor_bits (xor_bits xs ys) zs) (differs-swap x y z)
    ∙ ap (λ (l : List Bool). differs (differs x z) y ∷ l) (xor_bits-swap xs ys zs)

xor_bits-push : (xs ys : List Bool) → length ys ≤ length xs → xor_bits (xs ++ false ∷ []) ys ≡ xor_bits xs ys ++ false ∷ []
xor_bits-push [] [] le = refl
xor_bits-push [] (y ∷ ys) le = absurd (omega arith)
xor_bits-push (x ∷ xs) [] le = refl
xor_bits-push (x ∷ xs) (y ∷ ys) le = ap (λ (l : List Bool). differs x y ∷ l) (xor_bits-push xs ys (omega arith))

pub differs-false : (a : Bool) → differs a false ≡ a
differs-false true = refl
differs-false false = refl

-- a bit that is divided in may be combined with the state before, and so may the bits that follow it
pub with_bit-xor_bits : (low input : Bool) (high inputs : List Bool) → length inputs ≤ length high
    → with_bit (xor_bits (low ∷ high) (input ∷ inputs)) false ≡ xor_bits (with_bit (low ∷ high) input) inputs
with_bit-xor_bits low input high inputs le =
    ap (λ (t : Bool). cond t (xor_bits (xor_bits high inputs ++ false ∷ []) polynomial) (xor_bits high inputs ++ false ∷ []))
    (differs-false (differs low input))
    ∙ (elim (differs low input) as (λ t. cond t (xor_bits (xor_bits high inputs ++ false ∷ []) polynomial)
    (xor_bits high inputs ++ false ∷ []) ≡ xor_bits (cond t (xor_bits (high ++ false ∷ []) polynomial) (high ++ false ∷ [])) inputs) [
      | true ↦ ap (λ (l : List Bool). xor_bits l polynomial) (sym (xor_bits-push high inputs le))
          ∙ xor_bits-swap (high ++ false ∷ []) inputs polynomial
      | false ↦ sym (xor_bits-push high inputs le)
    ])

length-xor_bits : (xs ys : List Bool) → length (xor_bits xs ys) ≡ length xs
length-xor_bits [] ys = refl
length-xor_bits (x ∷ xs) [] = refl
length-xor_bits (x ∷ xs) (y ∷ ys) = omega (arith, length-xor_bits xs ys)

length-push : (xs : List Bool) (x : Bool) → length (xs ++ x ∷ []) ≡ suc (length xs)
length-push [] x = refl
length-push (y ∷ xs) x = omega (arith, length-push xs x)

pub length-with_bit : (state : List Bool) (input : Bool) → length (with_bit state input) ≡ length state
length-with_bit [] input = refl
length-with_bit (low ∷ high) input =
    elim (differs low input) as (λ t. length (cond t (xor_bits (high ++ false ∷ []) polynomial) (high ++ false ∷ [])) ≡ suc (length high)) [
      | true ↦ length-xor_bits (high ++ false ∷ []) polynomial ∙ length-push high false
      | false ↦ length-push high false
    ]

-- a few bits combined with the state, and then as many steps without input, divide these bits in
pub with_bits-xor_bits : (state inputs : List Bool) → length inputs ≤ length state
    → with_bits (xor_bits state inputs) (replicate (length inputs) false) ≡ with_bits state inputs
with_bits-xor_bits [] [] le = refl
with_bits-xor_bits (low ∷ high) [] le = refl
with_bits-xor_bits [] (input ∷ inputs) le = absurd (omega arith)
with_bits-xor_bits (low ∷ high) (input ∷ inputs) le =
    ap (λ (l : List Bool). with_bits l (replicate (length inputs) false)) (with_bit-xor_bits low input high inputs (omega arith))
    ∙ with_bits-xor_bits (with_bit (low ∷ high) input) inputs (omega (arith, length-with_bit (low ∷ high) input))

pub with_bits-append : (state xs ys : List Bool) → with_bits state (xs ++ ys) ≡ with_bits (with_bits state xs) ys
with_bits-append state [] ys = refl
with_bits-append state (x ∷ xs) ys = with_bits-append (with_bit state x) xs ys

replicate-push : (n : ℕ) → replicate (suc n) false ≡ replicate n false ++ false ∷ []
replicate-push zero = refl
replicate-push (suc n) = ap (λ (l : List Bool). false ∷ l) (replicate-push n)

-- one step more without input
pub with_bits-step : (state : List Bool) (n : ℕ)
    → with_bits state (replicate (suc n) false) ≡ with_bit (with_bits state (replicate n false)) false
with_bits-step state n =
    ap (λ (l : List Bool). with_bits state l) (replicate-push n) ∙ with_bits-append state (replicate n false) (false ∷ [])

-- one step of a state that is a number
pub with_bit-number : (n : ℕ) → n < 2 ^ 32
    → with_bit (bits_of 32 n) false ≡ bits_of 32 (cond (n % 2 == 1) (bit_xor (n / 2) 0xEDB88320) (n / 2))
unfolding bits_of polynomial
with_bit-number n h =
    let shifted : bits_of 31 (n / 2) ++ false ∷ [] ≡ bits_of 32 (n / 2) = sym (bits_of-suc 31 (n / 2) (omega arith)) in
    ap (λ (t : Bool). cond t (xor_bits (bits_of 31 (n / 2) ++ false ∷ []) (bits_of 32 0xEDB88320)) (bits_of 31 (n / 2) ++ false ∷ []))
    (differs-false (n % 2 == 1))
    ∙ (elim (n % 2 == 1) as (λ t. cond t (xor_bits (bits_of 31 (n / 2) ++ false ∷ []) (bits_of 32 0xEDB88320))
    (bits_of 31 (n / 2) ++ false ∷ []) ≡ bits_of 32 (cond t (bit_xor (n / 2) 0xEDB88320) (n / 2))) [
      | true ↦ ap (λ (l : List Bool). xor_bits l (bits_of 32 0xEDB88320)) shifted ∙ sym (bits_of-xor 32 (n / 2) 0xEDB88320)
      | false ↦ shifted
    ])

-- one byte of a state that is a number
pub with_bits-byte : (state byte : ℕ) → byte < 256
    → with_bits (bits_of 32 state) (bits_of 8 byte) ≡ with_bits (bits_of 32 (bit_xor state byte)) (replicate 8 false)
with_bits-byte state byte h =
    sym (with_bits-xor_bits (bits_of 32 state) (bits_of 8 byte) (omega (arith, length-bits_of 8 byte, length-bits_of 32 state)))
    ∙ ap (λ (n : ℕ). with_bits (xor_bits (bits_of 32 state) (bits_of 8 byte)) (replicate n false)) (length-bits_of 8 byte)
    ∙ ap (λ (l : List Bool). with_bits l (replicate 8 false))
    (sym (bits_of-xor 32 state byte ∙ xor_bits-bits_of (bits_of 32 state) 8 32 byte h (lit≤ tt)))
