-- What bytes put into a sector leave there, and the number that is read again.
use Rattle.std.proofs.Common.{◌≡◌, ◌≤◌, ◌<◌, ℕ, ◌+◌, ◌-◌, ◌^◌, List, ◌++◌, length, take, drop, sym, ap, ◌∙◌, min, arith, length-append}
use Rattle.std.proofs.Common.{append_assoc}
use Rattle.std.proofs.lemmas.List.{take_at, drop_at, drop-drop, length-take, length-take-le, length-drop}
use Rattle.byteorder.specs.Numbers.{little_number-reads_back, length-bytes_low_first}
use Rattle.sector_base.specs.Fields.{field, with_bytes, little_bytes}

-- so many bytes of a number
pub length-little_bytes : (count value : ℕ) → length (little_bytes count value) ≡ count
length-little_bytes count value = length-bytes_low_first 0 count value

-- a number that is put in front is read there again
pub field-front : (count value : ℕ) (rest : List ℕ) → value < 256 ^ count → field count (little_bytes count value ++ rest) 0 ≡ value
field-front count value rest h = little_number-reads_back count value rest h

-- a number that is put at a place is read there again
pub field-at : (front : List ℕ) (count at value : ℕ) (rest : List ℕ) → length front ≡ at → value < 256 ^ count
    → field count (front ++ (little_bytes count value ++ rest)) at ≡ value
field-at front count at value rest is h =
    ap (λ (l : List ℕ). field count l 0) (drop_at front (little_bytes count value ++ rest) at is) ∙ field-front count value rest h

-- bytes that are put at the start
pub with_bytes-start : (sector bytes : List ℕ) → with_bytes sector 0 bytes ≡ bytes ++ drop (length bytes) sector
with_bytes-start sector bytes = ap (λ (n : ℕ). bytes ++ drop n sector) (omega arith)

drop-past_put : (front rest : List ℕ) (at k : ℕ) → length front ≡ at → drop (at + k) (front ++ rest) ≡ drop k rest
drop-past_put front rest at k is = sym (drop-drop k at (front ++ rest)) ∙ ap (drop k) (drop_at front rest at is)

-- bytes that are put behind others are put with them
pub with_bytes-behind : (sector : List ℕ) (at : ℕ) (a : List ℕ) (next : ℕ) (b : List ℕ) → next ≡ at + length a → next ≤ length sector
    → with_bytes (with_bytes sector at a) next b ≡ with_bytes sector at (a ++ b)
with_bytes-behind sector at a next b is fits =
    let front : length (take at sector ++ a) ≡ next = simp (length-append) (omega (arith, length-take-le at sector (omega arith))) in
    let total : at + length (a ++ b) ≡ next + length b = omega (arith, length-append a b) in
    ap (λ (l : List ℕ). l ++ b ++ drop (next + length b) (with_bytes sector at a))
    (take_at (take at sector ++ a) (drop (at + length a) sector) next front)
    ∙ ap (λ (l : List ℕ). take at sector ++ a ++ b ++ l)
    (drop-past_put (take at sector ++ a) (drop (at + length a) sector) next (length b) front
    ∙ drop-drop (length b) (at + length a) sector
    ∙ ap (λ (n : ℕ). drop n sector) (omega (arith, length-append a b)))
    ∙ ap (λ (l : List ℕ). l ++ drop (at + length (a ++ b)) sector) (append_assoc (take at sector) a b)

pub length-with_bytes : (sector : List ℕ) (at : ℕ) (bytes : List ℕ)
    → length (with_bytes sector at bytes) ≡ min at (length sector) + length bytes + (length sector - (at + length bytes))
length-with_bytes sector at bytes =
    simp (length-append, length-take, length-drop)

-- what stands from the place of bytes that are put on
pub drop-with_bytes : (sector : List ℕ) (at : ℕ) (bytes : List ℕ) → at ≤ length sector
    → drop at (with_bytes sector at bytes) ≡ bytes ++ drop (at + length bytes) sector
drop-with_bytes sector at bytes fits =
    ap (drop at) (append_assoc (take at sector) bytes (drop (at + length bytes) sector))
    ∙ drop_at (take at sector) (bytes ++ drop (at + length bytes) sector) at (length-take-le at sector fits)
