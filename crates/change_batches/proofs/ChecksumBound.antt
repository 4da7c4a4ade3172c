-- A checksum has 32 bits.
use Rattle.std.proofs.Common.{◌≡◌, ◌<◌, ℕ, suc, ◌+◌, ◌*◌, ◌^◌, Bool, true, false, List, [], ◌∷◌, length, refl, subst, ◌∙◌, arith}
use Rattle.std.specs.List.{flat_map}
use Rattle.sector_base.specs.Checksum.{bits_of, checksum, number_of, with_bit, with_bits}
use Rattle.sector_base.proofs.Checksums.{length-bits_of, length-with_bit}

number_below : (bits : List Bool) → number_of bits < 2 ^ length bits
number_below [] = omega arith
number_below (true ∷ bits) = let below : 1 + 2 * number_of bits < 2 ^ suc (length bits) = omega (arith, number_below bits) in below
number_below (false ∷ bits) = let below : 0 + 2 * number_of bits < 2 ^ suc (length bits) = omega (arith, number_below bits) in below

as_long : (state inputs : List Bool) → length (with_bits state inputs) ≡ length state
as_long state [] = refl
as_long state (input ∷ inputs) = as_long (with_bit state input) inputs ∙ length-with_bit state input

pub checksum_below : (start : ℕ) (bytes : List ℕ) → checksum start bytes < 2 ^ 32
unfolding checksum
checksum_below start bytes =
    let inputs : List Bool = flat_map (bits_of 8) bytes in
    subst (λ (n : ℕ). number_of (with_bits (bits_of 32 start) inputs) < 2 ^ n) (as_long (bits_of 32 start) inputs ∙ length-bits_of 32 start)
    (number_below (with_bits (bits_of 32 start) inputs))
