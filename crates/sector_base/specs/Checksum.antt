-- The checksum of lvm2's on-disk format, one bit at a time: the reflected CRC with the polynomial EDB88320, without a
-- final inversion.
use Rattle.std.specs.Prelude.{ℕ, zero, suc, ◌+◌, ◌*◌, ◌/◌, ◌%◌, Bool, false, not, ◌==◌, if◌then◌else◌, List, [], ◌∷◌, ◌++◌, flat_map}

-- so many bits of a number, the lowest first
unfoldable pub bits_of : ℕ → ℕ → List Bool
bits_of zero number = []
bits_of (suc count) number = (number % 2 == 1) ∷ bits_of count (number / 2)

-- the number of these bits, the lowest first
abbrev pub number_of : List Bool → ℕ
number_of [] = 0
number_of (bit ∷ bits) = (if bit then 1 else 0) + 2 * number_of bits

-- one bit or the other, and not both
abbrev pub differs : Bool → Bool → Bool
differs a b = if a then not b else b

-- the two lists of bits combined by exclusive or, as far as the first goes
abbrev pub xor_bits : List Bool → List Bool → List Bool
xor_bits [] ys = []
xor_bits (x ∷ xs) [] = x ∷ xs
xor_bits (x ∷ xs) (y ∷ ys) = differs x y ∷ xor_bits xs ys

-- the bits of the polynomial EDB88320, the lowest first
unfoldable pub polynomial : List Bool
polynomial = bits_of 32 0xEDB88320

-- one input bit is divided in: the state shifts down by one, and the polynomial is combined with it where the bit
-- that leaves differs from the input bit
abbrev pub with_bit : List Bool → Bool → List Bool
with_bit [] input = []
with_bit (low ∷ high) input = if differs low input then xor_bits (high ++ false ∷ []) polynomial else high ++ false ∷ []

-- the input bits are divided in, one after another
abbrev pub with_bits : List Bool → List Bool → List Bool
with_bits state [] = state
with_bits state (input ∷ inputs) = with_bits (with_bit state input) inputs

-- from where lvm2 starts the checksum of a label, of an area header and of a text
abbrev pub lvm_crc_start : ℕ
lvm_crc_start = 0xF597A6CF

-- the checksum of these bytes from a state of 32 bits on; each byte's lowest bit comes first
unfoldable pub checksum : ℕ → List ℕ → ℕ
checksum start bytes = number_of (with_bits (bits_of 32 start) (flat_map (bits_of 8) bytes))
