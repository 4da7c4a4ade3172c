-- Divisions eight at once: what they leave of each byte stands in tables, and the bytes of a state and of what is combined with it
-- are divided by one table each.
use Rattle.std.proofs.Common.{lit≤, length-append, slice_index, slice_index_or, ◌≡◌, ◌≤◌, ◌<◌, ℕ, zero, suc, ◌+◌, ◌*◌, ◌/◌, ◌%◌, ◌^◌, Bool, true, false}
use Rattle.std.proofs.Common.{◌==◌, cond, List, [], ◌∷◌, ◌++◌, length, map, replicate, refl, sym, ap, subst, ◌∙◌, arith}
use Rattle.std.specs.List.{flat_map, range_with_len}
use Rattle.std.proofs.lemmas.List.{length-replicate}
use Rattle.std.proofs.lemmas.List.FromFn.{get_or-map-range_with_len}
use Rattle.std.proofs.lemmas.Nat.{xor_of_32, xor_shr, xor_mod, xor_comm}
use lib.Bits.{xor_assoc, xor_self, xor_zero_r, xor_shifted}
use Rattle.std.specs.Int.RustNames.{bit_xor}
use Rattle.byteorder.specs.Endian.{little_number}
use Rattle.sector_base.specs.Checksum.{bits_of, differs, xor_bits, with_bit, with_bits}
use Rattle.sector_base.specs.declared.division_table.TheConstants.{DIVIDED}
use Rattle.sector_base.proofs.Checksums.{bits_of-xor, bit_differs, xor_bits-bits_of, differs-false, with_bit-xor_bits, with_bit-number}
use Rattle.sector_base.proofs.Checksums.{with_bits-step, with_bits-byte, with_bits-append, length-bits_of, length-with_bit}

-- one division of a state that is a number
abbrev pub halved : ℕ → ℕ
halved n = cond (n % 2 == 1) (bit_xor (n / 2) 0xEDB88320) (n / 2)

-- so many of them
abbrev pub halvings : ℕ → ℕ → ℕ
halvings zero n = n
halvings (suc k) n = halvings k (halved n)

-- eight divisions by the first table
abbrev pub divided : ℕ → ℕ
divided n = bit_xor (slice_index (slice_index_or DIVIDED 0 []) (n % 256)) (n / 256)

-- so many times eight of them
abbrev pub dividings : ℕ → ℕ → ℕ
dividings zero n = n
dividings (suc k) n = dividings k (divided n)

-- the tables have what is left of each byte
DIVIDED-is : DIVIDED ≡ map (λ k. map (λ r. dividings k (halvings 8 r)) (range_with_len 0 256)) (range_with_len 0 8)
DIVIDED-is = refl

-- bits that lie behind the next k divisions may be combined with the state after them
with_bits-behind : (k : ℕ) (state behind : List Bool) → k + length behind ≤ length state
    → with_bits (xor_bits state (replicate k false ++ behind)) (replicate k false) ≡ xor_bits (with_bits state (replicate k false)) behind
with_bits-behind zero state behind le = refl
with_bits-behind (suc k) [] behind le = absurd (omega arith)
with_bits-behind (suc k) (low ∷ high) behind le =
    ap (λ (l : List Bool). with_bits l (replicate k false))
    (with_bit-xor_bits low false high (replicate k false ++ behind)
    (omega (arith, length-append (replicate k false) behind, length-replicate {A = Bool} k false)))
    ∙ with_bits-behind k (with_bit (low ∷ high) false) behind (omega (arith, length-with_bit (low ∷ high) false))

-- bits behind a number's end
zeros-xor_bits : (count n : ℕ) → xor_bits (bits_of count 0) (bits_of count n) ≡ bits_of count n
unfolding bits_of
zeros-xor_bits zero n = refl
zeros-xor_bits (suc count) n = ap (λ (l : List Bool). (n % 2 == 1) ∷ l) (zeros-xor_bits count (n / 2))

-- the low bits of a number, and behind them the others
bits_of-split : (k m r q : ℕ) → r < 2 ^ k
    → bits_of (k + m) (r + 2 ^ k * q) ≡ xor_bits (bits_of (k + m) r) (replicate k false ++ bits_of m q)
unfolding bits_of
bits_of-split zero m r q h =
    let none : r ≡ 0 = omega arith in
    rw none (ap (λ (n : ℕ). bits_of (0 + m) n) (omega arith) ∙ ap (λ (n : ℕ). bits_of n q) (omega arith) ∙ sym (zeros-xor_bits m q)
    ∙ ap (λ (n : ℕ). xor_bits (bits_of n 0) (bits_of m q)) (omega arith))
bits_of-split (suc k) m r q h =
    let next : suc k + m ≡ suc (k + m) = omega arith in
    let twice : 2 ^ suc k ≡ 2 * 2 ^ k = omega arith in
    let product : 2 ^ suc k * q ≡ 2 * (2 ^ k * q) = ap (λ (n : ℕ). n * q) twice ∙ (omega arith) in
    let low : (r + 2 ^ suc k * q) % 2 ≡ r % 2 = omega arith in
    let high : (r + 2 ^ suc k * q) / 2 ≡ r / 2 + 2 ^ k * q = omega arith in
    ap (λ (n : ℕ). bits_of n (r + 2 ^ suc k * q)) next
    ∙ ap (λ (n : ℕ). (n == 1) ∷ bits_of (k + m) ((r + 2 ^ suc k * q) / 2)) low
    ∙ ap (λ (n : ℕ). (r % 2 == 1) ∷ bits_of (k + m) n) high
    ∙ ap (λ (l : List Bool). (r % 2 == 1) ∷ l) (bits_of-split k m (r / 2) q (omega arith))
    ∙ ap (λ (t : Bool). t ∷ xor_bits (bits_of (k + m) (r / 2)) (replicate k false ++ bits_of m q)) (sym (differs-false (r % 2 == 1)))
    ∙ ap (λ (n : ℕ). xor_bits (bits_of n r) (replicate (suc k) false ++ bits_of m q)) (sym next)

halved-fits : (n : ℕ) → n < 2 ^ 32 → halved n < 2 ^ 32
halved-fits n h = elim (n % 2 == 1) as (λ t. cond t (bit_xor (n / 2) 0xEDB88320) (n / 2) < 2 ^ 32) [
  | true ↦ xor_of_32 (n / 2) 0xEDB88320 (omega arith) (lit≤ tt)
  | false ↦ omega arith
]

-- one division more of a state that is a number
halved-more : (k : ℕ) (start : List Bool) (n : ℕ) → (n < 2 ^ 32) × (with_bits start (replicate k false) ≡ bits_of 32 n)
    → (halved n < 2 ^ 32) × (with_bits start (replicate (suc k) false) ≡ bits_of 32 (halved n))
halved-more k start n h = (halved-fits n h.0, with_bits-step start k ∙ ap (λ (l : List Bool). with_bit l false) h.1 ∙ with_bit-number n h.0)

-- so many of them
with_bits-halvings : (k n : ℕ) → n < 2 ^ 32
    → (halvings k n < 2 ^ 32) × (with_bits (bits_of 32 n) (replicate k false) ≡ bits_of 32 (halvings k n))
with_bits-halvings zero n h = (h, refl)
with_bits-halvings (suc k) n h =
    let rest = with_bits-halvings k (halved n) (halved-fits n h) in
    (rest.0, ap (λ (l : List Bool). with_bits l (replicate k false)) (with_bit-number n h) ∙ rest.1)

-- what a table has of a byte
entry : (k r : ℕ) → k < 8 → r < 256 → slice_index (slice_index_or DIVIDED k []) r ≡ dividings k (halvings 8 r)
entry k r few small =
    let row = λ (at : ℕ). map (λ (byte : ℕ). dividings at (halvings 8 byte)) (range_with_len 0 256) in
    ap (λ (tables : List (List ℕ)). slice_index (slice_index_or tables k []) r) DIVIDED-is
    ∙ ap (λ (table : List ℕ). slice_index table r) (get_or-map-range_with_len row 0 8 k k [] (omega arith) (omega arith))
    ∙ get_or-map-range_with_len (λ (byte : ℕ). dividings k (halvings 8 byte)) 0 256 r r 0 (omega arith) (omega arith)

divided-is : (n : ℕ) → divided n ≡ bit_xor (halvings 8 (n % 256)) (n / 256)
divided-is n = ap (λ (low : ℕ). bit_xor low (n / 256)) (entry 0 (n % 256) (lit≤ tt) (omega arith))

pub divided-fits : (n : ℕ) → n < 2 ^ 32 → divided n < 2 ^ 32
divided-fits n h =
    let low = (with_bits-halvings 8 (n % 256) (omega arith)).0 in
    subst (λ left. left < 2 ^ 32) (sym (divided-is n)) (xor_of_32 (halvings 8 (n % 256)) (n / 256) low (omega arith))

-- eight divisions of the state, by the first table
pub with_bits-table : (state : ℕ) → state < 2 ^ 32 → with_bits (bits_of 32 state) (replicate 8 false) ≡ bits_of 32 (divided state)
with_bits-table state h =
    let low = state % 256 in
    let high = state / 256 in
    let parts : state ≡ low + 2 ^ 8 * high = omega arith in
    ap (λ (n : ℕ). with_bits (bits_of 32 n) (replicate 8 false)) parts
    ∙ ap (λ (l : List Bool). with_bits l (replicate 8 false)) (bits_of-split 8 24 low high (omega arith))
    ∙ with_bits-behind 8 (bits_of 32 low) (bits_of 24 high) (omega (arith, length-bits_of 24 high, length-bits_of 32 low))
    ∙ ap (λ (l : List Bool). xor_bits l (bits_of 24 high)) (with_bits-halvings 8 low (omega arith)).1
    ∙ sym (xor_bits-bits_of (bits_of 32 (halvings 8 low)) 24 32 high (omega arith) (lit≤ tt))
    ∙ sym (bits_of-xor 32 (halvings 8 low) high)
    ∙ ap (bits_of 32) (sym (divided-is state))

-- exclusive or of numbers in another order
xor-swap : (a b c : ℕ) → bit_xor (bit_xor a b) c ≡ bit_xor (bit_xor a c) b
xor-swap a b c = xor_assoc a b c ∙ ap (bit_xor a) (xor_comm b c) ∙ sym (xor_assoc a c b)

xor-pairs : (a b c d : ℕ) → bit_xor (bit_xor a b) (bit_xor c d) ≡ bit_xor (bit_xor a c) (bit_xor b d)
xor-pairs a b c d =
    sym (xor_assoc (bit_xor a b) c d) ∙ ap (λ (n : ℕ). bit_xor n d) (xor-swap a b c) ∙ xor_assoc (bit_xor a c) b d

-- a division of two numbers together
halved-cases : (s t : Bool) (x y p : ℕ) → cond (differs s t) (bit_xor (bit_xor x y) p) (bit_xor x y)
    ≡ bit_xor (cond s (bit_xor x p) x) (cond t (bit_xor y p) y)
halved-cases false false x y p = refl
halved-cases true false x y p = xor-swap x y p
halved-cases false true x y p = xor_assoc x y p
halved-cases true true x y p =
    sym (xor-pairs x p y p ∙ ap (bit_xor (bit_xor x y)) (xor_self p) ∙ xor_zero_r (bit_xor x y))

halved-xor : (a b : ℕ) → halved (bit_xor a b) ≡ bit_xor (halved a) (halved b)
halved-xor a b =
    let low : bit_xor a b % 2 ≡ bit_xor (a % 2) (b % 2) = xor_mod a b 1 in
    let high : bit_xor a b / 2 ≡ bit_xor (a / 2) (b / 2) = xor_shr a b 1 in
    let test : (bit_xor a b % 2 == 1) ≡ differs (a % 2 == 1) (b % 2 == 1) =
    ap (λ (n : ℕ). n == 1) low ∙ bit_differs (a % 2) (b % 2) (omega arith) (omega arith) in
    ap (λ (t : Bool). cond t (bit_xor (bit_xor a b / 2) 0xEDB88320) (bit_xor a b / 2)) test
    ∙ ap (λ (n : ℕ). cond (differs (a % 2 == 1) (b % 2 == 1)) (bit_xor n 0xEDB88320) n) high
    ∙ halved-cases (a % 2 == 1) (b % 2 == 1) (a / 2) (b / 2) 0xEDB88320

halvings-xor : (k a b : ℕ) → halvings k (bit_xor a b) ≡ bit_xor (halvings k a) (halvings k b)
halvings-xor zero a b = refl
halvings-xor (suc k) a b = ap (halvings k) (halved-xor a b) ∙ halvings-xor k (halved a) (halved b)

divided-xor : (a b : ℕ) → divided (bit_xor a b) ≡ bit_xor (divided a) (divided b)
divided-xor a b =
    let low : bit_xor a b % 256 ≡ bit_xor (a % 256) (b % 256) = xor_mod a b 8 in
    let high : bit_xor a b / 256 ≡ bit_xor (a / 256) (b / 256) = xor_shr a b 8 in
    divided-is (bit_xor a b)
    ∙ ap (λ (n : ℕ). bit_xor (halvings 8 n) (bit_xor a b / 256)) low
    ∙ ap (bit_xor (halvings 8 (bit_xor (a % 256) (b % 256)))) high
    ∙ ap (λ (n : ℕ). bit_xor n (bit_xor (a / 256) (b / 256))) (halvings-xor 8 (a % 256) (b % 256))
    ∙ xor-pairs (halvings 8 (a % 256)) (halvings 8 (b % 256)) (a / 256) (b / 256)
    ∙ sym (ap (λ (n : ℕ). bit_xor n (divided b)) (divided-is a) ∙ ap (bit_xor (bit_xor (halvings 8 (a % 256)) (a / 256))) (divided-is b))

dividings-xor : (k a b : ℕ) → dividings k (bit_xor a b) ≡ bit_xor (dividings k a) (dividings k b)
dividings-xor zero a b = refl
dividings-xor (suc k) a b = ap (dividings k) (divided-xor a b) ∙ dividings-xor k (divided a) (divided b)

-- the lowest byte goes by one table, and the others by those before it
pub dividings-more : (k n : ℕ) → k < 8
    → dividings (suc k) n ≡ bit_xor (slice_index (slice_index_or DIVIDED k []) (n % 256)) (dividings k (n / 256))
dividings-more k n few =
    ap (dividings k) (divided-is n)
    ∙ dividings-xor k (halvings 8 (n % 256)) (n / 256)
    ∙ ap (λ (low : ℕ). bit_xor low (dividings k (n / 256))) (sym (entry k (n % 256) few (omega arith)))

-- the number of these bytes, the lowest first
abbrev pub low_first : List ℕ → ℕ
low_first [] = 0
low_first (byte ∷ bytes) = byte + 256 * low_first bytes

pub eight-low_first : (bytes : List ℕ) → length bytes ≡ 8 → little_number 8 bytes ≡ low_first bytes
eight-low_first (a ∷ b ∷ c ∷ d ∷ e ∷ f ∷ g ∷ h ∷ []) same = refl
eight-low_first _ same = absurd (omega (arith, same))

-- the bytes behind the first one move down
divided-behind : (state byte behind : ℕ) → byte < 256
    → divided (bit_xor state (byte + 256 * behind)) ≡ bit_xor (divided (bit_xor state byte)) behind
divided-behind state byte behind small =
    let apart : byte + 256 * behind ≡ bit_xor byte (behind * 2 ^ 8) =
    (omega arith) ∙ sym (xor_shifted behind 8 byte small) ∙ xor_comm (behind * 2 ^ 8) byte in
    let low : behind * 2 ^ 8 % 256 ≡ 0 = omega arith in
    let high : behind * 2 ^ 8 / 256 ≡ behind = omega arith in
    let moved : divided (behind * 2 ^ 8) ≡ behind =
    divided-is (behind * 2 ^ 8)
    ∙ ap (λ (n : ℕ). bit_xor (halvings 8 n) (behind * 2 ^ 8 / 256)) low
    ∙ ap (bit_xor 0) high ∙ xor_comm 0 behind ∙ xor_zero_r behind in
    ap (λ (n : ℕ). divided (bit_xor state n)) apart
    ∙ ap divided (sym (xor_assoc state byte (behind * 2 ^ 8)))
    ∙ divided-xor (bit_xor state byte) (behind * 2 ^ 8)
    ∙ ap (bit_xor (divided (bit_xor state byte))) moved

-- bytes that are divided in one after another may be combined with the state at once
pub with_bits-dividings : (bytes : List ℕ) (state : ℕ) → ((i : ℕ) → slice_index_or bytes i 0 < 256) → state < 2 ^ 32
    → with_bits (bits_of 32 state) (flat_map (bits_of 8) bytes) ≡ bits_of 32 (dividings (length bytes) (bit_xor state (low_first bytes)))
with_bits-dividings [] state small h = ap (bits_of 32) (sym (xor_zero_r state))
with_bits-dividings (byte ∷ bytes) state small h =
    let first : byte < 256 = small 0 in
    let fits : bit_xor state byte < 2 ^ 32 = xor_of_32 state byte h (omega (arith, first)) in
    with_bits-append (bits_of 32 state) (bits_of 8 byte) (flat_map (bits_of 8) bytes)
    ∙ ap (λ (l : List Bool). with_bits l (flat_map (bits_of 8) bytes)) (with_bits-byte state byte first ∙ with_bits-table (bit_xor state byte) fits)
    ∙ with_bits-dividings bytes (divided (bit_xor state byte)) (λ i. small (suc i)) (divided-fits (bit_xor state byte) fits)
    ∙ ap (λ (n : ℕ). bits_of 32 (dividings (length bytes) n)) (sym (divided-behind state byte (low_first bytes) first))
