-- Status words that are set one after the other.
use Rattle.std.proofs.Common.{◌≡◌, ◌<◌, ◌-◌, ◌==◌, ℕ, Bool, true, false, refl, sym, ap, ◌∙◌, arith}
use Rattle.std.specs.Prelude.{if◌then◌else◌}
use Rattle.std.specs.Int.RustNames.{bit_and, bit_or}
use Rattle.std.proofs.lemmas.Bool.{eq-eqb}
use Rattle.std.proofs.lemmas.Nat.{and_assoc, and_le_r, and_or_self, and_or_apart}
use Rattle.bitflags.specs.Sets.{without}
use Rattle.meta_model.specs.Status.{VgStatus, LvStatus, vg_status_of, lv_status_of, bit_if, vg_bits, lv_bits}
use Rattle.meta_model.specs.StatusBits.{vg_bits-again, lv_bits-again}

-- the bits with this one set or cleared
abbrev pub bit_set : ℕ → ℕ → Bool → ℕ
bit_set bits bit is = if is then bit_or bits bit else without 8 bits bit

-- another bit stays
set_other : (bits bit other : ℕ) (is : Bool) → bit_and bit other ≡ 0 → bit_and (255 - bit) other ≡ other
    → bit_and (bit_set bits bit is) other ≡ bit_and bits other
set_other bits bit other true apart kept = and_or_apart other bits bit apart
set_other bits bit other false apart kept = and_assoc other bits (255 - bit) ∙ ap (bit_and bits) kept

-- the bit itself is what it was set to
set_same : (bits bit : ℕ) (is : Bool) → bit_and (255 - bit) bit ≡ 0 → bit_and (bit_set bits bit is) bit ≡ bit_if is bit
set_same bits bit true apart = and_or_self bit bits
set_same bits bit false apart =
    let none : bit_and bits 0 ≡ 0 = omega (arith, and_le_r bits 0) in
    and_assoc bit bits (255 - bit) ∙ ap (bit_and bits) apart ∙ none

-- whether a bit is there
is_there : (bit : ℕ) (is : Bool) → (0 == bit) ≡ false → (bit_if is bit == bit) ≡ is
is_there bit true some = eq-eqb bit bit refl
is_there bit false some = some

-- the words of a group, each set or cleared
pub vg_words_set : (resizeable read write : Bool)
    → vg_status_of (bit_set (bit_set (bit_set 0 1 resizeable) 2 read) 4 write)
    ≡ record { resizeable = resizeable; read = read; write = write }
vg_words_set resizeable read write =
    simp (set_other, set_same)
    (λ i. record { resizeable = is_there 1 resizeable refl i; read = is_there 2 read refl i; write = is_there 4 write refl i })

-- the words of a logical volume, each set or cleared
pub lv_words_set : (read write visible fixed_minor pvmove locked notsynced : Bool)
    → lv_status_of
    (bit_set
    (bit_set (bit_set (bit_set (bit_set (bit_set (bit_set 0 1 read) 2 write) 4 visible) 8 fixed_minor) 16 pvmove) 32 locked) 64
    notsynced)
    ≡ record {
      read = read;
      write = write;
      visible = visible;
      fixed_minor = fixed_minor;
      pvmove = pvmove;
      locked = locked;
      notsynced = notsynced;
    }
lv_words_set read write visible fixed_minor pvmove locked notsynced =
    simp (set_other, set_same) (λ i. record {
      read = is_there 1 read refl i;
      write = is_there 2 write refl i;
      visible = is_there 4 visible refl i;
      fixed_minor = is_there 8 fixed_minor refl i;
      pvmove = is_there 16 pvmove refl i;
      locked = is_there 32 locked refl i;
      notsynced = is_there 64 notsynced refl i;
    })

-- bits that are no word's say nothing
pub vg_known : (bits : ℕ) → vg_status_of (bit_and bits 7) ≡ vg_status_of bits
vg_known bits = simp (and_assoc)

pub lv_known : (bits : ℕ) → lv_status_of (bit_and bits 127) ≡ lv_status_of bits
lv_known bits = simp (and_assoc)

-- sets of the same bits are the same status
pub vg_same : {same : Bool} {a b : ℕ} {s t : VgStatus} → same ≡ (a == b) → vg_status_of a ≡ s → a < 8 → vg_status_of b ≡ t → b < 8
    → same ≡ (vg_bits s == vg_bits t)
vg_same {same} {a} {b} is first small second smaller =
    is ∙ (λ i. sym (vg_bits-again a small) i == sym (vg_bits-again b smaller) i) ∙ (λ i. vg_bits (first i) == vg_bits (second i))

pub lv_same : {same : Bool} {a b : ℕ} {s t : LvStatus} → same ≡ (a == b) → lv_status_of a ≡ s → a < 128 → lv_status_of b ≡ t → b < 128
    → same ≡ (lv_bits s == lv_bits t)
lv_same {same} {a} {b} is first small second smaller =
    is ∙ (λ i. sym (lv_bits-again a small) i == sym (lv_bits-again b smaller) i) ∙ (λ i. lv_bits (first i) == lv_bits (second i))
