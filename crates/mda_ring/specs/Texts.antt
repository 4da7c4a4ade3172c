-- The bytes of a text in the ring's sectors, and a text that is put into sectors.
use Rattle.std.specs.Prelude.{◌≡◌, ◌≢◌, ℕ, ◌+◌, ◌-◌, ◌*◌, ◌/◌, ◌%◌, ◌<◌, ◌==◌, if◌then◌else◌, List, [], ◌++◌, length, take, drop, map, replicate}
use Rattle.std.specs.Prelude.{slice_index, slice_index_or}
use Rattle.std.specs.List.{range_with_len}
use Rattle.sector_base.specs.Checksum.{checksum, lvm_crc_start}
use Rattle.mda_header.specs.declared.header.Locn.{Locn}
use Rattle.mda_ring.specs.declared.refusal.RingRefusal.{RingRefusal}
use Rattle.mda_ring.specs.declared.refusal.RingRefusal.TheVariants.{NoMemory, TooLarge, SumDiffers}
use Rattle.mda_ring.specs.Ring.{byte_place, ring_sector}

-- byte j of a text at this offset, where the area of this size has these sectors
abbrev pub text_byte : (ℕ → List ℕ) → ℕ → ℕ → ℕ → ℕ
text_byte sector_at size offset j = slice_index (sector_at (byte_place size offset j / 512)) (byte_place size offset j % 512)

-- the bytes of a text, where the area of this size has these sectors
abbrev pub text_at : (ℕ → List ℕ) → ℕ → ℕ → ℕ → List ℕ
text_at sector_at size offset count = map (text_byte sector_at size offset) (range_with_len 0 count)

-- the list has sectors of the area, from the first one of a text at this offset on, in the order of its bytes
pub record AreRead (sector_at : ℕ → List ℕ) (size offset : ℕ) (sectors : List (List ℕ)) : Type 0 where
  pub each : (k : ℕ) → k < length sectors → slice_index_or sectors k [] ≡ sector_at (ring_sector size offset k)

-- the bytes without one final zero byte
abbrev pub without_zero : List ℕ → List ℕ
without_zero bytes = if slice_index_or bytes (length bytes - 1) 1 == 0 then take (length bytes - 1) bytes else bytes

-- the bytes have the checksum of the entry, and are this text, with or without a zero byte behind it
pub record IsTextOf (locn : Locn) (bytes text : List ℕ) : Type 0 where
  pub agrees : checksum lvm_crc_start bytes ≡ locn.sum
  pub text_is : text ≡ without_zero bytes

-- the bytes don't have the checksum of the entry, and these are both, or memory is wanting
abbrev pub IsDamaged : Locn → List ℕ → RingRefusal → Type 0
IsDamaged locn bytes (SumDiffers said found) = (said ≡ locn.sum) × (found ≡ checksum lvm_crc_start bytes) × (said ≢ found)
IsDamaged locn bytes NoMemory = Unit {0}
IsDamaged locn bytes (TooLarge need room) = ⊥

-- bytes with zeros behind them, up to a whole sector
abbrev pub with_zeros : List ℕ → List ℕ
with_zeros bytes = bytes ++ replicate (512 - length bytes) 0

-- sector number k of a text that is put into sectors, with zeros behind the text
abbrev pub text_sector : List ℕ → ℕ → List ℕ
text_sector text k = with_zeros (take 512 (drop (512 * k) text))

-- the text in so many sectors, with zeros behind it
abbrev pub text_sectors : List ℕ → ℕ → List (List ℕ)
text_sectors text sectors = map (text_sector text) (range_with_len 0 sectors)

-- the byte at this place of the sectors, one behind the other, and the first behind the last
abbrev pub byte_in : List (List ℕ) → ℕ → ℕ
byte_in sectors at = slice_index (slice_index_or sectors (at % (512 * length sectors) / 512) []) (at % (512 * length sectors) % 512)

-- the bytes that these sectors have of the entry's text
abbrev pub taken_bytes : Locn → List (List ℕ) → List ℕ
taken_bytes locn sectors = map (λ j. byte_in sectors (locn.offset % 512 + j)) (range_with_len 0 locn.size)
