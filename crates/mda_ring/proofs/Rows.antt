-- Places and spans in an area of 4,096 bytes, and the bytes of texts, tried on values.
use Rattle.std.proofs.Common.{◌≡◌, ℕ, List, [], ◌∷◌, map, Option, Some, None, codes, refl}
use Rattle.std.specs.Fmt.{digits}
use Rattle.sector_base.specs.Checksum.{bits_of, checksum, lvm_crc_start, polynomial}
use Rattle.sector_base.specs.Shown.{shown_text}
use Rattle.sector_base.specs.declared.spans.Span.{Span}
use Rattle.mda_header.specs.declared.header.Locn.{Locn}
use Rattle.mda_ring.specs.declared.area.Area.{Area}
use Rattle.mda_ring.specs.declared.refusal.RingRefusal.{RingRefusal}
use Rattle.mda_ring.specs.declared.refusal.RingRefusal.TheVariants.{NoMemory, TooLarge}
use Rattle.mda_ring.specs.Ring.{byte_place, need, next_offset, room}
use Rattle.mda_ring.specs.RingSpans.{ring_spans}
use Rattle.mda_ring.specs.ShownRing.{shown_ring}
use Rattle.mda_ring.specs.Texts.{without_zero}

-- a table: what a function gives of each
abbrev Gives : {A B : Type 0} → (A → B) → List (A × B) → Type 0
Gives f rows = map (λ row. f row.0) rows ≡ map (λ row. row.1) rows

-- ---- the place of the next text

-- a committed text of so many bytes at this offset
abbrev committed : ℕ → ℕ → Option Locn
committed offset size = Some (record { offset = offset; size = size; sum = 17 })

-- where the next one begins, and how many sectors it may have
abbrev next : Option Locn → ℕ × ℕ
next text = (next_offset 4096 text, room 4096 text)

next_places : Gives next (
    (None, (512, 7))
    -- it ends in the area's last sector, at its end, and one byte behind that
    ∷ (committed 2560 1500, (512, 4))
    ∷ (committed 2560 1536, (512, 4))
    ∷ (committed 2560 1537, (1024, 3))
    ∷ (committed 3584 1000, (1024, 5))
    ∷ (committed 4095 1, (512, 6))
    -- it begins inside a sector
    ∷ (committed 600 100, (1024, 6))
    ∷ (committed 1000 100, (1536, 5))
    -- the next one comes round
    ∷ (committed 1024 512, (1536, 6))
    -- it fills the ring, and comes back into its first sector
    ∷ (committed 512 3584, (512, 0))
    ∷ (committed 1000 3584, (1024, 0))
    ∷ []
    )
next_places = refl

sectors_needed : Gives need ((1, 1) ∷ (512, 1) ∷ (513, 2) ∷ (1501, 3) ∷ (3584, 7) ∷ (3585, 8) ∷ [])
sectors_needed = refl

-- ---- spans

-- from sector 16 of disk 3 on
abbrev area : Area
area = record { pv = 3; start = 8192; size = 4096 }

abbrev span : ℕ → ℕ → Span
span first count = record { pv = 3; first = first; count = count }

text_spans : Gives (λ (text : ℕ × ℕ). ring_spans area text.0 text.1) (
    ((2560, 1500), (span 21 3, None))
    ∷ ((512, 1), (span 17 1, None))
    ∷ ((512, 3584), (span 17 7, None))
    ∷ ((600, 425), (span 17 2, None))
    ∷ ((4095, 1), (span 23 1, None))
    ∷ ((4095, 2), (span 23 1, Some (span 17 1)))
    ∷ ((3584, 1000), (span 23 1, Some (span 17 1)))
    ∷ ((1536, 3072), (span 19 5, Some (span 17 1)))
    -- the last bytes are back in the first sector
    ∷ ((1000, 3584), (span 17 7, None))
    ∷ ((4095, 3584), (span 23 1, Some (span 17 6)))
    ∷ []
    )
text_spans = refl

-- the bytes of a text at 4,000 go on at 512 behind the area's end
bytes_come_round : Gives (byte_place 4096 4000) ((0, 4000) ∷ (95, 4095) ∷ (96, 512) ∷ (199, 615) ∷ [])
bytes_come_round = refl

-- ---- stored bytes

-- one zero byte at the end doesn't count
stored_texts : Gives without_zero (
    (codes "vg {}", codes "vg {}")
    ∷ (codes "vg {}\0", codes "vg {}")
    ∷ (codes "vg {}\0\0", codes "vg {}\0")
    ∷ (codes "vg\0\0\0 ", codes "vg\0\0\0 ")
    ∷ (codes "\0", [])
    ∷ ([], [])
    ∷ []
    )
stored_texts = refl

sums : Gives (checksum lvm_crc_start) (
    (codes "vg {}", 2558768087)
    ∷ (codes "vg {}\0", 405783748)
    ∷ (codes "wg {}\0", 3547535201)
    ∷ (codes "\0", 187582599)
    ∷ []
    )
unfolding checksum bits_of polynomial
sums = refl

-- ---- refusals as they print

refusals_shown : Gives (λ (refusal : RingRefusal). shown_text (shown_ring refusal)) (
    (NoMemory, codes "NoMemory")
    ∷ (TooLarge 5 4, codes "TooLarge 5 4")
    ∷ []
    )
unfolding digits
refusals_shown = refl
