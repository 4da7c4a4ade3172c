-- Areas of physical volumes, and the sectors of their data, tried on values.
use Rattle.std.proofs.Common.{◌≡◌, ℕ, List, [], ◌∷◌, map, Option, Some, None, refl}
use Rattle.std.specs.Prelude.{◌-◌, ◌/◌, codes, find, option_map}
use Rattle.std.specs.Fmt.{digits}
use Rattle.sector_base.specs.Shown.{shown_text}
use Rattle.pv_header.specs.Areas.{first_overlap, is_misshapen, is_outside, next_start, shares_byte}
use Rattle.pv_header.specs.DataSectors.{data_end_of, data_start_of}
use Rattle.pv_header.specs.PvRefusal.{offsets_of}
use Rattle.pv_header.specs.ShownPv.{shown_pv}
use Rattle.pv_header.specs.declared.extent_list.Extent.{Extent}
use Rattle.pv_header.specs.declared.refusal.PvRefusal.{PvRefusal}
use Rattle.pv_header.specs.declared.refusal.PvRefusal.TheVariants.{AreaOutside, AreaShape, AreasOverlap}
use Rattle.pv_header.specs.declared.refusal.PvRefusal.TheVariants.{BadId, Bootloader, ListUnended, NoMemory}

-- a table: what a function gives of each
abbrev Gives : {A B : Type 0} → (A → B) → List (A × B) → Type 0
Gives f rows = map (λ row. f row.0) rows ≡ map (λ row. row.1) rows

abbrev extent : ℕ → ℕ → Extent
extent offset size = record { offset = offset; size = size }

-- the bytes of a disk of 8,192 sectors
abbrev disk_bytes : ℕ
disk_bytes = 4194304

-- ---- where areas can't lie

-- the first area outside, also far outside
areas_outside : Gives (find (is_outside disk_bytes)) (
    (extent 18446744073709551104 1024 ∷ extent 100 100 ∷ [], Some (extent 18446744073709551104 1024))
    ∷ (extent 1048576 0 ∷ extent 4193792 1536 ∷ [], Some (extent 4193792 1536))
    -- it ends at the disk's end
    ∷ (extent 4192768 1536 ∷ [], None)
    ∷ []
    )
areas_outside = refl

-- too few sectors, a part of one, and too near to the disk's start
areas_misshapen : Gives (find is_misshapen) (
    (extent 4096 1024 ∷ [], Some (extent 4096 1024))
    ∷ (extent 4096 1600 ∷ [], Some (extent 4096 1600))
    ∷ (extent 4100 1536 ∷ [], Some (extent 4100 1536))
    ∷ (extent 1536 2048 ∷ [], Some (extent 1536 2048))
    ∷ (extent 2048 1536 ∷ [], None)
    ∷ []
    )
areas_misshapen = refl

-- the offsets of the first two that share a byte
abbrev overlap : List Extent → Option (ℕ × ℕ)
overlap areas = option_map offsets_of (first_overlap areas disk_bytes)

areas_overlapping : Gives overlap (
    (extent 1048576 0 ∷ extent 4096 1048576 ∷ [], Some (1048576, 4096))
    -- an area of size 0 ends where the next one begins
    ∷ (extent 8192 0 ∷ extent 9000 1000 ∷ extent 4096 8192 ∷ [], Some (8192, 4096))
    ∷ (extent 2048 0 ∷ extent 9000 1000 ∷ extent 8192 8192 ∷ [], Some (9000, 8192))
    ∷ (extent 1048576 0 ∷ extent 4096 1044480 ∷ [], None)
    -- one that begins with another is empty
    ∷ (extent 1048576 0 ∷ extent 4096 1044480 ∷ extent 1048576 1048576 ∷ [], None)
    ∷ []
    )
unfolding first_overlap shares_byte next_start
areas_overlapping = refl

-- ---- the sectors of the data

-- on a disk of so many sectors, with these data areas and metadata areas
abbrev data_sectors : ℕ → List Extent × List Extent → ℕ × ℕ
data_sectors disk areas = (data_start_of areas.0 disk, data_end_of areas.0 areas.1 disk)

sectors_of_data : Gives (data_sectors 8192) (
    (([], []), (8192, 8192))
    ∷ ((extent 1048576 0 ∷ [], extent 4096 1044480 ∷ []), (2048, 8192))
    ∷ ((extent 4097 0 ∷ [], []), (9, 8192))
    ∷ ((extent 512 1000 ∷ [], []), (8, 2))
    ∷ ((extent 8192 0 ∷ [], extent 4096 1536 ∷ []), (16, 8192))
    ∷ ((extent 8192 0 ∷ [], extent 65536 1536 ∷ []), (16, 128))
    ∷ []
    )
unfolding next_start
sectors_of_data = refl

-- what lvm2 2.03.16 writes with two metadata areas, of which the second begins with the data: on so many bytes, the data from there
abbrev two_areas : ℕ × ℕ → ℕ × ℕ
two_areas found = data_sectors (found.0 / 512) (extent found.1 0 ∷ [], extent 4096 (found.1 - 4096) ∷ extent found.1 1048576 ∷ [])

empty_data : Gives two_areas (
    ((2097152, 1048576), (2048, 2048))
    ∷ ((3145728, 2097152), (4096, 4096))
    ∷ ((9437184, 8388608), (16384, 16384))
    ∷ []
    )
unfolding next_start
empty_data = refl

-- ---- refusals as they print

refusals_shown : Gives (λ (refusal : PvRefusal). shown_text (shown_pv refusal)) (
    (NoMemory, codes "NoMemory")
    ∷ (BadId 5, codes "BadId 5")
    ∷ (ListUnended 3, codes "ListUnended 3")
    ∷ (AreaOutside 1 2 3, codes "AreaOutside 1 2 3")
    ∷ (AreaShape 1 2, codes "AreaShape 1 2")
    ∷ (AreasOverlap 1 2, codes "AreasOverlap 1 2")
    ∷ (Bootloader 4, codes "Bootloader 4")
    ∷ []
    )
unfolding digits
refusals_shown = refl
