-- A copy more leaves what older numbers stand for.
use Rattle.std.proofs.Common.{◌≡◌, ℕ, zero, suc, ◌<◌, ◌≤◌, List, [], ◌∷◌, ◌++◌, length, Option, Some, None, refl, ap, arith}
use Rattle.std.specs.Prelude.{option_map, unwrap_or, map, slice_get}
use Rattle.std.specs.List.{AllByRecursion}
use Rattle.std.proofs.lemmas.List.{length_push}
use Rattle.scan_rules.specs.declared.readings.GroupCopy.{GroupCopy}
use Rattle.scan_rules.specs.declared.readings.AreaGives.{AreaGives}
use Rattle.scan_rules.specs.declared.readings.AreaGives.TheVariants.{Nothing, Copy as Numbered, Refused as RefusedFor}
use Rattle.scan_rules.specs.declared.readings.AreaRead.{AreaRead}
use Rattle.scan_rules.specs.declared.readings.PvRead.{PvRead}
use Rattle.scan_rules.specs.declared.readings.DiskRead.{DiskRead}
use Rattle.scan_rules.specs.Decision.{HoldsNone}
use Rattle.scan_rules.specs.Found.{FewAreasOn, HasFewAreas}
use Rattle.scan_rules.specs.Readings.{AllAreOf, AreasAreOf, DiskIsOf, GivesAtMost, area_of, copied, found_of, gives_of}
use Rattle.scan_rules.specs.Readings.{readings_of}

older_copy : (copies : List GroupCopy) (more : GroupCopy) (number : ℕ) → number < length copies
    → slice_get (copies ++ more ∷ []) number ≡ slice_get copies number
older_copy [] more number within = absurd (omega arith)
older_copy (copy ∷ copies) more zero within = refl
older_copy (copy ∷ copies) more (suc number) within = older_copy copies more number (omega arith)

older_gives : (copies : List GroupCopy) (more : GroupCopy) (gives : Option AreaGives) → GivesAtMost (length copies) gives
    → option_map (gives_of (copies ++ more ∷ [])) gives ≡ option_map (gives_of copies) gives
older_gives copies more None within = refl
older_gives copies more (Some Nothing) within = refl
older_gives copies more (Some (RefusedFor why)) within = refl
older_gives copies more (Some (Numbered number)) within =
    ap (λ (o : Option GroupCopy). Some (unwrap_or (option_map copied o) HoldsNone)) (older_copy copies more number within)

older_areas : (copies : List GroupCopy) (more : GroupCopy) (areas : List AreaRead)
    → AllByRecursion (λ (area : AreaRead). GivesAtMost (length copies) area.gives) areas
    → map (area_of (copies ++ more ∷ [])) areas ≡ map (area_of copies) areas
older_areas copies more [] within = refl
older_areas copies more (area ∷ areas) within =
    λ i. record { start = area.start; sectors = area.sectors; reading = older_gives copies more area.gives within.0 i }
    ∷ older_areas copies more areas within.1 i

older_pv : (copies : List GroupCopy) (more : GroupCopy) (pv : Option PvRead) → AreasAreOf (length copies) pv
    → option_map (found_of (copies ++ more ∷ [])) pv ≡ option_map (found_of copies) pv
older_pv copies more None are = refl
older_pv copies more (Some pv) are = λ i. Some (record { id = pv.id; areas = older_areas copies more pv.areas are.1 i })

pub older_readings : (copies : List GroupCopy) (more : GroupCopy) (disks : List DiskRead) → AllByRecursion (DiskIsOf (length copies)) disks
    → readings_of (copies ++ more ∷ []) disks ≡ readings_of copies disks
older_readings copies more [] are = refl
older_readings copies more (disk ∷ disks) are =
    λ i. record { sectors = disk.sectors; pv = older_pv copies more disk.pv are.0 i } ∷ older_readings copies more disks are.1 i

more_gives : (few many : ℕ) → few ≤ many → (gives : Option AreaGives) → GivesAtMost few gives → GivesAtMost many gives
more_gives few many grows None within = tt
more_gives few many grows (Some Nothing) within = tt
more_gives few many grows (Some (RefusedFor why)) within = tt
more_gives few many grows (Some (Numbered number)) within = omega arith

more_areas : (few many : ℕ) → few ≤ many → (areas : List AreaRead) → AllByRecursion (λ (area : AreaRead). GivesAtMost few area.gives) areas
    → AllByRecursion (λ (area : AreaRead). GivesAtMost many area.gives) areas
more_areas few many grows [] within = tt
more_areas few many grows (area ∷ areas) within = (more_gives few many grows area.gives within.0, more_areas few many grows areas within.1)

more_pv : (few many : ℕ) → few ≤ many → (pv : Option PvRead) → AreasAreOf few pv → AreasAreOf many pv
more_pv few many grows None are = tt
more_pv few many grows (Some pv) are = (are.0, more_areas few many grows pv.areas are.1)

more_disks : (few many : ℕ) → few ≤ many → (disks : List DiskRead) → AllByRecursion (DiskIsOf few) disks
    → AllByRecursion (DiskIsOf many) disks
more_disks few many grows [] are = tt
more_disks few many grows (disk ∷ disks) are = (more_pv few many grows disk.pv are.0, more_disks few many grows disks are.1)

pub all_of_more : (copies : List GroupCopy) (more : GroupCopy) (disks : List DiskRead) → AllAreOf copies disks
    → AllAreOf (copies ++ more ∷ []) disks
all_of_more copies more disks are =
    (are.0, more_disks (length copies) (length (copies ++ more ∷ [])) (omega (arith, length_push copies more)) disks are.1)

-- disks of so many copies have few areas
few_areas_on : (count : ℕ) (pv : Option PvRead) → AreasAreOf count pv → FewAreasOn pv
few_areas_on count None are = tt
few_areas_on count (Some pv) are = are.0

pub few_areas : (count : ℕ) (disks : List DiskRead) → AllByRecursion (DiskIsOf count) disks → AllByRecursion HasFewAreas disks
few_areas count [] are = tt
few_areas count (disk ∷ disks) are = (few_areas_on count disk.pv are.0, few_areas count disks are.1)
