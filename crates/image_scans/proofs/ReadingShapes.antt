-- The headers of disks, as their readings have them.
use Rattle.std.proofs.Common.{◌≡◌, ℕ, zero, suc, ◌+◌, List, [], ◌∷◌, map, Option, Some, None, sym, subst}
use Rattle.std.specs.Prelude.{option_map, slice_get}
use Rattle.std.specs.FinSet as set
use Rattle.std.specs.Ordering.{nat_cmp}
use Rattle.std.proofs.lemmas.Option.{same_Some}
use Rattle.disk_model.specs.Steps.{Image}
use Rattle.pv_header.specs.declared.extent_list.Extent.{Extent}
use Rattle.disk_contents.specs.declared.contents.AreaFound.{AreaFound}
use Rattle.disk_contents.specs.declared.contents.PvFound.{PvFound}
use Rattle.disk_contents.specs.declared.contents.PvFound.TheVariants.{NoLabel, NoHeader, Whole}
use Rattle.scan_rules.specs.Decision.{Area as AreaOf, AreaReading, Found as PvOf, Reading, SameAreas, SameHeaders, SamePv}
use Rattle.vg_found.specs.declared.disk.Disk.{Disk}
use Rattle.vg_found.specs.Disks.{area_shape, header_on, pv_shape, shapes}
use Rattle.vg_scan.specs.Readings.{AreAreaReadings, AreDiskReadings, IsContents, IsPvReading}
use Rattle.image_scans.proofs.AreaReadings.{DisksGive, PvGives}

areas_shaped : (pv : ℕ) (sector_at : ℕ → List ℕ) (founds : List AreaFound) (areas : List AreaOf) → AreAreaReadings pv sector_at founds areas
    → SameAreas (map area_shape (map (λ (found : AreaFound). found.area) founds)) areas
areas_shaped pv sector_at [] [] are = tt
areas_shaped pv sector_at [] (area ∷ areas) are = absurd are
areas_shaped pv sector_at (found ∷ founds) [] are = absurd are
areas_shaped pv sector_at (found ∷ founds) (area ∷ areas) are =
    (sym are.0.start_is, sym are.0.sectors_is, areas_shaped pv sector_at founds areas are.1)

pub pv_shaped : (pv sectors : ℕ) (sector_at : ℕ → List ℕ) (contents : Option PvFound) (read : Option PvOf)
    → IsContents sector_at sectors contents → IsPvReading pv sector_at contents read
    → SamePv (option_map pv_shape (header_on contents)) read
pv_shaped pv sectors sector_at None read is reads = subst (SamePv None) (sym reads) tt
pv_shaped pv sectors sector_at (Some (NoLabel refusal)) read is reads = subst (SamePv None) (sym reads) tt
pv_shaped pv sectors sector_at (Some (NoHeader label refusal)) read is reads = subst (SamePv None) (sym reads) tt
pv_shaped pv sectors sector_at (Some (Whole label header areas)) None is reads = absurd reads
pv_shaped pv sectors sector_at (Some (Whole label header areas)) (Some own) is reads = (
  sym reads.0,
  subst (λ (l : List Extent). SameAreas (map area_shape l) own.areas) is.2.in_order
      (areas_shaped pv sector_at areas own.areas reads.1),
)

pub readings_shaped : (image : Image) (unread : set.FinSet nat_cmp) (first : ℕ) (disks : List Disk) (readings : List Reading)
    → AreDiskReadings image unread first disks readings → SameHeaders (shapes disks) readings
readings_shaped image unread first [] [] are = tt
readings_shaped image unread first [] (reading ∷ readings) are = absurd are
readings_shaped image unread first (disk ∷ disks) [] are = absurd are
readings_shaped image unread first (disk ∷ disks) (reading ∷ readings) are = (
  sym are.1.sectors_is,
  pv_shaped first disk.sectors (image first) disk.contents reading.pv are.1.contents are.1.pv_is,
  readings_shaped image unread (first + 1) disks readings are.2,
)

-- one of them
pub gives_at : (P : AreaReading → Type 0) (readings : List Reading) (k : ℕ) (reading : Reading) → DisksGive (λ disk. P) readings
    → slice_get readings k ≡ Some reading → PvGives P reading.pv
gives_at P [] k reading all there = absurd cc
gives_at P (first ∷ readings) zero reading all there = subst (λ (r : Reading). PvGives P r.pv) (same_Some first reading there) all.0
gives_at P (first ∷ readings) (suc k) reading all there = gives_at P readings k reading all.1 there

-- by the disk too
pub gives_on : (P : Reading → AreaReading → Type 0) (readings : List Reading) (k : ℕ) (reading : Reading) → DisksGive P readings
    → slice_get readings k ≡ Some reading → PvGives (P reading) reading.pv
gives_on P [] k reading all there = absurd cc
gives_on P (first ∷ readings) zero reading all there = subst (λ (r : Reading). PvGives (P r) r.pv) (same_Some first reading there) all.0
gives_on P (first ∷ readings) (suc k) reading all there = gives_on P readings k reading all.1 there
