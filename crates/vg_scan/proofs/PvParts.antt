-- The physical volume of a disk, as its areas read.
use Rattle.std.proofs.Common.{◌≡◌, ◌<◌, ◌≤◌, ℕ, suc, ◌+◌, ◌*◌, ◌^◌, List, [], ◌∷◌, length, map, Option, Some, refl, sym, ap, subst, ◌∙◌}
use Rattle.std.proofs.Common.{arith}
use Rattle.std.proofs.lemmas.List.{length-map}
use Rattle.disk_model.specs.Since.{HoldsOfDisk}
use Rattle.disk_model.specs.Steps.{Record}
use Rattle.pv_header.specs.declared.extent_list.Extent.{Extent}
use Rattle.pv_header.specs.declared.header.PvHeader.{PvHeader}
use Rattle.pv_header.specs.PvHeader.{areas_place}
use Rattle.disk_contents.specs.declared.contents.AreaFound.{AreaFound}
use Rattle.disk_contents.specs.declared.contents.PvFound.TheVariants.{Whole}
use Rattle.disk_contents.specs.Standing.{CanStand}
use Rattle.scan_rules.specs.Decision.{Area as AreaOf, SameAreas}
use Rattle.scan_rules.specs.Readings.{AreasAreOf, area_of}
use Rattle.scan_rules.specs.declared.readings.AreaRead.{AreaRead}
use Rattle.scan_rules.specs.declared.readings.GroupCopy.{GroupCopy}
use Rattle.vg_found.specs.Disks.{area_shape}
use Rattle.vg_scan.specs.Disks.{HasItsShape, pv_read}
use Rattle.vg_scan.specs.Readings.{AreAreaReadings}
use Rattle.vg_scan.specs.Shapes.{AreasGiveAtMost, HavePlaces}

as_many : (areas : List AreaFound) (readings : List AreaOf) → HavePlaces areas readings → length areas ≡ length readings
as_many [] [] are = refl
as_many [] (reading ∷ readings) are = absurd are
as_many (found ∷ areas) [] are = absurd are
as_many (found ∷ areas) (reading ∷ readings) are = ap suc (as_many areas readings are.1)

same_areas : (areas : List AreaFound) (readings : List AreaOf) → HavePlaces areas readings
    → SameAreas (map area_shape (map (λ (found : AreaFound). found.area) areas)) readings
same_areas [] [] are = tt
same_areas [] (reading ∷ readings) are = absurd are
same_areas (found ∷ areas) [] are = absurd are
same_areas (found ∷ areas) (reading ∷ readings) are = (are.0.start_is, are.0.sectors_is, same_areas areas readings are.1)

-- the same of the lists that are passed on
pub places_passed : (slice areas : List AreaFound) (items all : List AreaRead) (copies : List GroupCopy) → slice ≡ areas → all ≡ items
    → HavePlaces slice (map (area_of copies) items) → HavePlaces areas (map (area_of copies) all)
places_passed slice areas items all copies here there are =
    subst (λ (l : List AreaFound). HavePlaces l (map (area_of copies) all)) here
    (subst (λ (l : List AreaRead). HavePlaces slice (map (area_of copies) l)) (sym there) are)

pub readings_passed : (pv : ℕ) (told : Option Record) (slice areas : List AreaFound) (items all : List AreaRead) (copies : List GroupCopy)
    → slice ≡ areas → all ≡ items
    → HoldsOfDisk told pv (λ sector_at. AreAreaReadings pv sector_at slice (map (area_of copies) items))
    → HoldsOfDisk told pv (λ sector_at. AreAreaReadings pv sector_at areas (map (area_of copies) all))
readings_passed pv told slice areas items all copies here there are =
    subst (λ (l : List AreaFound). HoldsOfDisk told pv (λ sector_at. AreAreaReadings pv sector_at l (map (area_of copies) all))) here
    (subst (λ (l : List AreaRead). HoldsOfDisk told pv (λ sector_at. AreAreaReadings pv sector_at slice (map (area_of copies) l)))
    (sym there) are)

module _ (pv sectors label : ℕ) (header : PvHeader) (areas : List AreaFound) (stands : CanStand pv sectors (Whole label header areas))
    (copies : List GroupCopy) (all : List AreaRead)
    (places : HavePlaces areas (map (area_of copies) all)) where
  few_areas : length all < 2 ^ 32
  few_areas =
      let within : areas_place header + 16 * length header.areas + 8 ≤ 512 = stands.1.1.fields.areas_at.within in
      let listed : length areas ≡ length header.areas = sym (length-map areas (λ (found : AreaFound). found.area)) ∙ ap length stands.2 in
      let read : length areas ≡ length (map (area_of copies) all) = as_many areas (map (area_of copies) all) places in
      let mapped : length (map (area_of copies) all) ≡ length all = length-map all (area_of copies) in
      omega arith

  -- its numbers are those of copies, and its areas few
  pub numbers_read : (count : ℕ) → AreasGiveAtMost count all → AreasAreOf count (Some (record { id = header.id; areas = all }))
  numbers_read count numbers = (few_areas, numbers)

  -- it lies where its header says
  pub shape_read : HasItsShape (Whole label header areas) (pv_read copies (Some (record { id = header.id; areas = all })))
  shape_read = (
    refl,
    subst (λ (l : List Extent). SameAreas (map area_shape l) (map (area_of copies) all)) stands.2
        (same_areas areas (map (area_of copies) all) places),
  )
