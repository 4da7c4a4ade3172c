-- The label of a new physical volume can be written, and lies on its disk.
use Rattle.std.proofs.Common.{◌≡◌, ◌≢◌, ◌≤◌, ◌<◌, ℕ, ◌*◌, ◌-◌, ◌/◌, ltb, List, [], ◌∷◌, length, Option, Some, None, refl, subst, arith}
use Rattle.std.specs.Prelude.{All, AllPairs, slice_get, unwrap_or}
use Rattle.std.specs.Option.{option_and_then, option_map_or}
use Rattle.std.proofs.lemmas.Bool.{ltb-false}
use Rattle.std.proofs.lemmas.List.Elements.{All-cons, All-nil}
use Rattle.std.proofs.lemmas.Option.{none-some, slice_get_within}
use Rattle.command_table.specs.Options.{number_named}
use Rattle.line_answers.specs.declared.op_refusal.OpRefusal.{OpRefusal}
use Rattle.line_answers.specs.declared.op_refusal.OpRefusal.TheVariants.{TooSmall, UnknownPv}
use Rattle.pv_header.specs.declared.extent_list.Extent.{Extent}
use Rattle.disk_contents.specs.declared.contents.PvFound.{PvFound}
use Rattle.disk_contents.specs.declared.contents.PvFound.TheVariants.{NoLabel, NoHeader, Whole}
use Rattle.vg_found.specs.declared.disk.Disk.{Disk}
use Rattle.vg_found.specs.Shape.{ContentsCanStand}
use Rattle.group_plan.specs.Judging.{first_refusal}
use Rattle.group_plan.specs.State.{IsState}
use Rattle.group_plan.specs.declared.state.GroupState.{GroupState}
use Rattle.group_plan.specs.declared.state.NewLabel.{NewLabel}
use Rattle.group_plan.proofs.Rows.{none_holds, test_fails}
use Rattle.pv_plans.proofs.NewAreas.{areas_have, areas_pair, enough_for_one, few_areas}
use Rattle.pv_plans.specs.Pvcreate.{disk_rows, few_row, fewest_sectors, first_area, label_in, label_sector, last_area, new_areas, new_label}
use Rattle.pv_plans.specs.Pvcreate.{pvcreate_change, pvcreate_rows}
use Rattle.change_batches.proofs.HeldInDisks.{HasSize, has_size}
use Rattle.change_batches.specs.Sound.{sizes_of, AreasLie, CanLabel, CanMake, IsOnDisk, LabelLies, LiesOn, header_sector}

-- ---- its label is one at most

module _ {X : Type 0} (R : X → X → Type 0) where
  none_apart : AllPairs R []
  none_apart i j d before within = absurd (omega (arith, before, within))

  one_apart : (x : X) → AllPairs R (x ∷ [])
  one_apart x i j d before within = absurd (omega (arith, before, within))

module _ (id : List ℕ) (copies : ℕ) where
  abbrev label_by : ℕ → Option Disk → List NewLabel
  label_by number o = option_map_or (λ disk. new_label id copies number disk ∷ []) o []

  abbrev labels_by : List Disk → Option ℕ → List NewLabel
  labels_by disks o = option_map_or (λ number. label_by number (slice_get disks number)) o []

  label_apart : (R : NewLabel → NewLabel → Type 0) (number : ℕ) (o : Option Disk) → AllPairs R (label_by number o)
  label_apart R number None = none_apart R
  label_apart R number (Some disk) = one_apart R (new_label id copies number disk)

  labels_apart : (R : NewLabel → NewLabel → Type 0) (disks : List Disk) (o : Option ℕ) → AllPairs R (labels_by disks o)
  labels_apart R disks None = none_apart R
  labels_apart R disks (Some number) = label_apart R number (slice_get disks number)

  label_has : (P : NewLabel → Type 0) (number : ℕ) (o : Option Disk) → ((disk : Disk) → o ≡ Some disk → P (new_label id copies number disk))
      → All P (label_by number o)
  label_has P number None has = All-nil P
  label_has P number (Some disk) has = All-cons P (new_label id copies number disk) [] (has disk refl) (All-nil P)

  pub labels_have : (P : NewLabel → Type 0) (disks : List Disk) (o : Option ℕ)
      → ((number : ℕ) (disk : Disk) → o ≡ Some number → slice_get disks number ≡ Some disk → P (new_label id copies number disk))
      → All P (labels_by disks o)
  labels_have P disks None has = All-nil P
  labels_have P disks (Some number) has = label_has P number (slice_get disks number) (λ disk there. has number disk refl there)

-- ---- its sector

found_sector : (pv sectors : ℕ) (found : PvFound) → ContentsCanStand pv sectors (Some found) → unwrap_or (label_in found) 1 < 4
found_sector pv sectors (NoLabel refusal) stands = omega arith
found_sector pv sectors (NoHeader label refusal) stands = stands
found_sector pv sectors (Whole label header areas) stands = stands.0

sector_by : (pv sectors : ℕ) (contents : Option PvFound) → ContentsCanStand pv sectors contents
    → unwrap_or (option_and_then label_in contents) 1 < 4
sector_by pv sectors None stands = omega arith
sector_by pv sectors (Some found) stands = found_sector pv sectors found stands

-- ---- its disk

abbrev rows_by : GroupState → List ℕ → List ℕ → ℕ → Option ℕ → List (Option OpRefusal)
rows_by state id name copies None = Some (UnknownPv name) ∷ []
rows_by state id name copies (Some number) = disk_rows state id name copies number (slice_get state.disks number)

pub has_enough : (state : GroupState) (id name : List ℕ) (copies number : ℕ) (disk : Disk)
    → first_refusal (pvcreate_rows state id name copies) ≡ None → number_named state.names name ≡ Some number
    → slice_get state.disks number ≡ Some disk → fewest_sectors copies ≤ disk.sectors
has_enough state id name copies number disk none named there =
    let rows : first_refusal (rows_by state id name copies (Some number)) ≡ None =
    subst (λ (o : Option ℕ). first_refusal (rows_by state id name copies o) ≡ None) named none in
    let few : few_row copies disk ≡ None =
    subst (λ (o : Option Disk). option_and_then (few_row copies) o ≡ None) there
    (none_holds (rows_by state id name copies (Some number)) rows).1.0 in
    ltb-false disk.sectors (fewest_sectors copies)
    (test_fails (ltb disk.sectors (fewest_sectors copies)) (TooSmall disk.sectors (fewest_sectors copies)) few)

-- ---- its metadata areas

areas_on_disk : (sizes : List ℕ) (pv sectors copies : ℕ) → HasSize sizes pv sectors → fewest_sectors copies ≤ sectors
    → All (λ (area : Extent). IsOnDisk sizes pv (header_sector area)) (new_areas sectors copies)
areas_on_disk sizes pv sectors copies has enough =
    let one : 2056 ≤ sectors = enough_for_one copies sectors enough in
    areas_have (λ (area : Extent). IsOnDisk sizes pv (header_sector area)) copies sectors enough
    (record { disk = has.within; within = omega (arith, has.size, one) })
    (λ both. record { disk = has.within; within = omega (arith, has.size, both) })

headers_differ : (sectors : ℕ) → 4096 ≤ sectors → header_sector first_area ≢ header_sector (last_area sectors)
headers_differ sectors both same = let at : 8 ≡ (sectors * 512 - 1044480) / 512 = same in omega (arith, both, at)

-- ---- the change

pub pvcreate_can_make : (state : GroupState) → IsState state → (id name : List ℕ) (copies now : ℕ)
    → CanMake state.areas (pvcreate_change state id name copies) now
pvcreate_can_make state is id name copies now = record {
  labels =
      labels_have id copies CanLabel state.disks (number_named state.names name)
      (λ number disk named there. record {
        disk_below =
            let within : number < length state.disks = slice_get_within state.disks number disk there in omega (arith, within, is.few);
        sector_below = sector_by number disk.sectors disk.contents (is.disks number disk there).contents;
        fits =
            let few : length (new_areas disk.sectors copies) ≤ 2 = few_areas copies disk.sectors in omega (arith, few);
      });
  commit = λ group same. absurd (none-some group same);
}

pub pvcreate_lies_on : (state : GroupState) → IsState state → (id name : List ℕ) (copies : ℕ)
    → first_refusal (pvcreate_rows state id name copies) ≡ None
    → LiesOn (sizes_of state.disks) state.areas (pvcreate_change state id name copies)
pvcreate_lies_on state is id name copies none = record {
  labels =
      labels_have id copies (LabelLies (sizes_of state.disks)) state.disks (number_named state.names name)
      (λ number disk named there.
      let has : HasSize (sizes_of state.disks) number disk.sectors = has_size state.disks number disk there in
      let sector : label_sector disk < 4 = sector_by number disk.sectors disk.contents (is.disks number disk there).contents in
      let least : 8 ≤ disk.sectors = (is.disks number disk there).least in
      record { disk = has.within; within = omega (arith, has.size, sector, least) });
  differ = labels_apart id copies (λ (a b : NewLabel). a.disk ≢ b.disk) state.disks (number_named state.names name);
  new_areas = λ no_group.
      labels_have id copies (AreasLie (sizes_of state.disks)) state.disks (number_named state.names name)
      (λ number disk named there.
      let enough : fewest_sectors copies ≤ disk.sectors = has_enough state id name copies number disk none named there in
      record {
        lie = areas_on_disk (sizes_of state.disks) number disk.sectors copies (has_size state.disks number disk there) enough;
        differ =
            areas_pair (λ (a b : Extent). header_sector a ≢ header_sector b) copies disk.sectors enough (headers_differ disk.sectors);
      });
  commit = λ group same. absurd (none-some group same);
}
