-- The physical volumes of the group that a line gives lie well on their disks, where those that it had do.
use Rattle.std.proofs.Common.{◌≡◌, ◌≤◌, ◌<◌, ℕ, suc, ◌+◌, ◌-◌, ◌*◌, ◌/◌, Bool, true, false, ◌||◌, ◌&&◌, cond, ltb, List, [], ◌∷◌, ◌++◌, map}
use Rattle.std.proofs.Common.{Option, Some, None, inl, inr, refl, sym, ap, subst, ◌∙◌, arith}
use Rattle.std.specs.Prelude.{find, option_map, slice_get, unwrap_or}
use Rattle.std.specs.List.{AllByRecursion as Each, enumerate_from, list_any}
use Rattle.std.proofs.Math.Nat.{div-mul-le_self}
use Rattle.std.proofs.lemmas.Bool.{cases_order, ltb-true}
use Rattle.std.proofs.lemmas.Bool.Decides.{nat_tests}
use Rattle.std.proofs.lemmas.List.Elements.{recursion_from_All}
use Rattle.std.proofs.lemmas.List.Folds.{list_any-append}
use Rattle.std.proofs.lemmas.Option.{same_Some}
use Rattle.std.specs.Str.{bytes_eq}
use Rattle.pv_header.specs.DataSectors.{data_end_of, data_start_of}
use Rattle.pv_header.specs.declared.extent_list.Extent.{Extent}
use Rattle.pv_header.specs.declared.header.PvHeader.{PvHeader}
use Rattle.meta_model.specs.declared.group.Group.{Group}
use Rattle.meta_model.specs.declared.lv.Lv.{Lv}
use Rattle.meta_model.specs.declared.pv.Pv.{Pv}
use Rattle.scan_rules.proofs.Scanning.{same_bytes_tells}
use Rattle.scan_rules.specs.Decision.{Found as PvOf, Reading, first_misplaced, has_misplaced, is_misplaced, meets_area}
use Rattle.scan_rules.specs.Found.{is_this_misplaced}
use Rattle.vg_found.specs.declared.disk.Disk.{Disk}
use Rattle.vg_found.specs.Disks.{area_shape, disk_shape, header_on, pv_shape, shapes}
use Rattle.group_plan.proofs.AddedFacts.{IsFoundOn, all_found}
use Rattle.group_plan.proofs.DataApart.{IsBesideData, data_beside}
use Rattle.group_plan.proofs.Disks.{ids_apart}
use Rattle.group_plan.specs.Added.{added_of, data_end, data_start, pv_of}
use Rattle.group_edits.specs.JoinedGroup.{free_number, names_in, pv_name}
use Rattle.group_plan.specs.NewGroup.{extended, with_added}
use Rattle.group_plan.specs.State.{IsState}
use Rattle.group_plan.specs.declared.added.AddedPv.{AddedPv}
use Rattle.group_plan.specs.declared.state.GroupState.{GroupState}

-- ---- on its own disk

and_false : (b : Bool) → (b && false) ≡ false
and_false true = refl
and_false false = refl

not_met : (start end : ℕ) (area : Extent) → IsBesideData start end area → meets_area start end (area_shape area) ≡ false
not_met start end area (inl before) =
    let none : ltb start (area.offset / 512 + area.size / 512) ≡ false = grind (arith, nat_tests) in
    ap (λ (b : Bool). b && ltb (area.offset / 512) end) none
not_met start end area (inr behind) =
    let none : ltb (area.offset / 512) end ≡ false = grind (arith, nat_tests) in
    ap (λ (b : Bool). ltb start (area.offset / 512 + area.size / 512) && b) none
    ∙ and_false (ltb start (area.offset / 512 + area.size / 512))

shorter : (start end most : ℕ) (area : Extent) → end ≤ most → IsBesideData start most area → IsBesideData start end area
shorter start end most area upto (inl before) = inl before
shorter start end most area upto (inr behind) = inr (omega (arith, upto, behind))

none_met : (start end most : ℕ) (areas : List Extent) → end ≤ most → Each (IsBesideData start most) areas
    → list_any (meets_area start end) (map area_shape areas) ≡ false
none_met start end most [] upto beside = refl
none_met start end most (area ∷ areas) upto beside =
    ap (λ (b : Bool). b || list_any (meets_area start end) (map area_shape areas))
    (not_met start end area (shorter start end most area upto beside.0))
    ∙ none_met start end most areas upto beside.1

-- data that have a sector begin at 8 or behind it
starts_from : (held areas : List Extent) (disk : ℕ) → data_start_of held disk < data_end_of held areas disk → 8 ≤ data_start_of held disk
starts_from [] areas disk some = absurd (omega (arith, some))
starts_from (area ∷ more) areas disk some = omega arith

whole_extents : (room extent_size : ℕ) → room / extent_size * extent_size ≤ room
whole_extents room extent_size = div-mul-le_self room extent_size

placed_by : (start end : ℕ) (reading : Reading) (found : PvOf) (b : Bool) → ltb start end ≡ b
    → (start < end → (ltb reading.sectors end ≡ false) × (ltb start 8 ≡ false) × (list_any (meets_area start end) found.areas ≡ false))
    → is_misplaced start end reading found ≡ false
placed_by start end reading found false none parts =
    ap (λ (b : Bool). b && (ltb reading.sectors end || (ltb start 8 || list_any (meets_area start end) found.areas))) none
placed_by start end reading found true some parts =
    let each = parts (ltb-true start end some) in
    ap (λ (b : Bool). ltb start end && (b || (ltb start 8 || list_any (meets_area start end) found.areas))) each.0
    ∙ ap (λ (b : Bool). ltb start end && (b || list_any (meets_area start end) found.areas)) each.1
    ∙ ap (λ (b : Bool). ltb start end && b) each.2
    ∙ and_false (ltb start end)

module _ (state : GroupState) (is : IsState state) (extent_size : ℕ) where
  own_placed : (added : AddedPv) (reading : Reading) → IsFoundOn state added → reading.sectors ≡ added.sectors
      → is_misplaced (data_start added) (data_start added + (data_end added - data_start added) / extent_size * extent_size) reading
      (pv_shape added.header) ≡ false
  own_placed added reading found same =
      let start : ℕ = data_start added in
      let most : ℕ = data_end added in
      let end : ℕ = start + (most - start) / extent_size * extent_size in
      let few : (most - start) / extent_size * extent_size ≤ most - start = whole_extents (most - start) extent_size in
      placed_by start end reading (pv_shape added.header) (ltb start end) refl
      (λ some.
      let room : start < most = omega (arith, some, few) in
      let upto : end ≤ most = omega (arith, few, room) in
      let ends : most ≤ added.sectors = found.is.ends in
      let inside : end ≤ reading.sectors = omega (arith, upto, ends, same) in
      let from : 8 ≤ start = starts_from added.header.data_areas added.header.areas added.sectors room in
      let first : ltb reading.sectors end ≡ false = grind (arith, nat_tests) in
      let second : ltb start 8 ≡ false = grind (arith, nat_tests) in (
        first,
        second,
        none_met start end most added.header.areas upto
            (recursion_from_All (IsBesideData start most) added.header.areas
            (data_beside added.header.data_areas added.header.areas added.sectors found.lie room)),
      ))

  -- ---- on any disk

  -- one whose header has its id is its own
  own_disk : (number : ℕ) (disk : Disk) (header : PvHeader) (added : AddedPv) → slice_get state.disks number ≡ Some disk
      → header_on disk.contents ≡ Some header → IsFoundOn state added → added.header.id ≡ header.id
      → (added.header ≡ header) × (disk.sectors ≡ added.sectors)
  own_disk number disk header added there has found same =
      elim (cases_order number added.disk) [
        | inl equal ↦
            let one : disk ≡ found.has.disk =
            same_Some disk found.has.disk (sym there ∙ ap (slice_get state.disks) equal ∙ found.has.there) in (
              same_Some added.header header (sym found.has.is ∙ ap (λ (d : Disk). header_on d.contents) (sym one) ∙ has),
              ap (λ (d : Disk). d.sectors) one ∙ sym found.sectors,
            )
        | inr rest ↦ elim rest [
          | inl less ↦ absurd (ids_apart 0 state.disks is.differ number added.disk disk found.has.disk header added.header less there
              found.has.there has found.has.is (sym same))
          | inr more ↦ absurd (ids_apart 0 state.disks is.differ added.disk number found.has.disk disk added.header header more
              found.has.there there found.has.is has same)
        ]
      ]

  one_by : (number : ℕ) (disk : Disk) (header : PvHeader) (name : List ℕ) (added : AddedPv) (b : Bool)
      → bytes_eq added.header.id header.id ≡ b → slice_get state.disks number ≡ Some disk → header_on disk.contents ≡ Some header
      → IsFoundOn state added
      → is_this_misplaced extent_size (disk_shape disk) (pv_shape header) (name, pv_of extent_size added) ≡ false
  one_by number disk header name added false other there has found =
      ap (λ (b : Bool). b && is_misplaced (data_start added)
      (data_start added + (data_end added - data_start added) / extent_size * extent_size) (disk_shape disk) (pv_shape header)) other
  one_by number disk header name added true same there has found =
      let own = own_disk number disk header added there has found (same_bytes_tells added.header.id header.id same) in
      ap (λ (b : Bool). bytes_eq added.header.id header.id && b)
      (subst (λ (h : PvHeader). is_misplaced (data_start added)
      (data_start added + (data_end added - data_start added) / extent_size * extent_size) (disk_shape disk) (pv_shape h) ≡ false) own.0
      (own_placed added (disk_shape disk) found own.1))
      ∙ and_false (bytes_eq added.header.id header.id)

  each_one : (number : ℕ) (disk : Disk) (header : PvHeader) → slice_get state.disks number ≡ Some disk
      → header_on disk.contents ≡ Some header → (all : List AddedPv) → Each (IsFoundOn state) all
      → Each (λ (added : AddedPv). (name : List ℕ)
      → is_this_misplaced extent_size (disk_shape disk) (pv_shape header) (name, pv_of extent_size added) ≡ false) all
  each_one number disk header there has [] found = tt
  each_one number disk header there has (added ∷ more) found = (
    (λ name. one_by number disk header name added (bytes_eq added.header.id header.id) refl there has found.0),
    each_one number disk header there has more found.1,
  )

-- ---- the group

none_added : (test : List ℕ × Pv → Bool) (lvs : List (List ℕ × Lv)) (extent_size : ℕ) (pvs : List (List ℕ × Pv)) (all : List AddedPv)
    → list_any test pvs ≡ false
    → Each (λ (added : AddedPv). (name : List ℕ) → test (name, pv_of extent_size added) ≡ false) all
    → list_any test (with_added lvs extent_size pvs all) ≡ false
none_added test lvs extent_size pvs [] none each = none
none_added test lvs extent_size pvs (added ∷ more) none each =
    let name : List ℕ = pv_name (free_number (names_in pvs lvs)) in
    none_added test lvs extent_size (pvs ++ (name, pv_of extent_size added) ∷ []) more
    (list_any-append test pvs ((name, pv_of extent_size added) ∷ [])
    ∙ ap (λ (b : Bool). b || (test (name, pv_of extent_size added) || false)) none
    ∙ ap (λ (b : Bool). b || false) (each.0 name))
    each.1

abbrev pub IsPlacedOn : Group → Reading → Type 0
IsPlacedOn group reading = has_misplaced group reading ≡ false

-- whether one with this header on a disk of so many sectors is misplaced
abbrev pub misplaced_with : Group → Reading → Option PvHeader → Bool
misplaced_with group reading header =
    unwrap_or (option_map (λ (found : PvOf). list_any (is_this_misplaced group.extent_size reading found) group.pvs)
    (option_map pv_shape header)) false

module _ (state : GroupState) (is : IsState state) (base : Group) (all : List AddedPv) (found : Each (IsFoundOn state) all) where
  placed_with : (number : ℕ) (disk : Disk) (header : Option PvHeader) → slice_get state.disks number ≡ Some disk
      → header_on disk.contents ≡ header → misplaced_with base (disk_shape disk) header ≡ false
      → misplaced_with (extended base all) (disk_shape disk) header ≡ false
  unfolding extended
  placed_with number disk None there has placed = refl
  placed_with number disk (Some header) there has placed =
      none_added (is_this_misplaced base.extent_size (disk_shape disk) (pv_shape header)) base.lvs base.extent_size base.pvs all placed
      (each_one state is base.extent_size number disk header there has all found)

  placed_on : (number : ℕ) (disk : Disk) → slice_get state.disks number ≡ Some disk → IsPlacedOn base (disk_shape disk)
      → IsPlacedOn (extended base all) (disk_shape disk)
  placed_on number disk there placed = placed_with number disk (header_on disk.contents) there refl placed

  placed_from : (number : ℕ) (disks : List Disk)
      → ((k : ℕ) (disk : Disk) → slice_get disks k ≡ Some disk → slice_get state.disks (number + k) ≡ Some disk)
      → Each (IsPlacedOn base) (shapes disks)
      → Each (IsPlacedOn (extended base all)) (shapes disks)
  placed_from number [] there placed = tt
  placed_from number (disk ∷ disks) there placed = (
    placed_on (number + 0) disk (there 0 disk refl) placed.0,
    placed_from (number + 1) disks (λ k d at. subst (λ (n : ℕ). slice_get state.disks n ≡ Some d) (omega arith) (there (suc k) d at))
        placed.1,
  )

-- ---- the first that is misplaced

split_found : (group : Group) (number : ℕ) (reading : Reading) (more : List Reading) (b : Bool) → has_misplaced group reading ≡ b
    → option_map (λ (d : ℕ × Reading). d.0) (cond b (Some (number, reading))
    (find (λ (d : ℕ × Reading). has_misplaced group d.1) (enumerate_from (number + 1) more))) ≡ None
    → IsPlacedOn group reading × (option_map (λ (d : ℕ × Reading). d.0)
    (find (λ (d : ℕ × Reading). has_misplaced group d.1) (enumerate_from (number + 1) more)) ≡ None)
split_found group number reading more true here none = absurd cc
split_found group number reading more false here none = (here, none)

pub each_placed : (group : Group) (number : ℕ) (readings : List Reading)
    → option_map (λ (d : ℕ × Reading). d.0) (find (λ (d : ℕ × Reading). has_misplaced group d.1) (enumerate_from number readings)) ≡ None
    → Each (IsPlacedOn group) readings
each_placed group number [] none = tt
each_placed group number (reading ∷ more) none =
    let parts = split_found group number reading more (has_misplaced group reading) refl none in
    (parts.0, each_placed group (number + 1) more parts.1)

pub none_misplaced : (group : Group) (number : ℕ) (readings : List Reading) → Each (IsPlacedOn group) readings
    → option_map (λ (d : ℕ × Reading). d.0) (find (λ (d : ℕ × Reading). has_misplaced group d.1) (enumerate_from number readings)) ≡ None
none_misplaced group number [] placed = refl
none_misplaced group number (reading ∷ more) placed =
    ap (λ (b : Bool). option_map (λ (d : ℕ × Reading). d.0)
    (cond b (Some (number, reading)) (find (λ (d : ℕ × Reading). has_misplaced group d.1) (enumerate_from (number + 1) more)))) placed.0
    ∙ none_misplaced group (number + 1) more placed.1

-- where none of a group is, none is where physical volumes are added
pub added_placed : (state : GroupState) → IsState state → (base : Group) (names : List (List ℕ))
    → first_misplaced base (shapes state.disks) ≡ None → first_misplaced (extended base (added_of state names)) (shapes state.disks) ≡ None
added_placed state is base names placed =
    let all : List AddedPv = added_of state names in
    none_misplaced (extended base all) 0 (shapes state.disks)
    (placed_from state is base all (recursion_from_All (IsFoundOn state) all (all_found state is names)) 0 state.disks
    (λ k disk at. subst (λ (n : ℕ). slice_get state.disks n ≡ Some disk) (omega arith) at) (each_placed base 0 (shapes state.disks) placed))
