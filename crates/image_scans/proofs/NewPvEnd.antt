-- Once a new physical volume stands on its disk, the disk reads as one with empty areas.
use Rattle.std.proofs.Common.{◌≡◌, ◌≢◌, ◌≤◌, ◌<◌, ℕ, ◌+◌, ◌-◌, ◌*◌, ◌/◌, ◌%◌, ◌==◌, Bool, true, false, not, ◌&&◌, ◌||◌, cond, nat_lt, min}
use Rattle.std.proofs.Common.{max, List, [], ◌∷◌, ◌++◌, get_or, map, flat_map, find, Option, Some, None, Ok, inr, refl, sym, ap, subst, ◌∙◌}
use Rattle.std.proofs.Common.{arith}
use Rattle.std.specs.Prelude.{All, option_map, unwrap_or}
use Rattle.std.specs.FinSet as set
use Rattle.std.specs.List.{AllByRecursion as Each, list_any, reduce}
use Rattle.std.specs.Option.{option_and_then}
use Rattle.std.proofs.lemmas.Bool.{or_left, true≢false}
use Rattle.std.proofs.lemmas.Bool.Decides.{nat_tests}
use Rattle.std.proofs.lemmas.List.Elements.{All-append, All-cons, All-from_recursion, All-head, All-nil, recursion_from_All}
use Rattle.std.specs.Str.{bytes_eq}
use Rattle.list_laws.proofs.Bools.{eq_to, lt_false, lt_true}
use Rattle.lvm_script.specs.declared.line.Line.{Line}
use Rattle.disk_model.specs.Steps.{Image}
use Rattle.pv_label.specs.Label.{IsFirstLabel, IsLabel}
use Rattle.pv_label.specs.LabelSectors.{first_four}
use Rattle.pv_header.specs.declared.extent_list.Extent.{Extent}
use Rattle.pv_header.specs.declared.header.PvHeader.{PvHeader}
use Rattle.pv_header.specs.Areas.{CanLie, end_of, first_overlap, is_misshapen, is_outside, next_start, shares_byte}
use Rattle.mda_header.specs.declared.entry.HeaderEntry.TheVariants.{Nothing}
use Rattle.mda_header.specs.Header.{IsHeader}
use Rattle.meta_model.specs.declared.group.Group.{Group}
use Rattle.extent_alloc.specs.declared.part.Part.{Part}
use Rattle.scan_rules.specs.Decision.{Area as AreaOf, Found as PvOf, HoldsNone, Reading, has_id, lists}
use Rattle.disk_batch.specs.InTurn.{HasFirstBatches, with_batches}
use Rattle.disk_batch.proofs.FrontBatches.{KeepsSector, front_kept, keeps_sector}
use Rattle.disk_contents.specs.declared.contents.AreaFound.{AreaFound}
use Rattle.disk_contents.specs.declared.contents.PvFound.{PvFound}
use Rattle.disk_contents.specs.declared.contents.PvFound.TheVariants.{NoLabel, NoHeader, Whole}
use Rattle.disk_contents.specs.Contents.{IsAreaFound, IsFound}
use Rattle.vg_found.specs.declared.disk.Disk.{Disk}
use Rattle.vg_found.specs.declared.found.Found.{Found}
use Rattle.vg_found.specs.Disks.{has_header_id, header_on, pv_shape, shapes}
use Rattle.vg_scan.specs.Readings.{AreAreaReadings, IsContents, IsDiskReading}
use Rattle.vg_commit.specs.Showing.{sectors_of}
use Rattle.group_plan.proofs.Passed.{both_false}
use Rattle.group_plan.specs.Ids.{has_other_id, has_pv_id}
use Rattle.group_plan.specs.declared.state.Change.{Change}
use Rattle.group_plan.specs.declared.state.GroupState.{GroupState}
use Rattle.group_plan.specs.declared.state.NewLabel.{NewLabel}
use Rattle.group_plan.specs.declared.backup.Backup.{Backup}
use Rattle.pv_plans.proofs.NewAreas.{enough_for_one}
use Rattle.pv_plans.specs.Pvcreate.{fewest_sectors, first_area, group_has, label_in, last_area, new_areas, new_label}
use Rattle.group_ops.specs.Laws.{state_in}
use Rattle.group_ops.specs.Planning.{change_of}
use Rattle.change_batches.specs.Batches.{area_puts, areas_of, batch_if, commit_batches, empty_area, label_put, new_area_puts}
use Rattle.change_batches.specs.Laws.{HasLabel, HoldsAfter}
use Rattle.change_batches.proofs.LabelPuts.{all_if, label_where}
use Rattle.vg_change.specs.LineBatches.{batches_of}
use Rattle.vg_change.proofs.LineLabels.{new_labels_are, new_near}
use Rattle.image_scans.specs.Laws.{CanCarryOut, none_out}
use Rattle.vg_scan.specs.Versions.{FindsVersion, version_in}
use Rattle.image_scans.proofs.Again.{same_ids}
use Rattle.image_scans.proofs.CommitLine.{all_written, can, headers, is_state, shown}
use Rattle.image_scans.proofs.CommitScans.{none_unread}
use Rattle.image_scans.proofs.AreaReadings.{AreasGive, IsNone}
use Rattle.image_scans.proofs.Labels.{of_four}
use Rattle.image_scans.proofs.Lines.{MakesPv}
use Rattle.image_scans.proofs.NewPv.{OtherIds, each_other, quiet_before, with_disk}
use Rattle.image_scans.proofs.OneArea.{entry_nothing}
use Rattle.image_scans.proofs.Quiet.{IsQuiet}

-- ---- empty areas

abbrev found_empty : Extent → AreaFound
found_empty area = record { area = area; header = Ok (empty_area area); entry = Nothing }

abbrev read_empty : Extent → AreaOf
read_empty area = record { start = area.offset / 512; sectors = area.size / 512; reading = Some HoldsNone }

module _ (pv : ℕ) (at : ℕ → List ℕ) where
  abbrev IsEmpty : Extent → Type 0
  IsEmpty area = IsHeader (at (area.offset / 512)) (empty_area area)

  in_order : (areas : List Extent) → map (λ (f : AreaFound). f.area) (map found_empty areas) ≡ areas
  in_order [] = refl
  in_order (area ∷ areas) = ap (λ l. area ∷ l) (in_order areas)

  each_found : (areas : List Extent) → Each IsEmpty areas → Each (IsAreaFound at) (map found_empty areas)
  each_found [] all = tt
  each_found (area ∷ areas) all = (
    ((all.0, refl, refl), entry_nothing (at (area.offset / 512)) area.offset area.size (empty_area area) all.0 refl refl),
    each_found areas all.1,
  )

  each_read : (areas : List Extent) → AreAreaReadings pv at (map found_empty areas) (map read_empty areas)
  each_read [] = tt
  each_read (area ∷ areas) = (record { start_is = refl; sectors_is = refl; given = refl }, each_read areas)

each_none : (areas : List Extent) → AreasGive IsNone (map read_empty areas)
each_none [] = tt
each_none (area ∷ areas) = (refl, each_none areas)

-- ---- where they lie

abbrev data_area : Extent
data_area = record { offset = 1048576; size = 0 }

none_passes : {X : Type 0} (p : X → Bool) (xs : List X) → Each (λ (x : X). p x ≡ false) xs → find p xs ≡ None
none_passes p [] all = refl
none_passes p (x ∷ xs) all = ap (λ (t : Bool). cond t (Some x) (find p xs)) all.0 ∙ none_passes p xs all.1

outside_not : (bytes : ℕ) (area : Extent) → area.offset + area.size ≤ bytes → is_outside bytes area ≡ false
outside_not bytes area fits = grind (arith, nat_tests)

-- of two areas the first ends where the second begins or before it, or the second where the first does
upto_second : (a b e f n : ℕ) → e ≡ n → n ≤ b → min e f ≤ max a b
upto_second a b e f n ends before = omega (arith, ends, before)

upto_first : (a b e f n : ℕ) → f ≡ n → n ≤ a → min e f ≤ max a b
upto_first a b e f n ends before = omega (arith, ends, before)

ends_before : (all : List Extent) (bytes n : ℕ) (a b : Extent) → end_of all bytes a ≡ n → n ≤ b.offset → shares_byte all bytes a b ≡ false
unfolding shares_byte
ends_before all bytes n a b ends before =
    lt_false (max a.offset b.offset) (min (end_of all bytes a) (end_of all bytes b))
    (upto_second a.offset b.offset (end_of all bytes a) (end_of all bytes b) n ends before)

begins_behind : (all : List Extent) (bytes n : ℕ) (a b : Extent) → end_of all bytes b ≡ n → n ≤ a.offset → shares_byte all bytes a b ≡ false
unfolding shares_byte
begins_behind all bytes n a b ends before =
    lt_false (max a.offset b.offset) (min (end_of all bytes a) (end_of all bytes b))
    (upto_first a.offset b.offset (end_of all bytes a) (end_of all bytes b) n ends before)

abbrev both_and_data : ℕ → List Extent
both_and_data sectors = data_area ∷ first_area ∷ last_area sectors ∷ []

-- the data end where the area at the disk's end begins
data_upto : (sectors bytes : ℕ) → 4096 ≤ sectors → end_of (both_and_data sectors) bytes data_area ≡ sectors * 512 - 1044480
unfolding next_start
data_upto sectors bytes both =
    ap (λ (t : Bool). unwrap_or (reduce min (map (λ (area : Extent). area.offset) (cond t (last_area sectors ∷ []) []))) bytes)
    (or_left (nat_lt 1048576 (sectors * 512 - 1044480)) (sectors * 512 - 1044480 == 1048576 && not (1044480 == 0))
    (lt_true 1048576 (sectors * 512 - 1044480) (omega (arith, both))))

last_shaped : (sectors : ℕ) → 4096 ≤ sectors → is_misshapen (last_area sectors) ≡ false
last_shaped sectors both =
    let whole : ((sectors * 512 - 1044480) % 512 == 0) ≡ true = eq_to ((sectors * 512 - 1044480) % 512) 0 (omega (arith, both)) in
    let far : nat_lt (sectors * 512 - 1044480) 2048 ≡ false = lt_false (sectors * 512 - 1044480) 2048 (omega (arith, both)) in
    ap (λ (t : Bool). not t || not (1044480 % 512 == 0) || nat_lt (sectors * 512 - 1044480) 2048 || nat_lt 1044480 1536) whole
    ∙ ap (λ (t : Bool). t || nat_lt 1044480 1536) far

-- no area, the one in front of the data, or both
lie_none : (sectors : ℕ) → 2056 ≤ sectors → CanLie (data_area ∷ []) [] (sectors * 512)
unfolding first_overlap
lie_none sectors enough = record {
  inside =
      none_passes (is_outside (sectors * 512)) (data_area ∷ []) (outside_not (sectors * 512) data_area (omega (arith, enough)), tt);
  well_shaped = refl;
  apart = refl;
}

lie_first : (sectors : ℕ) → 2056 ≤ sectors → CanLie (data_area ∷ []) (first_area ∷ []) (sectors * 512)
unfolding first_overlap
lie_first sectors enough = record {
  inside =
      none_passes (is_outside (sectors * 512)) (data_area ∷ first_area ∷ []) (
        outside_not (sectors * 512) data_area (omega (arith, enough)),
        (outside_not (sectors * 512) first_area (omega (arith, enough)), tt),
      );
  well_shaped = refl;
  apart =
      none_passes (λ (pair : Extent × Extent). shares_byte (data_area ∷ first_area ∷ []) (sectors * 512) pair.0 pair.1)
      ((data_area, first_area) ∷ [])
      (begins_behind (data_area ∷ first_area ∷ []) (sectors * 512) 1048576 data_area first_area refl (omega arith), tt);
}

lie_both : (sectors : ℕ) → 4096 ≤ sectors → CanLie (data_area ∷ []) (first_area ∷ last_area sectors ∷ []) (sectors * 512)
unfolding first_overlap
lie_both sectors both = record {
  inside =
      none_passes (is_outside (sectors * 512)) (both_and_data sectors) (
        outside_not (sectors * 512) data_area (omega (arith, both)),
        (
          outside_not (sectors * 512) first_area (omega (arith, both)),
          (outside_not (sectors * 512) (last_area sectors) (omega (arith, both)), tt),
        ),
      );
  well_shaped = none_passes is_misshapen (first_area ∷ last_area sectors ∷ []) (refl, (last_shaped sectors both, tt));
  apart =
      none_passes (λ (pair : Extent × Extent). shares_byte (both_and_data sectors) (sectors * 512) pair.0 pair.1)
      ((data_area, first_area) ∷ (data_area, last_area sectors) ∷ (first_area, last_area sectors) ∷ []) (
        begins_behind (both_and_data sectors) (sectors * 512) 1048576 data_area first_area refl (omega arith),
        (
          ends_before (both_and_data sectors) (sectors * 512) (sectors * 512 - 1044480) data_area (last_area sectors)
              (data_upto sectors (sectors * 512) both) (omega arith),
          (ends_before (both_and_data sectors) (sectors * 512) 1048576 first_area (last_area sectors) refl (omega (arith, both)), tt),
        ),
      );
}

can_lie : (copies sectors : ℕ) → fewest_sectors copies ≤ sectors → CanLie (data_area ∷ []) (new_areas sectors copies) (sectors * 512)
can_lie copies sectors enough = by (copies == 0) (copies == 2) enough
  where
    one : 2056 ≤ sectors
    one = enough_for_one copies sectors enough

    by : (none two : Bool) → cond two 4096 2056 ≤ sectors
        → CanLie (data_area ∷ []) (cond none [] (first_area ∷ cond two (last_area sectors ∷ []) [])) (sectors * 512)
    by true two many = lie_none sectors one
    by false true many = lie_both sectors many
    by false false many = lie_first sectors one

-- ---- the label

-- no sector before the one that gets the label is a label
not_before : (at : ℕ → List ℕ) (sectors : ℕ) (contents : Option PvFound) → IsContents at sectors contents → contents ≢ None → (k : ℕ)
    → k < unwrap_or (option_and_then label_in contents) 1 → ¬ IsLabel (at k) k
not_before at sectors None is read k less = absurd (read refl)
not_before at sectors (Some (NoLabel refusal)) is read k less =
    λ has. is.none k (omega (arith, less)) (subst (λ (s : List ℕ). IsLabel s k) (sym (of_four at k (omega (arith, less)))) has)
not_before at sectors (Some (NoHeader label refusal)) is read k less =
    λ has. is.0.first k less (subst (λ (s : List ℕ). IsLabel s k) (sym (of_four at k (omega (arith, less, is.0.among)))) has)
not_before at sectors (Some (Whole label header areas)) is read k less =
    λ has. is.0.first k less (subst (λ (s : List ℕ). IsLabel s k) (sym (of_four at k (omega (arith, less, is.0.among)))) has)

first_label : (at : ℕ → List ℕ) (label : ℕ) → label < 4 → IsLabel (at label) label → ((k : ℕ) → k < label → ¬ IsLabel (at k) k)
    → IsFirstLabel (first_four at) label
first_label at label low is none = record {
  among = low;
  label = subst (λ (s : List ℕ). IsLabel s label) (sym (of_four at label low)) is;
  first = λ k less has. none k less (subst (λ (s : List ℕ). IsLabel s k) (of_four at k (omega (arith, less, low))) has);
}

-- ids on disks are those of their headers
has_same : (id : List ℕ) (o : Option PvHeader)
    → unwrap_or (option_map (λ (pv : PvOf). bytes_eq pv.id id) (option_map pv_shape o)) false
    ≡ unwrap_or (option_map (λ (h : PvHeader). bytes_eq h.id id) o) false
has_same id None = refl
has_same id (Some header) = refl

shapes_have : (id : List ℕ) (disks : List Disk) → list_any (has_id id) (shapes disks) ≡ list_any (has_header_id id) disks
shapes_have id [] = refl
shapes_have id (disk ∷ disks) =
    ap (λ (b : Bool). b || list_any (has_id id) (shapes disks)) (has_same id (header_on disk.contents))
    ∙ ap (λ (b : Bool). has_header_id id disk || b) (shapes_have id disks)

-- ---- the disk

module _ (base : Image) (sizes : List ℕ) (found : Found) (names : List (List ℕ)) (backup : Option Backup) (line : Line) (now : ℕ)
    (given : List Part) (p : CanCarryOut base sizes found names backup line now given)
    (m : MakesPv (state_in found names backup) (change_of (state_in found names backup) line now given)) where
  abbrev state : GroupState
  state = state_in found names backup

  abbrev change : Change
  change = change_of state line now given

  abbrev image : Image
  image = with_batches (batches_of state line now given) base

  abbrev label : NewLabel
  label = new_label m.id m.copies m.number m.disk

  abbrev only : List NewLabel
  only = label ∷ []

  has_label : HasLabel image label
  has_label =
      All-head (HasLabel image) label [] (subst (All (HasLabel image)) m.labels_is
      (p.keeps.found base (shown base sizes found names backup line now given p)).labels)

  abbrev AreEmpty : NewLabel → Type 0
  AreEmpty l =
      All (λ (area : Extent). IsHeader (sectors_of (record { pv = l.disk; start = area.offset; size = area.size }) image 0)
      (empty_area area)) l.header.areas

  areas_empty : Each (IsEmpty m.number (image m.number)) label.header.areas
  areas_empty =
      let all : All AreEmpty change.labels =
      subst (λ (g : Option Group). HoldsAfter g now change state.areas image) m.none
      (p.keeps.found base (shown base sizes found names backup line now given p)).areas in
      let own : AreEmpty label = All-head AreEmpty label [] (subst (All AreEmpty) m.labels_is all) in
      recursion_from_All (IsEmpty m.number (image m.number)) label.header.areas
      (λ k d within.
      let area : Extent = get_or label.header.areas k d in
      let plain : sectors_of (record { pv = m.number; start = area.offset; size = area.size }) image 0
      ≡ image m.number (area.offset / 512) = ap (image m.number) (omega arith) in
      subst (λ (s : List ℕ). IsHeader s (empty_area area)) plain (own k d within))

  low : label.sector < 4
  low =
      (All-head (λ (l : NewLabel). l.sector < 4) label []
      (subst (All (λ (l : NewLabel). l.sector < 4)) m.labels_is
      (λ k d within. ((can base sizes found names backup line now given p).labels k d within).sector_below)))

  before_kept : (k : ℕ) → k < label.sector → image m.number k ≡ base m.number k
  before_kept k less =
      let h : HasFirstBatches (batch_if (flat_map area_puts change.labels) ++ batch_if (map label_put change.labels) ++ []) base image =
      subst (λ (g : Option Group). HasFirstBatches
      (batch_if (new_area_puts g change.labels) ++ batch_if (map label_put change.labels)
      ++ commit_batches g now (areas_of change state.areas)) base image) m.none
      (all_written (batches_of state line now given) base)
      in
      let at_sector : All (λ (l : NewLabel). l.sector ≡ label.sector) change.labels =
      subst (All (λ (l : NewLabel). l.sector ≡ label.sector)) (sym m.labels_is)
      (All-cons (λ (l : NewLabel). l.sector ≡ label.sector) label [] refl (All-nil (λ (l : NewLabel). l.sector ≡ label.sector)))
      in
      front_kept (batch_if (flat_map area_puts change.labels) ++ batch_if (map label_put change.labels) ++ []) base image m.number k
      (All-append (KeepsSector m.number k) (batch_if (flat_map area_puts change.labels) ++ batch_if (map label_put change.labels)) []
      (All-append (KeepsSector m.number k) (batch_if (flat_map area_puts change.labels)) (batch_if (map label_put change.labels))
      (all_if (KeepsSector m.number k) (flat_map area_puts change.labels)
      (new_near change.labels
      (new_labels_are state line now given (is_state base sizes found names backup line now given p) p.planned p.passes m.none) m.number k
      (inr (omega (arith, less, low)))))
      (all_if (KeepsSector m.number k) (map label_put change.labels)
      (keeps_sector (map label_put change.labels) m.number k
      (λ value by. let w = label_where change.labels label m.number k value by in omega (arith, less, w.3, at_sector w.0 label w.1)))))
      (All-nil (KeepsSector m.number k)))
      h

  is_read : m.disk.contents ≢ None
  is_read none =
      let unread : set.contains found.unread m.number ≡ true = (p.shape.disks m.number m.disk m.there).1.0 none in
      true≢false (sym unread ∙ none_unread found p.whole m.number)

  abbrev own : Disk
  own = record { sectors = m.disk.sectors; contents = Some (Whole label.sector label.header (map found_empty label.header.areas)) }

  abbrev read : Reading
  read = record { sectors = m.disk.sectors; pv = Some (record { id = m.id; areas = map read_empty label.header.areas }) }

  stands : (reading : Reading) → IsDiskReading m.number (base m.number) m.disk reading
      → IsFound (image m.number) m.disk.sectors (Whole label.sector label.header (map found_empty label.header.areas))
  stands reading before = (
    first_label (image m.number) label.sector low has_label.label
        (λ k less has. not_before (base m.number) m.disk.sectors m.disk.contents before.contents is_read k less
        (subst (λ (s : List ℕ). IsLabel s k) (before_kept k less) has)),
    record {
      fields = has_label.header;
      areas = can_lie m.copies m.disk.sectors m.enough;
    },
    record {
      in_order = in_order m.number (image m.number) label.header.areas;
      each =
          All-from_recursion (IsAreaFound (image m.number)) (map found_empty label.header.areas)
          (each_found m.number (image m.number) label.header.areas areas_empty);
    },
  )

  id_new : (o : Option Group) → group_has m.id o ≡ false → IsQuiet o read × OtherIds base sizes found names backup line now given p m o own
  id_new None none = (each_none label.header.areas, tt)
  id_new (Some group) none =
      let unlisted : lists group m.id ≡ false = (both_false (has_other_id group m.id) (has_pv_id group m.id) none).1 in
      ((each_none label.header.areas, unlisted), each_other m.id group.pvs unlisted)

  pub with_new_disk : FindsVersion sizes image none_out (version_in found)
  with_new_disk =
      let new = id_new found.group m.not_in_group in
      with_disk base sizes found names backup line now given p m image (all_written (batches_of state line now given) base) found.unread
      none_out (λ pv within. none_unread found p.whole pv) (λ pv other. refl) own new.1
      (λ reading there before. record {
        read = read;
        own_sectors = refl;
        own_unread = ((λ none. absurd cc), (λ unread. absurd (true≢false (sym unread ∙ none_unread found p.whole m.number))));
        is =
            record {
              contents = stands reading before;
              sectors_is = refl;
              pv_is = (refl, each_read m.number (image m.number) label.header.areas);
            };
        rel = (
          quiet_before base sizes found names backup line now given p m reading there before,
          new.0,
          sym (same_ids m.id (shapes found.disks) p.scan.readings (headers base sizes found names backup line now given p))
              ∙ shapes_have m.id found.disks ∙ m.on_no_disk,
        );
      })
