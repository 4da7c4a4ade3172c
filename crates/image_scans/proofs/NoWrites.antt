-- No write of a line covers a sector in the extents of the group that was found, and so none covers a primary place.
use Rattle.std.proofs.Common.{◌≡◌, ◌≢◌, ◌≤◌, ◌<◌, ◌⊎◌, ℕ, zero, suc, ◌+◌, ◌*◌, ◌/◌, Bool, true, false, cond, List, [], ◌∷◌, ◌++◌, get_or}
use Rattle.std.proofs.Common.{map, Option, Some, None, inl, inr, ⊎_elim, refl, sym, ap, subst, ◌∙◌, arith}
use Rattle.std.specs.Prelude.{All, IfSome, filter_map, flat_map, option_map, slice_get, slice_index}
use Rattle.std.specs.FinSet as set
use Rattle.std.specs.List.{AllByRecursion as Each, enumerate_from, range_with_len}
use Rattle.std.specs.Option.{option_map_or}
use Rattle.std.proofs.lemmas.List.Elements.{All-append, All-cons, All-filter, All-nil}
use Rattle.std.proofs.lemmas.Option.{same_Some}
use Rattle.sector_base.specs.declared.places.At.{At}
use Rattle.lvm_script.specs.declared.line.Line.{Line}
use Rattle.disk_model.specs.Steps.{Image}
use Rattle.pv_header.specs.declared.extent_list.Extent.{Extent}
use Rattle.mda_header.specs.declared.header.Locn.{Locn}
use Rattle.mda_ring.specs.declared.area.Area.{Area}
use Rattle.conf_text.specs.Printed.{printed}
use Rattle.meta_model.specs.declared.group.Group.{Group}
use Rattle.meta_model.specs.declared.lv.Lv.{Lv}
use Rattle.meta_model.specs.declared.pv.Pv.{Pv}
use Rattle.meta_print.specs.Layout.{tree_of}
use Rattle.volume_rules.specs.Extents.{extents_of}
use Rattle.volume_rules.specs.Rules.{IsAccepted}
use Rattle.volume_view.specs.Places.{primary}
use Rattle.volume_view.specs.View.{at_place, view}
use Rattle.volume_view.proofs.Views.{view_reads_primaries}
use Rattle.extent_alloc.specs.declared.part.Part.{Part}
use Rattle.scan_rules.specs.Decision.{first_misplaced}
use Rattle.scan_rules.specs.Found.{missing_of}
use Rattle.disk_batch.specs.InTurn.{HasFirstBatches, Put}
use Rattle.disk_batch.specs.Writes.{IsWrittenBy}
use Rattle.disk_batch.proofs.FrontBatches.{KeepsSector, front_kept, keeps_sector}
use Rattle.disk_contents.specs.declared.contents.AreaFound.{AreaFound}
use Rattle.disk_contents.specs.declared.contents.PvFound.{PvFound}
use Rattle.disk_contents.specs.Standing.{area_on}
use Rattle.vg_found.specs.declared.disk.Disk.{Disk}
use Rattle.vg_found.specs.declared.found.Found.{Found}
use Rattle.vg_found.specs.Disks.{areas_on, disk_with, disks_of, shapes}
use Rattle.vg_found.specs.Shape.{ContentsCanStand, HasShape}
use Rattle.vg_found.specs.Whole.{IsWhole}
use Rattle.list_laws.proofs.KeptLists.{all_kept}
use Rattle.vg_commit.proofs.Disks.{no_area}
use Rattle.group_plan.proofs.Passed.{absent}
use Rattle.group_plan.specs.Judging.{lies_on as is_on, set_of}
use Rattle.group_plan.specs.declared.state.Change.{Change}
use Rattle.group_plan.specs.declared.state.GroupState.{GroupState}
use Rattle.group_plan.specs.declared.state.NewLabel.{NewLabel}
use Rattle.group_plan.specs.declared.backup.Backup.{Backup}
use Rattle.pv_plans.specs.Pvcreate.{new_label}
use Rattle.group_ops.specs.Laws.{state_in}
use Rattle.group_ops.specs.Planning.{change_of}
use Rattle.change_batches.specs.Batches.{area_puts, areas_of, batch_if, commit_batches, label_put, new_area_puts}
use Rattle.change_batches.proofs.LabelPuts.{all_if, label_where, labels_keep_other}
use Rattle.vg_change.specs.LineBatches.{batches_of}
use Rattle.vg_change.proofs.LineLabels.{new_labels_are, new_near}
use Rattle.volume_view.specs.InExtents.{IsInExtents}
use Rattle.image_scans.specs.Laws.{CanCarryOut, IsOutside, place_of, places_in, visible_places}
use Rattle.image_scans.proofs.CommitCommands.{Commits}
use Rattle.image_scans.proofs.CommitLine.{can, is_state, lies, settled}
use Rattle.image_scans.proofs.CommitOnTheWay.{header_read, writes}
use Rattle.image_scans.proofs.CommitWrites.{IsAreaWrite}
use Rattle.image_scans.proofs.FoundAreas.{IsHeldOn, all_held, entry_kept}
use Rattle.image_scans.proofs.Front.{AnyWrites}
use Rattle.image_scans.proofs.Lines.{LineMakes, MakesPv, line_makes, makes_nothing, makes_pv, makes_version}
use Rattle.volume_view.proofs.InExtents.{primary_in_extents}
use Rattle.image_scans.proofs.Placed.{IsPlaceOn, extent_beside}
use Rattle.image_scans.proofs.SettledBase.{IsSettledScan, settled_none, settled_some}

-- ---- lists

none_any : (batches : List (List Put)) (pv sector : ℕ) → ((value : List ℕ) → AnyWrites batches pv sector value → ⊥)
    → All (KeepsSector pv sector) batches
none_any [] pv sector none = All-nil (KeepsSector pv sector)
none_any (batch ∷ batches) pv sector none =
    All-cons (KeepsSector pv sector) batch batches (keeps_sector batch pv sector (λ value by. none value (inl by)))
    (none_any batches pv sector (λ value by. none value (inr by)))

pub each_area : (P : Extent → Type 0) (founds : List AreaFound) (n : ℕ) (found : AreaFound)
    → Each P (map (λ (f : AreaFound). f.area) founds) → slice_get founds n ≡ Some found → P found.area
each_area P [] n found all there = absurd cc
each_area P (first ∷ founds) zero found all there = subst (λ (f : AreaFound). P f.area) (same_Some first found there) all.0
each_area P (first ∷ founds) (suc n) found all there = each_area P founds n found all.1 there

each_image : {X : Type 0} (P : ℕ → Type 0) (f : X → ℕ) (xs : List X) (k : ℕ) (x : X) → Each P (map f xs) → slice_get xs k ≡ Some x
    → P (slice_index (map f xs) k)
each_image P f [] k x all there = absurd cc
each_image P f (y ∷ xs) zero x all there = all.0
each_image P f (y ∷ xs) (suc k) x all there = each_image P f xs k x all.1 there

all_flat : {X Y : Type 0} (P : Y → Type 0) (f : X → List Y) → ((x : X) → All P (f x)) → (xs : List X) → All P (flat_map f xs)
all_flat P f each [] = All-nil P
all_flat P f each (x ∷ xs) = All-append P (f x) (flat_map f xs) (each x) (all_flat P f each xs)

-- all of one list with all of another
all_swap : {X Y : Type 0} (R : X → Y → Type 0) (xs : List X) (ys : List Y) → All (λ (y : Y). All (λ (x : X). R x y) xs) ys
    → All (λ (x : X). All (R x) ys) xs
all_swap R xs ys all k d within j e within' = all j e within' k d within

-- ---- the disks of the group that was found

module _ (found : Found) (shape : HasShape found) where
  pub found_listed : (group : Group) → found.group ≡ Some group → found.disk_of ≡ disks_of group found.disks
  found_listed group is = subst (λ (o : Option Group). IfSome o (λ g. found.disk_of ≡ disks_of g found.disks)) is shape.disk_of

  pub found_placed : (group : Group) → found.group ≡ Some group → first_misplaced group (shapes found.disks) ≡ None
  found_placed group is = subst (λ (o : Option Group). IfSome o (λ g. first_misplaced g (shapes found.disks) ≡ None)) is shape.placed

  pub found_there : IsWhole found → (group : Group) → found.group ≡ Some group → missing_of (shapes found.disks) group.pvs ≡ []
  found_there whole group is =
      sym (subst (λ (o : Option Group). IfSome o (λ g. found.missing ≡ missing_of (shapes found.disks) g.pvs)) is shape.missing)
      ∙ whole.there

module _ (base : Image) (sizes : List ℕ) (found : Found) (names : List (List ℕ)) (backup : Option Backup) (line : Line) (now : ℕ)
    (given : List Part) (p : CanCarryOut base sizes found names backup line now given) (group : Group) (is_group : found.group ≡ Some group)
  where
    abbrev state : GroupState
    state = state_in found names backup

    abbrev change : Change
    change = change_of state line now given

    abbrev batches_with : Option Group → List (List Put)
    batches_with g =
        batch_if (new_area_puts g change.labels) ++ batch_if (map label_put change.labels)
        ++ commit_batches g now (areas_of change state.areas)

    -- ---- the group that was found

    accepted : IsAccepted group
    accepted = by (settled base sizes found names backup line now given p)
      where
        by : IsSettledScan p.scan.readings found → IsAccepted group
        by (settled_none nothing none given) = absurd (let e : ◌≡◌ {A = Option Group} None (Some group) = sym none ∙ is_group in cc)
        by (settled_some held parts some copy given all) = subst IsAccepted (same_Some held.group group (sym some ∙ is_group)) copy.accepted

    listed : found.disk_of ≡ disks_of group found.disks
    listed = found_listed found p.shape group is_group

    placed : first_misplaced group (shapes found.disks) ≡ None
    placed = found_placed found p.shape group is_group

    none_away : missing_of (shapes found.disks) group.pvs ≡ []
    none_away = found_there found p.shape p.whole group is_group

    module _ (at : At) (extents : IsInExtents group at) where
      abbrev number : ℕ
      number = slice_index (disks_of group found.disks) at.pv

      on : IsPlaceOn found.disks number at.sector
      on = extent_beside group found.disks placed none_away at extents

      -- ---- a line that commits a group

      module _ (c : Commits found state change) where
        no_label : (value : List ℕ) → IsWrittenBy (map label_put change.labels) number at.sector value → ⊥
        no_label value by =
            let some : NewLabel =
            record {
              disk = 0;
              sector = 0;
              header = record {
                id = [];
                device_bytes = 0;
                data_areas = [];
                areas = [];
                version = 0;
                flags = 0;
              };
            } in
            let w = label_where change.labels some number at.sector value by in
            let low : (get_or change.labels w.0 some).sector < 4 =
            ((can base sizes found names backup line now given p).labels w.0 some w.1).sector_below in
            let behind : 8 ≤ at.sector = on.beside.behind in
            omega (arith, low, w.3, behind)

        no_area_write : (value : List ℕ) → IsAreaWrite (printed (tree_of c.group now)) (areas_of change state.areas) number at.sector value
            → ⊥
        no_area_write value w =
            let own : List (Area × Option Locn) = areas_of change state.areas in
            let b : Area × Option Locn = get_or own w.number no_area in
            let st = is_state base sizes found names backup line now given p in
            let held : IsHeldOn found.disks b =
            All-filter (is_on (set_of change.disk_of)) (IsHeldOn found.disks) state.areas
            (subst (All (IsHeldOn found.disks)) (sym st.areas) (all_held found.disks st.disks)) w.number no_area w.among
            in
            let same : held.disk ≡ on.disk = same_Some held.disk on.disk (sym held.there ∙ ap (slice_get found.disks) w.disk ∙ on.there) in
            let read = header_read on.disk.contents on.header on.is in
            let stands =
            subst (λ (x : Option PvFound). ContentsCanStand number on.disk.sectors x) read.2
            (st.disks number on.disk on.there).contents in
            let there : slice_get read.1 held.number ≡ Some held.found =
            ap (λ (l : List AreaFound). slice_get l held.number)
            (ap areas_on (sym read.2) ∙ ap (λ (d : Disk). areas_on d.contents) (sym same)) ∙ held.at in
            let beside =
            each_area (λ (area : Extent). (at.sector < area.offset / 512) ⊎ (area.offset / 512 + area.size / 512 ≤ at.sector)) read.1
            held.number held.found
            (subst (Each (λ (area : Extent). (at.sector < area.offset / 512) ⊎ (area.offset / 512 + area.size / 512 ≤ at.sector)))
            (sym stands.2) on.beside.beside) there in
            let area : b.0 ≡ area_on b.0.pv held.found.area = entry_kept (area_on b.0.pv held.found.area) held.found.entry b held.is in
            let starts : b.0.start ≡ held.found.area.offset = ap (λ (a : Area). a.start) area in
            let sized : b.0.size ≡ held.found.area.size = ap (λ (a : Area). a.size) area in
            ⊎_elim
            (λ (before : at.sector < held.found.area.offset / 512). omega (arith, before, w.from, starts))
            (λ (behind : held.found.area.offset / 512 + held.found.area.size / 512 ≤ at.sector). omega (arith, behind, w.to, starts, sized))
            beside

        commit_outside : All (KeepsSector number at.sector) (batches_with (Some c.group))
        commit_outside =
            none_any (batches_with (Some c.group)) number at.sector
            (λ value by.
            ⊎_elim (no_label value) (no_area_write value)
            (writes state (is_state base sizes found names backup line now given p) change c.group c.makes (printed (tree_of c.group now))
            ((can base sizes found names backup line now given p).commit c.group c.makes.made)
            (can base sizes found names backup line now given p).labels (lies base sizes found names backup line now given p).differ base
            number at.sector value by))

      -- ---- one that commits none

      none_outside : (none : change.group ≡ None) → All (λ (label : NewLabel). label.disk ≢ number) change.labels
          → All (KeepsSector number at.sector) (batches_with None)
      none_outside none apart =
          All-append (KeepsSector number at.sector) (batch_if (flat_map area_puts change.labels) ++ batch_if (map label_put change.labels))
          []
          (All-append (KeepsSector number at.sector) (batch_if (flat_map area_puts change.labels)) (batch_if (map label_put change.labels))
          (all_if (KeepsSector number at.sector) (flat_map area_puts change.labels)
          (new_near change.labels
          (new_labels_are state line now given (is_state base sizes found names backup line now given p) p.planned p.passes none)
          number at.sector (inl apart)))
          (all_if (KeepsSector number at.sector) (map label_put change.labels) (labels_keep_other change.labels number at.sector apart)))
          (All-nil (KeepsSector number at.sector))

      -- a disk that the group doesn't list has none of its extents
      other_disk : (m : MakesPv state change) → m.number ≢ number
      other_disk m same =
          let off : set.contains (set_of found.disk_of) m.number ≡ false =
          sym (ap (λ (o : Option Group). option_map_or (λ (g : Group). set.contains (set_of found.disk_of) m.number) o false) is_group)
          ∙ m.unlisted
          in
          let each : Each (λ n. n ≢ m.number) (disks_of group found.disks) =
          subst (Each (λ n. n ≢ m.number)) listed (absent set.empty found.disk_of m.number off).1 in
          each_image (λ n. n ≢ m.number) (λ (pv : List ℕ × Pv). disk_with found.disks pv.1.id) group.pvs at.pv extents.pv each extents.is_pv
          (sym same)

      by_line : LineMakes found state change → All (KeepsSector number at.sector) (batches_of state line now given)
      by_line (makes_version c) =
          subst (λ (g : Option Group). All (KeepsSector number at.sector) (batches_with g)) (sym c.makes.made) (commit_outside c)
      by_line (makes_pv m) =
          subst (λ (g : Option Group). All (KeepsSector number at.sector) (batches_with g)) (sym m.none)
          (none_outside m.none
          (subst (All (λ (label : NewLabel). label.disk ≢ number)) (sym m.labels_is)
          (All-cons (λ (label : NewLabel). label.disk ≢ number) (new_label m.id m.copies m.number m.disk) [] (other_disk m)
          (All-nil (λ (label : NewLabel). label.disk ≢ number)))))
      by_line (makes_nothing none labels) =
          subst (λ (g : Option Group). All (KeepsSector number at.sector) (batches_with g)) (sym none)
          (none_outside none (subst (All (λ (label : NewLabel). label.disk ≢ number)) (sym labels)
          (All-nil (λ (label : NewLabel). label.disk ≢ number))))

      pub extent_outside : All (KeepsSector (slice_index found.disk_of at.pv) at.sector) (batches_of state line now given)
      extent_outside =
          subst (λ (l : List ℕ). All (KeepsSector (slice_index l at.pv) at.sector) (batches_of state line now given)) (sym listed)
          (by_line (line_makes base sizes found names backup line now given p))

    -- ---- all places

    pub place_outside : (lv sector : ℕ) (at : At) → primary group lv sector ≡ Some at
        → All (KeepsSector (slice_index found.disk_of at.pv) at.sector) (batches_of state line now given)
    place_outside lv sector at is = extent_outside at (primary_in_extents group accepted lv sector at is)

    pub places_outside : All (λ (batch : List Put). All (IsOutside batch) (visible_places group found.disk_of))
        (batches_of state line now given)
    places_outside =
        all_swap (λ (batch : List Put) (place : ℕ × ℕ). IsOutside batch place) (batches_of state line now given)
        (visible_places group found.disk_of)
        (all_flat (λ (place : ℕ × ℕ). All (KeepsSector place.0 place.1) (batches_of state line now given)) (places_in group found.disk_of)
        of_volume (enumerate_from 0 group.lvs))
      where
        of_sector : (lv sector : ℕ) (place : ℕ × ℕ) (o : Option At) → primary group lv sector ≡ o
            → option_map (λ (at : At). (slice_index found.disk_of at.pv, at.sector)) o ≡ Some place
            → All (KeepsSector place.0 place.1) (batches_of state line now given)
        of_sector lv sector place None is has = absurd cc
        of_sector lv sector place (Some at) is has =
            subst (λ (x : ℕ × ℕ). All (KeepsSector x.0 x.1) (batches_of state line now given))
            (same_Some (slice_index found.disk_of at.pv, at.sector) place has) (place_outside lv sector at is)

        of_visible : (lv : ℕ × (List ℕ × Lv)) (b : Bool)
            → All (λ (place : ℕ × ℕ). All (KeepsSector place.0 place.1) (batches_of state line now given))
            (cond b (filter_map (place_of group found.disk_of lv.0) (range_with_len 0 (extents_of lv.1.1 * group.extent_size))) [])
        of_visible lv false = All-nil (λ (place : ℕ × ℕ). All (KeepsSector place.0 place.1) (batches_of state line now given))
        of_visible lv true =
            all_kept (λ (place : ℕ × ℕ). All (KeepsSector place.0 place.1) (batches_of state line now given)) (λ sector. Unit {0})
            (place_of group found.disk_of lv.0)
            (λ sector place any has. of_sector lv.0 sector place (primary group lv.0 sector) refl has)
            (range_with_len 0 (extents_of lv.1.1 * group.extent_size)) (λ k d within. tt)

        of_volume : (lv : ℕ × (List ℕ × Lv)) → All (λ (place : ℕ × ℕ). All (KeepsSector place.0 place.1) (batches_of state line now given))
            (places_in group found.disk_of lv)
        of_volume lv = of_visible lv lv.1.1.status.visible

    -- ---- an image on the way

    module _ (image : Image) (h : HasFirstBatches (batches_of state line now given) base image) where
      pub place_kept : (lv sector : ℕ) (at : At) → primary group lv sector ≡ Some at
          → at_place image found.disk_of at ≡ at_place base found.disk_of at
      place_kept lv sector at is =
          front_kept (batches_of state line now given) base image (slice_index found.disk_of at.pv) at.sector
          (place_outside lv sector at is)
          h

      pub view_kept : view image group found.disk_of ≡ view base group found.disk_of
      view_kept =
          view_reads_primaries image base group found.disk_of (λ lv sector volume at there visible less is. place_kept lv sector at is)
