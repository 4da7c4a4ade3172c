-- An image on the way of a repair: each disk reads again, but for areas that give the text that was found, or nothing.
use Rattle.std.proofs.Common.{◌≡◌, ◌≤◌, ◌<◌, ◌⊎◌, ℕ, zero, suc, ◌+◌, ◌*◌, ◌/◌, ◌==◌, ◌&&◌, ◌||◌, not, Bool, true, false, List, [], ◌∷◌}
use Rattle.std.proofs.Common.{◌++◌, length, get_or, map, Option, Some, None, inl, inr, ⊎_elim, refl, sym, ap, subst, ◌∙◌, arith}
use Rattle.std.specs.Prelude.{All, slice_get}
use Rattle.std.specs.FinSet as set
use Rattle.std.specs.List.{list_any}
use Rattle.std.specs.Option.{option_and_then}
use Rattle.std.proofs.lemmas.Bool.{and_from, and_parts, cases_Bool, cases_lt, eq-eqb, eqb-true, or_cases, or_left, true≢false}
use Rattle.std.proofs.lemmas.List.{map-append}
use Rattle.std.proofs.lemmas.List.Elements.{All-append, All-filter, filter_passes, recursion_from_All}
use Rattle.std.proofs.lemmas.Option.{same_Some}
use Rattle.disk_model.specs.Steps.{Image}
use Rattle.pv_label.specs.Label.{IsFirstLabel, IsLabelRefusal}
use Rattle.pv_header.specs.PvHeader.{IsPvHeader}
use Rattle.pv_header.specs.declared.header.PvHeader.{PvHeader}
use Rattle.pv_header.specs.PvRefusal.{Refuses}
use Rattle.mda_header.specs.declared.header.Locn.{Locn}
use Rattle.mda_ring.specs.declared.area.Area.{Area}
use Rattle.mda_ring.specs.Areas.{CanTake}
use Rattle.mda_ring.specs.Ring.{need, room}
use Rattle.meta_model.specs.declared.group.Group.{Group}
use Rattle.scan_rules.specs.Decision.{Area as AreaOf, AreaReading, Copy, Found as PvOf, HoldsNone, Reading, Refused, gives, lists}
use Rattle.disk_batch.specs.InTurn.{HasFirstBatches, Put, with_batches}
use Rattle.disk_batch.specs.Writes.{IsWrittenBy}
use Rattle.disk_batch.proofs.WrittenBy.{written_left, written_right}
use Rattle.disk_contents.specs.declared.contents.AreaFound.{AreaFound}
use Rattle.disk_contents.specs.declared.contents.PvFound.{PvFound}
use Rattle.disk_contents.specs.declared.contents.PvFound.TheVariants.{NoLabel, NoHeader, Whole}
use Rattle.disk_contents.specs.Contents.{IsFound}
use Rattle.disk_contents.specs.Standing.{area_on}
use Rattle.vg_found.specs.declared.disk.Disk.{Disk}
use Rattle.vg_found.specs.declared.found.Found.{Found}
use Rattle.vg_found.specs.Disks.{areas_on, held_area, held_areas, header_on}
use Rattle.vg_found.specs.Shape.{ContentsCanStand, IsDisk}
use Rattle.vg_scan.specs.Readings.{IsContents, IsDiskReading, IsPvReading}
use Rattle.vg_scan.specs.Texts.{IsCopyOf}
use Rattle.vg_commit.proofs.Disks.{no_area}
use Rattle.vg_commit.specs.SectorReading.{IsSized, ShowsBy, old_reading}
use Rattle.group_plan.specs.Added.{pv_in}
use Rattle.group_plan.specs.Judging.{lies_on}
use Rattle.group_plan.specs.declared.state.NewLabel.{NewLabel}
use Rattle.change_batches.specs.Batches.{batch_if, clear_batches, clear_put, label_bytes, label_put}
use Rattle.change_batches.specs.Laws.{IsKeptOrNew, ShowsEntries, text_in}
use Rattle.change_batches.proofs.BaseShows.{base_shows, base_sized, shows_alike}
use Rattle.change_batches.proofs.FarAreas.{IsFar}
use Rattle.change_batches.proofs.LabelPuts.{label_where, no_label}
use Rattle.vg_repair.specs.Batches.{new_labels, old_labels, repair_batches, stale_batches, stray_areas, stray_labels}
use Rattle.vg_repair.specs.Laws.{IsKept}
use Rattle.vg_repair.specs.Stale.{stale_areas, text_of}
use Rattle.vg_repair.proofs.HeldAreas.{each_far, stale_all, stale_held}
use Rattle.vg_repair.proofs.RepairedShape.{rooms}
use Rattle.vg_repair.proofs.NewLabels.{labels_can, labels_last}
use Rattle.image_scans.proofs.AreaAgain.{HasHeader, IsCleared, IsKnown, IsOnTheWay, MayBeRefused, kept_or_made}
use Rattle.image_scans.proofs.BaseEntries.{entries_shown}
use Rattle.image_scans.proofs.CommitWrites.{IsAreaWrite, commit_writes}
use Rattle.image_scans.proofs.DiskAgain.{DiskAgain, LabelStands, PvMayBeRefused, disk_again, pv_same}
use Rattle.image_scans.proofs.FoundAreas.{IsHeldOn, IsPlaced, all_held, entry_kept, of_held}
use Rattle.image_scans.proofs.Front.{AnyWrites, any_append, any_if, front_or}
use Rattle.image_scans.proofs.AreaReadings.{AreasGive, GivenHas}
use Rattle.image_scans.proofs.Labels.{four_same}
use Rattle.image_scans.proofs.LabelsAgain.{IsLabelOn, label_stands, none_written}
use Rattle.image_scans.proofs.MetAreas.{all_placed, area_met, header_met}
use Rattle.image_scans.proofs.ClearWrites.{IsClearWrite, clear_write}
use Rattle.image_scans.proofs.MarkedLabels.{labels_on as labels_stand_on}
use Rattle.repair_scans.specs.Laws.{CanRepair}
use Rattle.repair_scans.proofs.StraysApart.{strays_apart}

-- ---- an area among others

abbrev is_place : Area × Option Locn → Area × Option Locn → Bool
is_place a b = (a.0.pv == b.0.pv) && (a.0.start == b.0.start)

-- one of the list has its place, or none does
record HasPlaceIn (areas : List (Area × Option Locn)) (a : Area × Option Locn) : Type 0 where
  number : ℕ
  among : number < length areas
  same_pv : (get_or areas number no_area).0.pv ≡ a.0.pv
  same_start : (get_or areas number no_area).0.start ≡ a.0.start

find_place : (areas : List (Area × Option Locn)) (a : Area × Option Locn) → list_any (is_place a) areas ≡ true → HasPlaceIn areas a
find_place [] a any = absurd (true≢false (sym any))
find_place (b ∷ areas) a any = step (λ later. find_place areas a later) (or_cases (is_place a b) (list_any (is_place a) areas) any)
  where
    step : (list_any (is_place a) areas ≡ true → HasPlaceIn areas a) → (is_place a b ≡ true) ⊎ (list_any (is_place a) areas ≡ true)
        → HasPlaceIn (b ∷ areas) a
    step rest (inl here) =
        let parts = and_parts (a.0.pv == b.0.pv) (a.0.start == b.0.start) here in
        record {
          number = 0;
          among = omega arith;
          same_pv = sym (eqb-true a.0.pv b.0.pv parts.0);
          same_start = sym (eqb-true a.0.start b.0.start parts.1);
        }
    step rest (inr later) =
        let r : HasPlaceIn areas a = rest later in record {
          number = suc r.number;
          among = omega (arith, r.among);
          same_pv = r.same_pv;
          same_start = r.same_start;
        }

no_place : (areas : List (Area × Option Locn)) (a : Area × Option Locn) → list_any (is_place a) areas ≡ false → (k : ℕ) → k < length areas
    → (get_or areas k no_area).0.pv ≡ a.0.pv → (get_or areas k no_area).0.start ≡ a.0.start → ⊥
no_place [] a none k within pv start = omega (arith, within)
no_place (b ∷ areas) a none zero within pv start =
    true≢false (sym (or_left (is_place a b) (list_any (is_place a) areas)
    (and_from (a.0.pv == b.0.pv) (a.0.start == b.0.start) (eq-eqb a.0.pv b.0.pv (sym pv)) (eq-eqb a.0.start b.0.start (sym start))))
    ∙ none)
no_place (b ∷ areas) a none (suc k) within pv start =
    no_place areas a (later (is_place a b) (list_any (is_place a) areas) none) k (omega (arith, within)) pv start
  where
    later : (x y : Bool) → (x || y) ≡ false → y ≡ false
    later true y is = absurd (true≢false is)
    later false y is = is

-- ---- the repair

-- an area may give nothing later, but one of a listed disk that gives the text
abbrev pub may_be_lost : Group → List ℕ → List ℕ → AreaReading → Bool
may_be_lost group text id r = not (gives text r && lists group id)

fine : (group : Group) (text id : List ℕ) (r : AreaReading) → MayBeRefused (may_be_lost group text id) r
fine group text id HoldsNone = inr tt
fine group text id (Copy other others passed) = inr tt
fine group text id (Refused why) = inl refl

fine_areas : (group : Group) (text id : List ℕ) (areas : List AreaOf) → AreasGive (MayBeRefused (may_be_lost group text id)) areas
fine_areas group text id [] = tt
fine_areas group text id (area ∷ areas) = (one area.reading, fine_areas group text id areas)
  where
    one : (o : Option AreaReading) → GivenHas (MayBeRefused (may_be_lost group text id)) o
    one None = tt
    one (Some r) = fine group text id r

fine_pv : (group : Group) (text : List ℕ) (o : Option PvOf) → PvMayBeRefused (may_be_lost group text) o
fine_pv group text None = tt
fine_pv group text (Some own) = fine_areas group text own.id own.areas

-- all of a disk that isn't listed
all_lost : (group : Group) (text id : List ℕ) → lists group id ≡ false → (r : AreaReading) → may_be_lost group text id r ≡ true
all_lost group text id none r = ap (λ (b : Bool). not (gives text r && b)) none ∙ ap not (and_none (gives text r))
  where
    and_none : (b : Bool) → (b && false) ≡ false
    and_none true = refl
    and_none false = refl

module _ (base : Image) (sizes : List ℕ) (found : Found) (p : CanRepair base sizes found) where
  abbrev text : List ℕ
  text = text_of found

  abbrev stale : List (Area × Option Locn)
  stale = stale_areas found

  abbrev labels : List NewLabel
  labels = new_labels found

  abbrev cleared : List (Area × Option Locn)
  cleared = stray_areas found

  abbrev olds : List (List Put)
  olds = batch_if (map label_put (old_labels found))

  pub shown : ShowsEntries found.areas base
  shown =
      subst (λ (l : List (Area × Option Locn)). ShowsEntries l base) (sym p.scan.areas)
      (entries_shown base found.unread 0 found.disks p.scan.readings p.scan.are.each)

  -- each disk is one
  pub are_disks : (pv : ℕ) (disk : Disk) → slice_get found.disks pv ≡ Some disk → IsDisk pv disk
  are_disks pv disk there = (p.shape.disks pv disk there).0

  held : All (IsHeldOn found.disks) found.areas
  held = subst (All (IsHeldOn found.disks)) (sym p.shape.areas) (all_held found.disks are_disks)

  -- the areas are those of the disks
  pub stale_on_disks : All (IsHeldOn found.disks) stale
  stale_on_disks = stale_all found p.shape (IsHeldOn found.disks) held

  pub cleared_on_disks : All (IsHeldOn found.disks) cleared
  cleared_on_disks = All-filter (lies_on found.strays) (IsHeldOn found.disks) found.areas held

  -- they begin behind the sectors of labels
  pub stale_far : All IsFar stale
  stale_far = stale_all found p.shape IsFar (each_far found p.shape)

  cleared_far : All IsFar cleared
  cleared_far = All-filter (lies_on found.strays) IsFar found.areas (each_far found p.shape)

  -- the text has room in each stale area
  pub stale_rooms : All (λ (a : Area × Option Locn). need (length text + 1) ≤ room a.0.size a.1) stale
  stale_rooms = rooms text stale p.fits

  labels_on : All (IsLabelOn found.disks) labels
  labels_on =
      All-append (IsLabelOn found.disks) (old_labels found) (stray_labels found) (labels_stand_on true found.old found.disks)
      (labels_stand_on false found.strays found.disks)

  -- ---- what is written

  texts_write : (areas : List (Area × Option Locn)) → All CanTake areas
      → All (λ (a : Area × Option Locn). need (length text + 1) ≤ room a.0.size a.1) areas → (pv sector : ℕ) (value : List ℕ)
      → AnyWrites (stale_batches text areas) pv sector value
      → IsAreaWrite text areas pv sector value
  texts_write [] take fits pv sector value by = absurd by
  texts_write (a ∷ areas) take fits pv sector value by = commit_writes text (a ∷ areas) take fits pv sector value by

  -- what any of the batches writes
  pub writes : (pv sector : ℕ) (value : List ℕ) → AnyWrites (repair_batches found) pv sector value
      → IsAreaWrite text stale pv sector value ⊎ (IsWrittenBy (map label_put labels) pv sector value ⊎ IsClearWrite cleared pv sector value)
  writes pv sector value by =
      ⊎_elim
      (λ front.
      ⊎_elim
      (λ texts. inl (texts_write stale (stale_held found p.shape).take stale_rooms pv sector value texts))
      (λ label. inr (inl (subst (λ (l : List Put). IsWrittenBy l pv sector value)
      (sym (map-append label_put (old_labels found) (stray_labels found)))
      (written_left (map label_put (old_labels found)) (map label_put (stray_labels found)) pv sector value
      (any_if (map label_put (old_labels found)) pv sector value label)))))
      (any_append (stale_batches text stale) olds pv sector value front))
      (λ clears.
      ⊎_elim
      (λ label. inr (inl (subst (λ (l : List Put). IsWrittenBy l pv sector value)
      (sym (map-append label_put (old_labels found) (stray_labels found)))
      (written_right (map label_put (old_labels found)) (map label_put (stray_labels found)) pv sector value
      (any_if (map label_put (stray_labels found)) pv sector value label)))))
      (λ last. inr (inr (clear_write cleared pv sector value (any_if (map clear_put cleared) pv sector value last))))
      (any_append (batch_if (map label_put (stray_labels found))) (batch_if (map clear_put cleared)) pv sector value clears))
      (any_append (stale_batches text stale ++ olds) (clear_batches found.strays found.disks found.areas) pv sector value by)

  -- near sectors are those of labels
  text_far : (pv sector : ℕ) (value : List ℕ) → IsAreaWrite text stale pv sector value → 4 ≤ sector
  text_far pv sector value w =
      let begins : 2048 ≤ (get_or stale w.number no_area).0.start = stale_far w.number no_area w.among in omega (arith, begins, w.from)

  clear_far : (pv sector : ℕ) (value : List ℕ) → IsClearWrite cleared pv sector value → 4 ≤ sector
  clear_far pv sector value w =
      let begins : 2048 ≤ (get_or cleared w.number no_area).0.start = cleared_far w.number no_area w.among in omega (arith, begins, w.at)

  -- a label stays until all is written
  label_stays : (k : ℕ) (d : NewLabel) → k < length labels
      → with_batches (repair_batches found) base (get_or labels k d).disk (get_or labels k d).sector ≡ label_bytes (get_or labels k d)
  label_stays = labels_last found p.shape (strays_apart base sizes found p.scan) base

  -- ---- an image on the way

  module _ (group : Group) (unlisted : (pv : ℕ) (disk : Disk) (header : PvHeader) → slice_get found.disks pv ≡ Some disk
      → header_on disk.contents ≡ Some header → set.contains found.strays pv ≡ true → lists group header.id ≡ false) (image : Image)
      (h : HasFirstBatches (repair_batches found) base image) where
    abbrev lost : List ℕ → AreaReading → Bool
    lost = may_be_lost group text

    kept : IsKept found base image
    kept = p.keeps.kept base image shown h

    -- a sector below the fourth is as in the base, or has the label of its disk
    pub near : (pv sector : ℕ) → sector < 4 → (image pv sector ≡ base pv sector)
        ⊎ IsWrittenBy (map label_put labels) pv sector (image pv sector)
    near pv sector low =
        ⊎_elim
        (λ same. inl same)
        (λ by.
        ⊎_elim
        (λ texts. absurd (omega (arith, low, text_far pv sector (image pv sector) texts)))
        (λ other. ⊎_elim (λ label. inr label) (λ clear. absurd (omega (arith, low, clear_far pv sector (image pv sector) clear))) other)
        (writes pv sector (image pv sector) by))
        (front_or (repair_batches found) base image pv sector h)

    module _ (pv : ℕ) (disk : Disk) (there : slice_get found.disks pv ≡ Some disk) where
      -- a label on this disk is where the label was found
      unlabelled : (option_and_then pv_in disk.contents ≡ None) → (sector : ℕ) → sector < 4 → image pv sector ≡ base pv sector
      unlabelled none sector low =
          ⊎_elim (λ same. same)
          (λ by. absurd (none_written found.disks labels labels_on pv disk there none sector (image pv sector) by)) (near pv sector low)

      module _ (label : ℕ) (header : PvHeader) (areas : List AreaFound) (is : disk.contents ≡ Some (Whole label header areas))
          (low : label < 4) where
        -- the label reads again, with the same id and areas
        pub own_stands : LabelStands (base pv) (image pv) label header
        own_stands =
            label_stands found.disks labels labels_on pv disk there (labels_can found p.shape)
            (λ k d within. subst (λ (s : List ℕ). IsPvHeader s (get_or labels k d).header []) (label_stays k d within)
            ((p.keeps.right base shown).labels k d within).header) base image (near pv) label header areas is low

        -- ---- an area that was found

        module _ (k : ℕ) (d : AreaFound) (within : k < length areas) where
          abbrev area : AreaFound
          area = get_or areas k d

          placed : IsPlaced areas area
          placed = all_placed found.disks are_disks pv disk there label header areas is k d within

          is_cleared : IsClearWrite cleared pv (area.area.offset / 512) (image pv (area.area.offset / 512))
              → IsCleared pv image (lost header.id) area
          is_cleared clear =
              let sector : ℕ = area.area.offset / 512 in
              let b : Area × Option Locn = get_or cleared clear.number no_area in
              let take : CanTake b = All-filter (lies_on found.strays) CanTake found.areas p.shape.take clear.number no_area clear.among in
              let met : held_area pv area ≡ Some b =
              area_met found.disks are_disks pv disk there label header areas is k d within b
              (cleared_on_disks clear.number no_area clear.among) clear.disk sector (omega (arith, clear.at))
              (omega (arith, clear.at, take.0.has_ring)) (omega arith) (omega (arith, placed.some)) in
              let stray : set.contains found.strays pv ≡ true =
              ap (set.contains found.strays) (sym clear.disk)
              ∙ filter_passes (lies_on found.strays) found.areas clear.number no_area clear.among in
              (b, met, take, clear.is, all_lost group text header.id (unlisted pv disk header there (ap header_on is) stray))

          -- its header was cleared, or has another value on the way
          header_value : IsCleared pv image (lost header.id) area ⊎ HasHeader text pv base image area
          header_value =
              let sector : ℕ = area.area.offset / 512 in
              ⊎_elim
              (λ same. inr (inl same))
              (λ by.
              ⊎_elim
              (λ texts. inr (inr (header_met found.disks are_disks text stale stale_on_disks stale_rooms pv disk there label header areas is
              k d within (image pv sector) texts)))
              (λ other.
              ⊎_elim
              (λ at.
              let w = label_where labels no_label pv sector (image pv sector) at in
              let low' : (get_or labels w.0 no_label).sector < 4 = (labels_can found p.shape w.0 no_label w.1).sector_below in
              absurd (omega (arith, low', w.3, placed.far)))
              (λ clear. inl (is_cleared clear))
              other)
              (writes pv sector (image pv sector) by))
              (front_or (repair_batches found) base image pv sector h)

          -- where none of the stale areas has its place, its ring is as in the base
          ring_kept : (b : Area × Option Locn) → held_area pv area ≡ Some b → list_any (is_place b) stale ≡ false → (sector : ℕ)
              → b.0.start / 512 + 1 ≤ sector → sector < b.0.start / 512 + b.0.size / 512 → image pv sector ≡ base pv sector
          ring_kept b is_held none sector from to =
              let own : b.0 ≡ area_on pv area.area = entry_kept (area_on pv area.area) area.entry b is_held in
              let starts : b.0.start ≡ area.area.offset = ap (λ (a : Area). a.start) own in
              let sized : b.0.size ≡ area.area.size = ap (λ (a : Area). a.size) own in
              let here : b.0.pv ≡ pv = ap (λ (a : Area). a.pv) own in
              ⊎_elim
              (λ same. same)
              (λ by.
              ⊎_elim
              (λ texts.
              let s : Area × Option Locn = get_or stale texts.number no_area in
              let met : held_area pv area ≡ Some s =
              area_met found.disks are_disks pv disk there label header areas is k d within s
              (stale_on_disks texts.number no_area texts.among) texts.disk sector texts.from texts.to (omega (arith, from, starts))
              (omega (arith, to, starts, sized)) in
              let same : b ≡ s = same_Some b s (sym is_held ∙ met) in
              absurd (no_place stale b none texts.number texts.among (ap (λ (a : Area × Option Locn). a.0.pv) (sym same))
              (ap (λ (a : Area × Option Locn). a.0.start) (sym same))))
              (λ other.
              ⊎_elim
              (λ at.
              let w = label_where labels no_label pv sector (image pv sector) at in
              let low' : (get_or labels w.0 no_label).sector < 4 = (labels_can found p.shape w.0 no_label w.1).sector_below in
              absurd (omega (arith, low', w.3, placed.far, from, starts)))
              (λ clear.
              let c : Area × Option Locn = get_or cleared clear.number no_area in
              let take : CanTake c = All-filter (lies_on found.strays) CanTake found.areas p.shape.take clear.number no_area clear.among in
              let met : held_area pv area ≡ Some c =
              area_met found.disks are_disks pv disk there label header areas is k d within c
              (cleared_on_disks clear.number no_area clear.among) clear.disk sector (omega (arith, clear.at))
              (omega (arith, clear.at, take.0.has_ring)) (omega (arith, from, starts)) (omega (arith, to, starts, sized)) in
              let same : b ≡ c = same_Some b c (sym is_held ∙ met) in
              absurd (omega (arith, from, clear.at, ap (λ (a : Area × Option Locn). a.0.start) same)))
              other)
              (writes pv sector (image pv sector) by))
              (front_or (repair_batches found) base image pv sector h)

          -- and its header is as in the base, or was cleared
          header_plain : (b : Area × Option Locn) → held_area pv area ≡ Some b → list_any (is_place b) stale ≡ false
              → IsCleared pv image (lost header.id) area ⊎ (image pv (area.area.offset / 512) ≡ base pv (area.area.offset / 512))
          header_plain b is_held none =
              let sector : ℕ = area.area.offset / 512 in
              ⊎_elim
              (λ same. inr same)
              (λ by.
              ⊎_elim
              (λ texts.
              let s : Area × Option Locn = get_or stale texts.number no_area in
              let met : held_area pv area ≡ Some s =
              area_met found.disks are_disks pv disk there label header areas is k d within s
              (stale_on_disks texts.number no_area texts.among) texts.disk sector texts.from texts.to (omega arith)
              (omega (arith, placed.some)) in
              let same : b ≡ s = same_Some b s (sym is_held ∙ met) in
              absurd (no_place stale b none texts.number texts.among (ap (λ (a : Area × Option Locn). a.0.pv) (sym same))
              (ap (λ (a : Area × Option Locn). a.0.start) (sym same))))
              (λ other.
              ⊎_elim
              (λ at.
              let w = label_where labels no_label pv sector (image pv sector) at in
              let low' : (get_or labels w.0 no_label).sector < 4 = (labels_can found p.shape w.0 no_label w.1).sector_below in
              absurd (omega (arith, low', w.3, placed.far)))
              (λ clear. inl (is_cleared clear))
              other)
              (writes pv sector (image pv sector) by))
              (front_or (repair_batches found) base image pv sector h)

          -- a stale area that has its place is the area
          stale_shows : (b : Area × Option Locn) → held_area pv area ≡ Some b → HasPlaceIn stale b → IsKeptOrNew text base image b
          stale_shows b is_held r =
              let s : Area × Option Locn = get_or stale r.number no_area in
              let own : b.0 ≡ area_on pv area.area = entry_kept (area_on pv area.area) area.entry b is_held in
              let starts : b.0.start ≡ area.area.offset = ap (λ (a : Area). a.start) own in
              let take : CanTake s = (stale_held found p.shape).take r.number no_area r.among in
              let met : held_area pv area ≡ Some s =
              area_met found.disks are_disks pv disk there label header areas is k d within s (stale_on_disks r.number no_area r.among)
              (r.same_pv ∙ ap (λ (a : Area). a.pv) own) (area.area.offset / 512)
              (omega (arith, r.same_start, starts)) (omega (arith, r.same_start, starts, take.0.has_ring)) (omega arith)
              (omega (arith, placed.some)) in
              subst (IsKeptOrNew text base image) (same_Some s b (sym met ∙ is_held)) (kept.stale r.number no_area r.among)

          -- what the base shows of it
          abbrev IsShown : Area × Option Locn → Type 0
          IsShown b = CanTake b × IsSized b.0 b.1 (text_in base b) × ShowsBy (old_reading (text_in base)) base b

          in_base : (b : Area × Option Locn) → held_area pv area ≡ Some b → IsShown b
          in_base b is_held =
              let sized = base_sized found.areas base p.shape.take in
              let shows = base_shows found.areas base shown in
              let all : All IsShown (held_areas 0 found.disks) =
              subst (All IsShown) p.shape.areas (λ j e in_list. (p.shape.take j e in_list, sized j e in_list, shows j e in_list)) in
              let here : All (λ f. (x : Area × Option Locn) → held_area (0 + pv) f ≡ Some x → IsShown x) areas =
              subst (λ (c : Option PvFound). All (λ f. (x : Area × Option Locn) → held_area (0 + pv) f ≡ Some x → IsShown x) (areas_on c))
              is (of_held IsShown 0 found.disks all pv disk there)
              in
              here k d within b (ap (λ (n : ℕ). held_area n area) (omega arith) ∙ is_held)

          plain_shows : (b : Area × Option Locn) → held_area pv area ≡ Some b → list_any (is_place b) stale ≡ false
              → image pv (area.area.offset / 512) ≡ base pv (area.area.offset / 512) → ShowsBy (old_reading (text_in base)) image b
          plain_shows b is_held none same =
              let own : b.0 ≡ area_on pv area.area = entry_kept (area_on pv area.area) area.entry b is_held in
              let starts : b.0.start ≡ area.area.offset = ap (λ (a : Area). a.start) own in
              let here : pv ≡ b.0.pv = sym (ap (λ (a : Area). a.pv) own) in
              let was : IsShown b = in_base b is_held in
              shows_alike (old_reading (text_in base)) b base image was.0.0 was.1
              (λ n inside.
              subst (λ (m : ℕ). image m (b.0.start / 512 + n) ≡ base m (b.0.start / 512 + n)) here
              (⊎_elim
              (λ (first : n < 1). subst (λ (m : ℕ). image pv m ≡ base pv m) (omega (arith, first, starts)) same)
              (λ (ring : 1 ≤ n). ring_kept b is_held none (b.0.start / 512 + n) (omega (arith, ring)) (omega (arith, inside)))
              (cases_lt n 1)))
              was.2

          known_by : (o : Option (Area × Option Locn)) → held_area pv area ≡ o → IsKnown text pv base image true (lost header.id) area
          known_by None is_held =
              ⊎_elim
              (λ clear. inr clear)
              (λ has. inl (
                (λ b some. absurd (let e : ◌≡◌ {A = Option (Area × Option Locn)} None (Some b) = sym is_held ∙ some in cc)),
                has,
              ))
              header_value
          known_by (Some b) is_held =
              ⊎_elim
              (λ any.
              ⊎_elim
              (λ clear. inr clear)
              (λ has. inl ((λ x some. way_of x some (stale_shows x some (find_place stale x (same_any x some any)))), has))
              header_value)
              (λ none.
              ⊎_elim
              (λ clear. inr clear)
              (λ same. inl ((λ x some. way_of x some (inl (plain_shows x some (same_none x some none) same))), inl same))
              (header_plain b is_held none))
              (cases_Bool (list_any (is_place b) stale))
            where
              way_of : (x : Area × Option Locn) → held_area pv area ≡ Some x → IsKeptOrNew text base image x
                  → IsOnTheWay text base image true x
              way_of x some shows = record { shows = kept_or_made text base image true refl x shows; take = (in_base x some).0 }

              same_any : (x : Area × Option Locn) → held_area pv area ≡ Some x → list_any (is_place b) stale ≡ true
                  → list_any (is_place x) stale ≡ true
              same_any x some any =
                  subst (λ (y : Area × Option Locn). list_any (is_place y) stale ≡ true) (same_Some b x (sym is_held ∙ some)) any

              same_none : (x : Area × Option Locn) → held_area pv area ≡ Some x → list_any (is_place b) stale ≡ false
                  → list_any (is_place x) stale ≡ false
              same_none x some none =
                  subst (λ (y : Area × Option Locn). list_any (is_place y) stale ≡ false) (same_Some b x (sym is_held ∙ some)) none

          known : IsKnown text pv base image true (lost header.id) area
          known = known_by (held_area pv area) refl

        with_header : (passed : List (List ℕ)) → IsCopyOf text group passed → (reading : Reading) → IsDiskReading pv (base pv) disk reading
            → DiskAgain pv (image pv) (λ id. true) lost (Copy group text passed) disk reading
        with_header passed copy reading read =
            subst (λ (n : ℕ). DiskAgain pv (image pv) (λ id. true) lost (Copy group text passed) disk
            (record { sectors = n; pv = reading.pv })) (sym read.sectors_is)
            (disk_again text group passed copy (λ id. true) lost pv base image disk.sectors disk.contents reading.pv read.contents
            read.pv_is (fine_pv group text reading.pv) label header areas is own_stands
            (recursion_from_All (IsKnown text pv base image true (lost header.id)) areas (λ k d within. known k d within)))

      -- without a header nothing of the disk's first sectors is written
      bare_contents : (contents : PvFound) → pv_in contents ≡ None → ((sector : ℕ) → sector < 4 → image pv sector ≡ base pv sector)
          → IsFound (base pv) disk.sectors contents → IsFound (image pv) disk.sectors contents
      bare_contents (NoLabel refusal) none same found' =
          subst (λ (l : List (List ℕ)). IsLabelRefusal l refusal) (sym (four_same (base pv) (image pv) same)) found'
      bare_contents (NoHeader label refusal) none same found' = (
        subst (λ (l : List (List ℕ)). IsFirstLabel l label) (sym (four_same (base pv) (image pv) same)) found'.0,
        subst (λ (s : List ℕ). Refuses s (disk.sectors * 512) refusal) (sym (same label found'.0.among)) found'.1,
        found'.2,
      )
      bare_contents (Whole label header areas) none same found' = absurd cc

      -- what was found on a disk without a header stands there still
      pub without_header : (contents : Option PvFound) → disk.contents ≡ contents → option_and_then pv_in contents ≡ None
          → (reading : Reading) → IsContents (base pv) disk.sectors contents → IsContents (image pv) disk.sectors contents
      without_header None is none reading c = tt
      without_header (Some contents) is none reading c = bare_contents contents none (unlabelled (ap (option_and_then pv_in) is ∙ none)) c

      bare_pv : (contents : Option PvFound) → option_and_then pv_in contents ≡ None → (read : Option PvOf)
          → IsPvReading pv (base pv) contents read → IsPvReading pv (image pv) contents read
      bare_pv None none read is = is
      bare_pv (Some (NoLabel refusal)) none read is = is
      bare_pv (Some (NoHeader label refusal)) none read is = is
      bare_pv (Some (Whole label header areas)) none read is = absurd cc

      bare_disk : (passed : List (List ℕ)) → option_and_then pv_in disk.contents ≡ None → (reading : Reading)
          → IsDiskReading pv (base pv) disk reading → DiskAgain pv (image pv) (λ id. true) lost (Copy group text passed) disk reading
      bare_disk passed none reading read = record {
        there = disk;
        read = reading;
        sectors_is = refl;
        unread = λ is. is;
        unread_there = λ is. is;
        is =
            record {
              contents = without_header disk.contents refl none reading read.contents;
              sectors_is = read.sectors_is;
              pv_is = bare_pv disk.contents none reading.pv read.pv_is;
            };
        same_sectors = refl;
        again = pv_same (λ id. true) lost (Copy group text passed) reading.pv;
        ids = λ id. refl;
        areas_is = refl;
      }

      whole_of : (contents : Option PvFound) (pair : ℕ × PvHeader) → option_and_then pv_in contents ≡ Some pair
          → (areas : List AreaFound) × (contents ≡ Some (Whole pair.0 pair.1 areas))
      whole_of None pair is = absurd cc
      whole_of (Some (NoLabel refusal)) pair is = absurd cc
      whole_of (Some (NoHeader label refusal)) pair is = absurd cc
      whole_of (Some (Whole label header areas)) pair is =
          (areas, ap (λ (x : ℕ × PvHeader). Some (Whole x.0 x.1 areas)) (same_Some (label, header) pair is))

      by_pv : (passed : List (List ℕ)) → IsCopyOf text group passed → (reading : Reading) → IsDiskReading pv (base pv) disk reading
          → (o : Option (ℕ × PvHeader)) → option_and_then pv_in disk.contents ≡ o
          → DiskAgain pv (image pv) (λ id. true) lost (Copy group text passed) disk reading
      by_pv passed copy reading read None is = bare_disk passed is reading read
      by_pv passed copy reading read (Some pair) is =
          let w = whole_of disk.contents pair is in
          let stands = subst (λ (c : Option PvFound). ContentsCanStand pv disk.sectors c) w.1 (are_disks pv disk there).contents in
          with_header pair.0 pair.1 w.0 w.1 stands.0 passed copy reading read

      pub each_again : (passed : List (List ℕ)) → IsCopyOf text group passed → (reading : Reading) → IsDiskReading pv (base pv) disk reading
          → DiskAgain pv (image pv) (λ id. true) lost (Copy group text passed) disk reading
      each_again passed copy reading read = by_pv passed copy reading read (option_and_then pv_in disk.contents) refl
