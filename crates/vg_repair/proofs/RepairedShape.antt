-- What is found once a repair is done has the shape of what a scan finds.
use Rattle.std.proofs.Common.{◌≡◌, ◌≤◌, ◌<◌, ◌↔◌, ℕ, ◌+◌, ◌*◌, Bool, true, false, cond, ltb, List, [], ◌∷◌, length, map, Option, Some, None}
use Rattle.std.proofs.Common.{IfSome, refl, sym, ap, subst, ◌∙◌}
use Rattle.std.proofs.Math.Path.{fun_ext}
use Rattle.std.specs.Prelude.{All, find, option_map, slice_get}
use Rattle.std.specs.List.{enumerate_from, range_with_len}
use Rattle.std.specs.Option.{option_and_then, option_map_or}
use Rattle.std.specs.Ordering.{nat_cmp}
use Rattle.std.specs.FinSet as set
use Rattle.std.proofs.lemmas.Bool.{ltb-false, true≢false}
use Rattle.std.proofs.lemmas.List.Elements.{All-cons, All-nil}
use Rattle.std.proofs.lemmas.Option.{same_Some}
use Rattle.pv_header.specs.PvRefusal.{Reads}
use Rattle.pv_header.specs.declared.header.PvHeader.{PvHeader}
use Rattle.mda_header.specs.declared.entry.HeaderEntry.{HeaderEntry}
use Rattle.mda_header.specs.declared.entry.HeaderEntry.TheVariants.{Ignored, Nothing, Text, Refused}
use Rattle.mda_header.specs.declared.header.Locn.{Locn}
use Rattle.mda_ring.specs.Areas.{CanTake}
use Rattle.mda_ring.specs.Ring.{need, room}
use Rattle.mda_ring.specs.declared.area.Area.{Area}
use Rattle.meta_model.specs.declared.group.Group.{Group}
use Rattle.meta_model.specs.declared.pv.Pv.{Pv}
use Rattle.scan_rules.specs.Decision.{Reading, first_duplicate, first_misplaced, ids_from}
use Rattle.scan_rules.specs.Found.{missing_of}
use Rattle.list_laws.proofs.Members.{In, flat_has, kept_has}
use Rattle.disk_contents.specs.Standing.{IsUsable, LiesInside, area_on}
use Rattle.disk_contents.specs.declared.contents.AreaFound.{AreaFound}
use Rattle.disk_contents.specs.declared.contents.PvFound.{PvFound}
use Rattle.disk_contents.specs.declared.contents.PvFound.TheVariants.{NoLabel, NoHeader, Whole}
use Rattle.vg_found.specs.Disks.{areas_on, disk_shape, disk_with, disks_of, has_header_id, held_area, held_areas, held_by, shapes}
use Rattle.vg_found.specs.Shape.{ContentsCanStand, HasShape, IsDisk, IsUnread}
use Rattle.vg_found.specs.Whole.{IsNotWhole, IsWhole, first_of}
use Rattle.vg_found.specs.declared.whole.NotWhole.{NotWhole}
use Rattle.vg_found.specs.declared.whole.NotWhole.TheVariants.{ReadFailed, Partial}
use Rattle.vg_found.specs.declared.disk.Disk.{Disk}
use Rattle.vg_found.specs.declared.found.Found.{Found}
use Rattle.vg_found.proofs.ShapedAreas.{areas_shaped}
use Rattle.vg_commit.specs.Written.{new_entry}
use Rattle.vg_commit.proofs.AreaPuts.{entry_inside, is_placed}
use Rattle.group_plan.specs.Added.{pv_in}
use Rattle.group_plan.specs.declared.state.NewLabel.{NewLabel}
use Rattle.group_plan.specs.Cleared.{marked_label, marked_labels}
use Rattle.group_plan.specs.Marks.{marked}
use Rattle.change_batches.specs.Batches.{label_bytes}
use Rattle.change_batches.specs.Sound.{FitsFields}
use Rattle.change_batches.proofs.LabelsRead.{header_found}
use Rattle.change_batches.proofs.MarkedLabels.{IsLabelOf}
use Rattle.vg_repair.specs.Batches.{new_labels, old_labels, stray_labels}
use Rattle.vg_repair.specs.Repaired.{repaired_area, repaired_areas, repaired_contents, repaired_disk, repaired_disks, repaired_header}
use Rattle.vg_repair.specs.Repaired.{repaired_held, repaired_of, with_entry}
use Rattle.vg_repair.specs.Stale.{is_among, stale_areas, stale_in, stale_on, text_of, too_large, too_large_among}
use Rattle.vg_repair.proofs.HeldAreas.{stale_held}
use Rattle.vg_repair.proofs.Numbered.{all_at, all_in, mapped_all, mapped_at, mapped_length, mapped_same}
use Rattle.vg_repair.proofs.NewLabels.{label_is}
use Rattle.vg_repair.proofs.RepairedHeaders.{by_header, same_areas}
use Rattle.vg_repair.proofs.RepairedOld.{none_old}
use Rattle.vg_repair.proofs.Sublists.{all_back, all_front}

-- ---- room

room_first : (b : Bool) (x : ℕ × ℕ × ℕ) (rest : Option (ℕ × ℕ × ℕ)) → cond b (Some x) rest ≡ None → (b ≡ false) × (rest ≡ None)
room_first true x rest none = absurd cc
room_first false x rest none = (refl, none)

pub rooms : (text : List ℕ) (areas : List (Area × Option Locn)) → too_large_among text areas ≡ None
    → All (λ (a : Area × Option Locn). need (length text + 1) ≤ room a.0.size a.1) areas
rooms text [] none = All-nil (λ (a : Area × Option Locn). need (length text + 1) ≤ room a.0.size a.1)
rooms text (a ∷ areas) none =
    let parts =
    room_first (ltb (room a.0.size a.1) (need (length text + 1))) (a.0.pv, need (length text + 1), room a.0.size a.1)
    (too_large_among text areas) none in
    All-cons (λ (b : Area × Option Locn). need (length text + 1) ≤ room b.0.size b.1) a areas
    (ltb-false (room a.0.size a.1) (need (length text + 1)) parts.0) (rooms text areas parts.1)

-- ---- an area

pub held_on : (area : Area) (entry : HeaderEntry) (kept : Area × Option Locn) → held_by area entry ≡ Some kept → kept.0 ≡ area
held_on area Ignored kept is = cc
held_on area Nothing kept is = ap (λ (a : Area × Option Locn). a.0) (sym (same_Some (area, None) kept is))
held_on area (Text locn) kept is = ap (λ (a : Area × Option Locn). a.0) (sym (same_Some (area, Some locn) kept is))
held_on area (Refused refusal) kept is = ap (λ (a : Area × Option Locn). a.0) (sym (same_Some (area, None) kept is))

module _ (stale : List (ℕ × ℕ)) (strays : set.FinSet nat_cmp) (text : List ℕ) (pv : ℕ) where
  area_by : (found : AreaFound) (area : Area × Option Locn) (stray old : Bool)
      → (cond stray (with_entry found None) (cond old (with_entry found (Some (new_entry text area))) found)).area ≡ found.area
  area_by found area true old = refl
  area_by found area false true = refl
  area_by found area false false = refl

  area_kept_by : (number : ℕ) (found : AreaFound) (o : Option (Area × Option Locn))
      → (option_map_or (repaired_held stale strays text pv (number, found)) o found).area ≡ found.area
  area_kept_by number found None = refl
  area_kept_by number found (Some area) = area_by found area (set.contains strays pv) (is_among stale pv number)

  -- its place and size stay
  pub area_kept : (number : ℕ) (found : AreaFound) → (repaired_area stale strays text pv (number, found)).area ≡ found.area
  area_kept number found = area_kept_by number found (held_area pv found)

  -- it can be used as before
  module _ (sectors number : ℕ) (found : AreaFound) (usable : IsUsable pv sectors found)
      (has_room : (area : Area × Option Locn) → stale_in stale pv (number, found) ≡ Some area
      → CanTake area × (need (length text + 1) ≤ room area.0.size area.1)) where
    new_usable : (area : Area × Option Locn) → held_area pv found ≡ Some area → is_among stale pv number ≡ true
        → IsUsable pv sectors (with_entry found (Some (new_entry text area)))
    new_usable area is old =
        let has = has_room area (ap (λ (b : Bool). cond b (held_area pv found) None) old ∙ is) in
        let size : area.0.size ≡ found.area.size = ap (λ (a : Area). a.size) (held_on (area_on pv found.area) found.entry area is) in
        record {
          area = usable.area;
          within = usable.within;
          text = subst (λ (n : ℕ). LiesInside n (Text (new_entry text area))) size
              (entry_inside text area (is_placed text area has.0 has.1)).0;
        }

    usable_by : (area : Area × Option Locn) → held_area pv found ≡ Some area → (stray old : Bool) → is_among stale pv number ≡ old
        → IsUsable pv sectors (cond stray (with_entry found None) (cond old (with_entry found (Some (new_entry text area))) found))
    usable_by area is true old same = record { area = usable.area; within = usable.within; text = tt }
    usable_by area is false true same = new_usable area is same
    usable_by area is false false same = usable

    usable_for : (o : Option (Area × Option Locn)) → held_area pv found ≡ o
        → IsUsable pv sectors (option_map_or (repaired_held stale strays text pv (number, found)) o found)
    usable_for None is = usable
    usable_for (Some area) is = usable_by area is (set.contains strays pv) (is_among stale pv number) refl

    pub area_usable : IsUsable pv sectors (repaired_area stale strays text pv (number, found))
    area_usable = usable_for (held_area pv found) refl

-- ---- a disk

module _ (stale : List (ℕ × ℕ)) (strays old : set.FinSet nat_cmp) (text : List ℕ) where
  abbrev new_disk : ℕ × Disk → Disk
  new_disk = repaired_disk stale strays old text

  -- a scan judges it as before
  shape_kept : (pv sectors : ℕ) (contents : Option PvFound)
      → disk_shape (new_disk (pv, record { sectors = sectors; contents = contents }))
      ≡ disk_shape (record { sectors = sectors; contents = contents })
  shape_kept pv sectors None = refl
  shape_kept pv sectors (Some (NoLabel refusal)) = refl
  shape_kept pv sectors (Some (NoHeader label refusal)) = refl
  shape_kept pv sectors (Some (Whole label header areas)) =
      by_header strays old pv header
      (λ h. disk_shape (record { sectors = sectors; contents = Some (Whole label h areas) })
      ≡ disk_shape (record { sectors = sectors; contents = Some (Whole label header areas) }))
      (λ stray. refl) (λ stray was. refl) (λ stray was. refl)

  pub shapes_kept : (disks : List Disk) → shapes (repaired_disks stale strays old text disks) ≡ shapes disks
  shapes_kept disks = mapped_same new_disk disk_shape disk_shape (λ pv disk. shape_kept pv disk.sectors disk.contents) 0 disks

  -- its id stays
  id_kept : (id : List ℕ) (pv sectors : ℕ) (contents : Option PvFound)
      → has_header_id id (new_disk (pv, record { sectors = sectors; contents = contents }))
      ≡ has_header_id id (record { sectors = sectors; contents = contents })
  id_kept id pv sectors None = refl
  id_kept id pv sectors (Some (NoLabel refusal)) = refl
  id_kept id pv sectors (Some (NoHeader label refusal)) = refl
  id_kept id pv sectors (Some (Whole label header areas)) =
      by_header strays old pv header
      (λ h. has_header_id id (record { sectors = sectors; contents = Some (Whole label h (repaired_areas stale strays text pv areas)) })
      ≡ has_header_id id (record { sectors = sectors; contents = Some (Whole label header areas) }))
      (λ stray. refl) (λ stray was. refl) (λ stray was. refl)

  with_kept : (id : List ℕ) (first : ℕ) (disks : List Disk) → disk_with (map new_disk (enumerate_from first disks)) id ≡ disk_with disks id
  with_kept id first [] = refl
  with_kept id first (disk ∷ disks) =
      ap (λ (b : Bool). cond b 0 (disk_with (map new_disk (enumerate_from (first + 1) disks)) id + 1))
      (id_kept id first disk.sectors disk.contents)
      ∙ ap (λ (n : ℕ). cond (has_header_id id disk) 0 (n + 1)) (with_kept id (first + 1) disks)

  pub disks_kept : (group : Group) (disks : List Disk) → disks_of group (repaired_disks stale strays old text disks) ≡ disks_of group disks
  disks_kept group disks = ap (λ (f : List ℕ → ℕ). map (λ (pv : List ℕ × Pv). f pv.1.id) group.pvs) (fun_ext (λ id. with_kept id 0 disks))

  -- and so are the numbers of the disks of a group that was found
  pub numbers_kept : (o : Option Group) (disk_of : List ℕ) (disks : List Disk) → IfSome o (λ group. disk_of ≡ disks_of group disks)
      → IfSome o (λ group. disk_of ≡ disks_of group (repaired_disks stale strays old text disks))
  numbers_kept None disk_of disks is = tt
  numbers_kept (Some group) disk_of disks is = is ∙ sym (disks_kept group disks)

-- ---- all of it

module _ (found : Found) (shape : HasShape found) (fits : too_large found ≡ None) (fields : All FitsFields (new_labels found)) where
  abbrev stale : List (ℕ × ℕ)
  stale = found.stale

  abbrev strays : set.FinSet nat_cmp
  strays = found.strays

  abbrev old : set.FinSet nat_cmp
  old = found.old

  abbrev text : List ℕ
  text = text_of found

  abbrev disks : List Disk
  disks = repaired_disks stale strays old text found.disks

  module _ (pv : ℕ) (disk : Disk) (there : slice_get found.disks pv ≡ Some disk) where
    -- a stale area has room for the text
    pub has_room : (number : ℕ) (area : AreaFound) → slice_get (areas_on disk.contents) number ≡ Some area → (held : Area × Option Locn)
        → stale_in stale pv (number, area) ≡ Some held
        → CanTake held × (need (length text + 1) ≤ room held.0.size held.1)
    has_room number area at held is =
        let on : In (stale_on stale (pv, disk)) held = kept_has (stale_in stale pv) (areas_on disk.contents) held number area at is in
        let member : In (stale_areas found) held = flat_has (stale_on stale) found.disks held pv disk there on in (
          all_in CanTake (stale_areas found) held member (stale_held found shape).take,
          all_in (λ (a : Area × Option Locn). need (length text + 1) ≤ room a.0.size a.1) (stale_areas found) held member
              (rooms text (stale_areas found) fits),
        )

    -- a header can be read where its label is written
    marked_reads : (in_use : Bool) (among : set.FinSet nat_cmp) → All FitsFields (marked_labels in_use among found.disks)
        → (label : ℕ) (header : PvHeader) (areas : List AreaFound) → disk.contents ≡ Some (Whole label header areas)
        → set.contains among pv ≡ true → (sector : List ℕ) × Reads sector (disk.sectors * 512) header
        → (sector : List ℕ) × Reads sector (disk.sectors * 512) (marked in_use header)
    marked_reads in_use among all label header areas is on reads =
        let new : NewLabel = record { disk = pv; sector = label; header = marked in_use header } in
        let labelled : marked_label in_use among (pv, disk) ≡ Some new =
        ap (λ (b : Bool). cond b (option_map (λ (p : ℕ × PvHeader). record { disk = pv; sector = p.0; header = marked in_use p.1 })
        (option_and_then pv_in disk.contents)) None) on
        ∙ ap (λ (c : Option PvFound). option_map (λ (p : ℕ × PvHeader). record { disk = pv; sector = p.0; header = marked in_use p.1 })
        (option_and_then pv_in c)) is
        in
        let member : In (marked_labels in_use among found.disks) new =
        kept_has (marked_label in_use among) found.disks new pv disk there labelled in
        let holds : IsLabelOf _ pv new = label_is found shape in_use among pv disk there new labelled in (
          label_bytes new,
          record {
            fields = header_found new holds.can (all_in FitsFields (marked_labels in_use among found.disks) new member all) holds.found;
            areas = reads.1.areas;
          },
        )

    header_reads : (label : ℕ) (header : PvHeader) (areas : List AreaFound) → disk.contents ≡ Some (Whole label header areas)
        → (sector : List ℕ) × Reads sector (disk.sectors * 512) header
        → (sector : List ℕ) × Reads sector (disk.sectors * 512) (repaired_header strays old pv header)
    header_reads label header areas is reads =
        by_header strays old pv header (λ h. (sector : List ℕ) × Reads sector (disk.sectors * 512) h)
        (λ stray. marked_reads false strays (all_back FitsFields (old_labels found) (stray_labels found) fields) label header areas is stray
        reads)
        (λ stray was. marked_reads true old (all_front FitsFields (old_labels found) (stray_labels found) fields) label header areas is was
        reads)
        (λ stray was. reads)

    contents_stand : (contents : Option PvFound) → disk.contents ≡ contents → ContentsCanStand pv disk.sectors contents
        → ContentsCanStand pv disk.sectors (option_map (repaired_contents stale strays old text pv) contents)
    contents_stand None is stands = tt
    contents_stand (Some (NoLabel refusal)) is stands = tt
    contents_stand (Some (NoHeader label refusal)) is stands = stands
    contents_stand (Some (Whole label header areas)) is stands = (
      stands.0,
      header_reads label header areas is stands.1,
      mapped_same (repaired_area stale strays text pv) (λ (found : AreaFound). found.area) (λ (found : AreaFound). found.area)
          (λ number area. area_kept stale strays text pv number area) 0 areas ∙ stands.2 ∙ same_areas strays old pv header,
      mapped_all (repaired_area stale strays text pv) (IsUsable pv disk.sectors) areas
          (λ number area at. area_usable stale strays text pv disk.sectors number area
          (all_at (IsUsable pv disk.sectors) areas number area at stands.3)
          (λ held old. has_room number area (ap (λ (c : Option PvFound). slice_get (areas_on c) number) is ∙ at) held old)),
    )

    disk_stands : IsDisk pv disk → IsDisk pv (repaired_disk stale strays old text (pv, disk))
    disk_stands is = record { least = is.least; most = is.most; contents = contents_stand disk.contents refl is.contents }

    unread_by : (contents : Option PvFound) → (contents ≡ None) ↔ (set.contains found.unread pv ≡ true)
        → (option_map (repaired_contents stale strays old text pv) contents ≡ None) ↔ (set.contains found.unread pv ≡ true)
    unread_by None is = is
    unread_by (Some contents) is = (λ none. absurd cc, λ unread. absurd (never (is.1 unread)))
      where
        never : Some contents ≡ None → ⊥
        never e = cc

  new_at : (pv : ℕ) (disk : Disk) → slice_get disks pv ≡ Some disk → IsDisk pv disk × IsUnread found.unread pv disk
  new_at pv disk is =
      let w = mapped_at (repaired_disk stale strays old text) found.disks pv disk is in
      let came = shape.disks pv w.0 w.1 in
      subst (λ (d : Disk). IsDisk pv d × IsUnread found.unread pv d) w.2
      (disk_stands pv w.0 w.1 came.0, unread_by pv w.0 w.1 w.0.contents came.1)

  same_length : length disks ≡ length found.disks
  same_length = mapped_length (repaired_disk stale strays old text) found.disks

  same_shapes : shapes found.disks ≡ shapes disks
  same_shapes = sym (shapes_kept stale strays old text found.disks)

  pub repaired_shape : HasShape (repaired_of found)
  repaired_shape =
      let shaped = areas_shaped disks (λ pv disk is. (new_at pv disk is).0) in
      record {
        some = subst (λ (n : ℕ). 1 ≤ n) (sym same_length) shape.some;
        few = subst (λ (n : ℕ). n ≤ 64) (sym same_length) shape.few;
        disks = new_at;
        differ = subst (λ (s : List Reading). first_duplicate (ids_from 0 s) ≡ None) same_shapes shape.differ;
        areas = refl;
        take = shaped.0;
        apart = shaped.1;
        placed = subst (λ (s : List Reading). IfSome found.group (λ group. first_misplaced group s ≡ None)) same_shapes shape.placed;
        disk_of = numbers_kept found.stale found.strays found.old (text_of found) found.group found.disk_of found.disks shape.disk_of;
        missing =
            subst (λ (s : List Reading). IfSome found.group (λ group. found.missing ≡ missing_of s group.pvs)) same_shapes shape.missing;
        old =
            none_old stale strays old text found.disks (λ group. disks_kept stale strays old text group found.disks) found.group shape.old;
        stale = All-nil (λ (area : ℕ × ℕ). area.0 < length disks);
        strays = λ pv is. absurd (true≢false (sym is ∙ set.contains-empty nat_cmp pv));
        unread = λ pv is. subst (λ (n : ℕ). pv < n) (sym same_length) (shape.unread pv is);
      }

  pub repaired_whole : IsWhole found → IsWhole (repaired_of found)
  repaired_whole is = record { read = is.read; there = is.there }

-- what is whole isn't not whole
pub never_not_whole : (found : Found) (why : NotWhole) → IsWhole found → IsNotWhole found why → ⊥
unfolding first_of
never_not_whole found (ReadFailed pv) is not = none_first (range_with_len 0 64) not
  where
    none_first : (numbers : List ℕ) → find (set.contains found.unread) numbers ≡ Some pv → ⊥
    none_first [] e = cc
    none_first (n ∷ numbers) e =
        none_first numbers (sym (ap (λ (b : Bool). cond b (Some n) (find (set.contains found.unread) numbers))
        (ap (λ (s : set.FinSet nat_cmp). set.contains s n) is.read ∙ set.contains-empty nat_cmp n)) ∙ e)
never_not_whole found Partial is not = not.1 is.there

-- what it is made of
pub remade : (found : Found) (made : List Disk) (held : List (Area × Option Locn)) (stale : List (ℕ × ℕ)) (strays old : set.FinSet nat_cmp)
    → made ≡ repaired_disks found.stale found.strays found.old (text_of found) found.disks
    → held ≡ held_areas 0 (repaired_disks found.stale found.strays found.old (text_of found) found.disks) → stale ≡ [] → strays ≡ set.empty
    → old ≡ set.empty → record found { disks = made; areas = held; stale = stale; strays = strays; old = old } ≡ repaired_of found
remade found made held stale strays old same_made same_held no_stale no_stray no_old =
    λ i. record found { disks = same_made i; areas = same_held i; stale = no_stale i; strays = no_stray i; old = no_old i }
