-- Once a repair is done, the header of each area names the entry that is found then.
use Rattle.std.proofs.Common.{◌≡◌, ◌≤◌, ℕ, ◌+◌, ◌/◌, ◌%◌, Bool, true, false, cond, List, [], ◌∷◌, ◌++◌, length, map, get_or, Option, Some}
use Rattle.std.proofs.Common.{None, inl, inr, ⊎_elim, refl, sym, ap, subst, ◌∙◌, arith}
use Rattle.std.specs.Prelude.{All, AllPairs, option_map}
use Rattle.std.specs.List.{cons_option, enumerate_from, filter_map, flat_map}
use Rattle.std.specs.Option.{option_map_or}
use Rattle.std.specs.Ordering.{nat_cmp}
use Rattle.std.specs.FinSet as set
use Rattle.std.proofs.lemmas.Bool.{cases_Bool, true≢false}
use Rattle.std.proofs.lemmas.List.{map-append, take_all}
use Rattle.std.proofs.lemmas.List.Elements.{All-map, filter_passes}
use Rattle.sector_base.specs.Spans.{covers}
use Rattle.disk_model.specs.Steps.{Image}
use Rattle.mda_header.specs.declared.header.Locn.{Locn}
use Rattle.mda_ring.specs.Areas.{CanTake, LieApart}
use Rattle.mda_ring.specs.declared.area.Area.{Area}
use Rattle.mda_ring.proofs.SpanLaws.{covers_tells}
use Rattle.disk_batch.specs.InTurn.{HasFirstBatches, Put, with_batches}
use Rattle.disk_contents.specs.declared.contents.AreaFound.{AreaFound}
use Rattle.disk_contents.specs.Standing.{area_on}
use Rattle.disk_contents.specs.declared.contents.PvFound.{PvFound}
use Rattle.disk_contents.specs.declared.contents.PvFound.TheVariants.{NoLabel, NoHeader, Whole}
use Rattle.vg_found.specs.Disks.{areas_on, held_area, held_areas}
use Rattle.vg_found.specs.Shape.{HasShape}
use Rattle.vg_found.specs.declared.disk.Disk.{Disk}
use Rattle.vg_found.specs.declared.found.Found.{Found}
use Rattle.vg_commit.specs.SectorReading.{ShowsBy, new_reading}
use Rattle.vg_commit.specs.Showing.{Names, sectors_of}
use Rattle.vg_commit.specs.Written.{area_span, header_span, new_entry}
use Rattle.group_plan.specs.Judging.{lies_on}
use Rattle.change_batches.specs.Laws.{IsEmpty, ShowsEntries}
use Rattle.change_batches.proofs.FarAreas.{IsFar}
use Rattle.list_laws.proofs.Filtered.{each_of_filtered}
use Rattle.vg_repair.specs.Batches.{repair_batches, stray_areas}
use Rattle.vg_repair.specs.Laws.{IsRight, KeepsImages}
use Rattle.vg_repair.specs.Repaired.{repaired_area, repaired_contents, repaired_disk, repaired_held, repaired_of, with_entry}
use Rattle.vg_repair.specs.Stale.{is_among, stale_areas, stale_in, stale_on, text_of}
use Rattle.vg_repair.proofs.Flagged.{Either, WithMarked, each_of_all, each_of_marked, if_marked, marked, unmarked, unmarked_with}
use Rattle.vg_repair.proofs.HeldAreas.{each_far, stale_held}
use Rattle.vg_repair.proofs.RepairedShape.{held_on}
use Rattle.vg_repair.proofs.NewLabels.{labels_can}

-- ---- the areas that are held, each with a mark where it is stale

abbrev Mark : Type 0
Mark = Bool × (Area × Option Locn)

abbrev put_mark : Bool → Option (Area × Option Locn) → List Mark → List Mark
put_mark stale None marks = marks
put_mark stale (Some area) marks = (stale, area) ∷ marks

abbrev marks_on : List (ℕ × ℕ) → ℕ → ℕ → List AreaFound → List Mark
marks_on stale pv number [] = []
marks_on stale pv number (found ∷ founds) = put_mark (is_among stale pv number) (held_area pv found) (marks_on stale pv (number + 1) founds)

abbrev marks_of : List (ℕ × ℕ) → ℕ → List Disk → List Mark
marks_of stale pv [] = []
marks_of stale pv (disk ∷ disks) = marks_on stale pv 0 (areas_on disk.contents) ++ marks_of stale (pv + 1) disks

marks_append : (a b : List Mark) → unmarked (a ++ b) ≡ unmarked a ++ unmarked b
marks_append [] b = refl
marks_append (e ∷ a) b = ap (λ (l : List (Area × Option Locn)). e.1 ∷ l) (marks_append a b)

marked_append : (a b : List Mark) → marked (a ++ b) ≡ marked a ++ marked b
marked_append [] b = refl
marked_append (e ∷ a) b = one e.0 e.1 (marked_append a b)
  where
    one : (t : Bool) (x : Area × Option Locn) → marked (a ++ b) ≡ marked a ++ marked b
        → if_marked t x (marked (a ++ b)) ≡ if_marked t x (marked a) ++ marked b
    one true x rest = ap (λ (l : List (Area × Option Locn)). x ∷ l) rest
    one false x rest = rest

module _ (stale : List (ℕ × ℕ)) where
  held_put : (t : Bool) (o : Option (Area × Option Locn)) (marks : List Mark)
      → unmarked (put_mark t o marks) ≡ cons_option o (unmarked marks)
  held_put t None marks = refl
  held_put t (Some area) marks = refl

  stale_put : (t : Bool) (o : Option (Area × Option Locn)) (marks : List Mark)
      → marked (put_mark t o marks) ≡ cons_option (cond t o None) (marked marks)
  stale_put true None marks = refl
  stale_put false None marks = refl
  stale_put true (Some area) marks = refl
  stale_put false (Some area) marks = refl

  held_marks_on : (pv number : ℕ) (founds : List AreaFound) → unmarked (marks_on stale pv number founds) ≡ filter_map (held_area pv) founds
  held_marks_on pv number [] = refl
  held_marks_on pv number (found ∷ founds) =
      held_put (is_among stale pv number) (held_area pv found) (marks_on stale pv (number + 1) founds)
      ∙ ap (cons_option (held_area pv found)) (held_marks_on pv (number + 1) founds)

  stale_marks_on : (pv number : ℕ) (founds : List AreaFound)
      → marked (marks_on stale pv number founds) ≡ filter_map (stale_in stale pv) (enumerate_from number founds)
  stale_marks_on pv number [] = refl
  stale_marks_on pv number (found ∷ founds) =
      stale_put (is_among stale pv number) (held_area pv found) (marks_on stale pv (number + 1) founds)
      ∙ ap (cons_option (stale_in stale pv (number, found))) (stale_marks_on pv (number + 1) founds)

  held_marks : (pv : ℕ) (disks : List Disk) → unmarked (marks_of stale pv disks) ≡ held_areas pv disks
  held_marks pv [] = refl
  held_marks pv (disk ∷ disks) =
      marks_append (marks_on stale pv 0 (areas_on disk.contents)) (marks_of stale (pv + 1) disks)
      ∙ ap (λ (l : List (Area × Option Locn)). l ++ unmarked (marks_of stale (pv + 1) disks)) (held_marks_on pv 0 (areas_on disk.contents))
      ∙ ap (λ (l : List (Area × Option Locn)). filter_map (held_area pv) (areas_on disk.contents) ++ l) (held_marks (pv + 1) disks)

  stale_marks : (pv : ℕ) (disks : List Disk) → marked (marks_of stale pv disks) ≡ flat_map (stale_on stale) (enumerate_from pv disks)
  stale_marks pv [] = refl
  stale_marks pv (disk ∷ disks) =
      marked_append (marks_on stale pv 0 (areas_on disk.contents)) (marks_of stale (pv + 1) disks)
      ∙ ap (λ (l : List (Area × Option Locn)). l ++ marked (marks_of stale (pv + 1) disks)) (stale_marks_on pv 0 (areas_on disk.contents))
      ∙ ap (λ (l : List (Area × Option Locn)). stale_on stale (pv, disk) ++ l) (stale_marks (pv + 1) disks)

  -- ---- what is found of each once the repair is done

  module _ (strays : set.FinSet nat_cmp) (text : List ℕ) where
    abbrev now_by : Bool → Bool → Area × Option Locn → Area × Option Locn
    now_by true old area = (area.0, None)
    now_by false true area = (area.0, Some (new_entry text area))
    now_by false false area = area

    abbrev now_of : Mark → Area × Option Locn
    now_of mark = now_by (set.contains strays mark.1.0.pv) mark.0 mark.1

    now_held : (pv number : ℕ) (found : AreaFound) (area : Area × Option Locn) → held_area pv found ≡ Some area → (stray old : Bool)
        → held_area pv (cond stray (with_entry found None) (cond old (with_entry found (Some (new_entry text area))) found))
        ≡ Some (now_by stray old area)
    now_held pv number found area is true old =
        ap (λ (a : Area). Some (a, None)) (sym (held_on (area_on pv found.area) found.entry area is))
    now_held pv number found area is false true =
        ap (λ (a : Area). Some (a, Some (new_entry text area))) (sym (held_on (area_on pv found.area) found.entry area is))
    now_held pv number found area is false false = is

    one_now : (pv number : ℕ) (found : AreaFound) (o : Option (Area × Option Locn)) → held_area pv found ≡ o → (rest : List Mark)
        → cons_option (held_area pv (option_map_or (repaired_held stale strays text pv (number, found)) o found)) (map now_of rest)
        ≡ map now_of (put_mark (is_among stale pv number) o rest)
    one_now pv number found None is rest = ap (λ (p : Option (Area × Option Locn)). cons_option p (map now_of rest)) is
    one_now pv number found (Some area) is rest =
        let on : area.0.pv ≡ pv = ap (λ (a : Area). a.pv) (held_on (area_on pv found.area) found.entry area is) in
        ap (λ (p : Option (Area × Option Locn)). cons_option p (map now_of rest))
        (now_held pv number found area is (set.contains strays pv) (is_among stale pv number))
        ∙ ap (λ (n : ℕ). now_by (set.contains strays n) (is_among stale pv number) area ∷ map now_of rest) (sym on)

    now_on : (pv number : ℕ) (founds : List AreaFound)
        → filter_map (held_area pv) (map (repaired_area stale strays text pv) (enumerate_from number founds))
        ≡ map now_of (marks_on stale pv number founds)
    now_on pv number [] = refl
    now_on pv number (found ∷ founds) =
        ap (cons_option (held_area pv (repaired_area stale strays text pv (number, found)))) (now_on pv (number + 1) founds)
        ∙ one_now pv number found (held_area pv found) refl (marks_on stale pv (number + 1) founds)

    module _ (olds : set.FinSet nat_cmp) where
      now_disk : (pv : ℕ) (contents : Option PvFound)
          → filter_map (held_area pv) (areas_on (option_map (repaired_contents stale strays olds text pv) contents))
          ≡ map now_of (marks_on stale pv 0 (areas_on contents))
      now_disk pv None = refl
      now_disk pv (Some (NoLabel refusal)) = refl
      now_disk pv (Some (NoHeader label refusal)) = refl
      now_disk pv (Some (Whole label header areas)) = now_on pv 0 areas

      now_all : (pv : ℕ) (disks : List Disk) → held_areas pv (map (repaired_disk stale strays olds text) (enumerate_from pv disks))
          ≡ map now_of (marks_of stale pv disks)
      now_all pv [] = refl
      now_all pv (disk ∷ disks) =
          ap (λ (l : List (Area × Option Locn)). l
          ++ held_areas (pv + 1) (map (repaired_disk stale strays olds text) (enumerate_from (pv + 1) disks))) (now_disk pv disk.contents)
          ∙ ap (λ (l : List (Area × Option Locn)). map now_of (marks_on stale pv 0 (areas_on disk.contents)) ++ l) (now_all (pv + 1) disks)
          ∙ sym (map-append now_of (marks_on stale pv 0 (areas_on disk.contents)) (marks_of stale (pv + 1) disks))

-- ---- in the image

module _ (found : Found) (shape : HasShape found) (images : KeepsImages found) (base : Image) (names : ShowsEntries found.areas base) where
  abbrev marks : List Mark
  marks = marks_of found.stale 0 found.disks

  abbrev last : Image
  last = with_batches (repair_batches found) base

  abbrev IsNamed : Image → Area × Option Locn → Type 0
  IsNamed image area = Names area.0 area.1 (sectors_of area.0 image 0)

  areas_are : unmarked marks ≡ found.areas
  areas_are = held_marks found.stale 0 found.disks ∙ sym shape.areas

  stale_are : marked marks ≡ stale_areas found
  stale_are = stale_marks found.stale 0 found.disks

  each_held : (P : Area × Option Locn → Type 0) → All P found.areas → All (λ (m : Mark). P m.1) marks
  each_held P all = each_of_all P marks (subst (All P) (sym areas_are) all)

  all_there : HasFirstBatches (repair_batches found) base last
  all_there =
      record {
        count = length (repair_batches found);
        among = omega arith;
        either = λ pv sector. inl (ap (λ (l : List (List Put)). with_batches l base pv sector)
            (sym (take_all (length (repair_batches found)) (repair_batches found) (omega arith))));
      }

  right : IsRight found last
  right = images.right base names

  -- the header of an area that isn't stale and on no stray is as it was
  module _ (a : Area × Option Locn) (good : CanTake a) (far : IsFar a) (free : set.contains found.strays a.0.pv ≡ false)
      (apart : All (Either LieApart a) (stale_areas found)) where
    abbrev at : ℕ
    at = a.0.start / 512 + 0

    stale_elsewhere : All (λ (s : Area × Option Locn). covers (area_span s.0) a.0.pv at ≡ false) (stale_areas found)
    stale_elsewhere k d within =
        let s : Area × Option Locn = get_or (stale_areas found) k d in
        let can : CanTake s = (stale_held found shape).take k d within in
        let s_start : s.0.start % 512 ≡ 0 = can.0.start_is_whole in
        let s_size : s.0.size % 512 ≡ 0 = can.0.size_is_whole in
        let big : 1536 ≤ a.0.size = good.0.has_ring in
        ⊎_elim
        (λ is.
        let t = covers_tells (area_span s.0) a.0.pv at is in
        let never : LieApart s a → ⊥ =
        λ r. ⊎_elim (λ other. other t.0) (λ lies. ⊎_elim
        (λ (x : s.0.start + s.0.size ≤ a.0.start). omega (arith, x, t.1, t.2, s_start, s_size))
        (λ (x : a.0.start + a.0.size ≤ s.0.start). omega (arith, x, t.1, t.2, big)) lies) r in
        let never' : LieApart a s → ⊥ =
        λ r. ⊎_elim (λ other. other (sym t.0)) (λ lies. ⊎_elim
        (λ (x : a.0.start + a.0.size ≤ s.0.start). omega (arith, x, t.1, t.2, big))
        (λ (x : s.0.start + s.0.size ≤ a.0.start). omega (arith, x, t.1, t.2, s_start, s_size)) lies) r in
        absurd (⊎_elim never never' (apart k d within)))
        (λ out. out)
        (cases_Bool (covers (area_span s.0) a.0.pv at))

    strays_elsewhere : All (λ (s : Area × Option Locn). covers (header_span s.0) a.0.pv at ≡ false) (stray_areas found)
    strays_elsewhere k d within =
        let s : Area × Option Locn = get_or (stray_areas found) k d in
        ⊎_elim
        (λ is.
        let t = covers_tells (header_span s.0) a.0.pv at is in
        absurd (true≢false (sym (filter_passes (lies_on found.strays) found.areas k d within) ∙ ap (set.contains found.strays) t.0 ∙ free)))
        (λ out. out)
        (cases_Bool (covers (header_span s.0) a.0.pv at))

    header_same : last a.0.pv at ≡ base a.0.pv at
    header_same =
        (images.kept base last names all_there).others a.0.pv at (record {
          stale = stale_elsewhere;
          labels = λ k d within. inr (λ e. let low = (labels_can found shape k d within).sector_below in omega (arith, e, low, far));
          headers = strays_elsewhere;
        })

  -- what the header of an empty area says
  empty_names : (a : Area × Option Locn) → IsEmpty last a → Names a.0 None (sectors_of a.0 last 0)
  empty_names a h = inl (record { sound = h.sound; none = h.committed }, λ bit. absurd (let never : false ≡ true = h.ignored.1 bit in cc))

  named : (m : Mark) → CanTake m.1 → IsFar m.1 → IsNamed base m.1 → (lies_on found.strays m.1 ≡ true → IsEmpty last m.1)
      → (m.0 ≡ true → ShowsBy (new_reading (text_of found)) last m.1) → WithMarked LieApart marks m
      → (stray old : Bool) → set.contains found.strays m.1.0.pv ≡ stray → m.0 ≡ old
      → IsNamed last (now_by found.stale found.strays (text_of found) stray old m.1)
  named m good far names_it empty shows apart true old is stale = empty_names m.1 (empty is)
  named m good far names_it empty shows apart false true is stale = (shows stale).header
  named m good far names_it empty shows apart false false is stale =
      subst (λ (sector : List ℕ). Names m.1.0 m.1.1 sector)
      (sym (header_same m.1 good far is (subst (All (Either LieApart m.1)) stale_are (apart stale)))) names_it

  pub repaired_entries : ShowsEntries (repaired_of found).areas last
  repaired_entries =
      let goods = each_held CanTake shape.take in
      let fars = each_held IsFar (each_far found shape) in
      let names_all = each_held (IsNamed base) names in
      let empties =
      each_held (λ (a : Area × Option Locn). lies_on found.strays a ≡ true → IsEmpty last a)
      (each_of_filtered (IsEmpty last) (lies_on found.strays) found.areas right.headers) in
      let shows =
      each_of_marked (ShowsBy (new_reading (text_of found)) last) marks
      (subst (All (ShowsBy (new_reading (text_of found)) last)) (sym stale_are) right.stale) in
      let aparts = unmarked_with LieApart marks (subst (AllPairs LieApart) (sym areas_are) shape.apart) in
      subst (All (IsNamed last)) (sym (now_all found.stale found.strays (text_of found) found.old 0 found.disks))
      (All-map (IsNamed last) (now_of found.stale found.strays (text_of found)) marks
      (λ k d within.
      named (get_or marks k d) (goods k d within) (fars k d within) (names_all k d within) (empties k d within) (shows k d within)
      (aparts k d within)
      (set.contains found.strays (get_or marks k d).1.0.pv) (get_or marks k d).0 refl refl))
