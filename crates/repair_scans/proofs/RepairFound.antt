-- What a scan finds on the way of a repair.
use Rattle.std.proofs.Common.{◌≡◌, ℕ, ◌+◌, Bool, true, false, not, ◌&&◌, List, [], ◌∷◌, Option, Some, None, inl, inr, ⊎_elim}
use Rattle.std.proofs.Common.{refl, sym, ap, subst, ◌∙◌, arith}
use Rattle.std.specs.Prelude.{filter_map, option_map, unwrap_or}
use Rattle.std.specs.FinSet as set
use Rattle.std.specs.List.{cons_option, list_any}
use Rattle.std.proofs.lemmas.Bool.{and_parts, false≢true, or_cases, or_left, or_right, true≢false}
use Rattle.disk_batch.specs.InTurn.{HasFirstBatches, Put}
use Rattle.disk_batch.proofs.FrontBatches.{none_front}
use Rattle.disk_model.specs.Steps.{Image, IsSame}
use Rattle.meta_model.specs.declared.group.Group.{Group}
use Rattle.scan_rules.specs.Decision.{Area, AreaReading, Conflict, Copy, DuplicatePv, Found as PvOf, FoundGroup, GivesNoLater}
use Rattle.scan_rules.specs.Decision.{HasShape as IsShaped, Held, NoCopy, NoGroup, PvShape, Reading, ScanAnswer, TwoGroups}
use Rattle.scan_rules.specs.Decision.{Unsupported, decide_scan, gives, holds, is_held, is_listed, lists}
use Rattle.scan_rules.specs.Found.{missing_of}
use Rattle.scan_rules.proofs.Scanning.{same_bytes_to}
use Rattle.scan_rules.proofs.SameShape.{same_shape}
use Rattle.vg_found.specs.declared.found.Found.{Found}
use Rattle.vg_found.specs.Disks.{disks_of, held_areas, old_of}
use Rattle.vg_scan.specs.Readings.{IsDiskReading}
use Rattle.vg_scan.specs.Scans.{IsFoundBy}
use Rattle.vg_scan.specs.Texts.{IsCopyOf}
use Rattle.vg_repair.specs.Batches.{repair_batches}
use Rattle.vg_repair.specs.Stale.{text_of}
use Rattle.vg_repair.proofs.Nothing.{leaves_all}
use Rattle.repair_scans.specs.Laws.{CanRepair, FindsAgain}
use Rattle.vg_scan.specs.Versions.{Version}
use Rattle.image_scans.proofs.Again.{AreasAgain, DisksAgain, Finds, GivesAgain, PvAgain, again_give, again_headers, finds_newest}
use Rattle.image_scans.proofs.Again.{missing_same}
use Rattle.image_scans.proofs.CommitScans.{disks_by_ids, none_unread}
use Rattle.image_scans.proofs.Decided.{IsFoundWith, found_parts}
use Rattle.image_scans.proofs.DiskAgain.{AllAgain, DiskAgain, all_again}
use Rattle.image_scans.proofs.AreaReadings.{CopyHas, DisksGive, best_copy_has}
use Rattle.image_scans.proofs.NoLater.{none_later_given}
use Rattle.image_scans.proofs.SettledBase.{IsItsCopy, copies_are}
use Rattle.repair_scans.proofs.RepairOnTheWay.{each_again, may_be_lost}
use Rattle.repair_scans.proofs.StraysApart.{unlisted}

-- ---- a listed disk that gives the text goes on giving it

module _ (group : Group) (text : List ℕ) (passed : List (List ℕ)) where
  abbrev new : AreaReading
  new = Copy group text passed

  abbrev lost : List ℕ → AreaReading → Bool
  lost = may_be_lost group text

  one_still : (id : List ℕ) → lists group id ≡ true → (a b : Option AreaReading) (as' bs : List AreaReading)
      → GivesAgain new true (lost id) a b → (list_any (gives text) as' ≡ true → list_any (gives text) bs ≡ true)
      → list_any (gives text) (cons_option a as') ≡ true → list_any (gives text) (cons_option b bs) ≡ true
  one_still id listed None b as' bs again later any =
      subst (λ (o : Option AreaReading). list_any (gives text) (cons_option o bs) ≡ true) (sym again) (later any)
  one_still id listed (Some r) b as' bs (inl same) later any =
      subst (λ (o : Option AreaReading). list_any (gives text) (cons_option o bs) ≡ true) (sym same)
      (⊎_elim (λ here. or_left (gives text r) (list_any (gives text) bs) here)
      (λ rest. or_right (gives text r) (list_any (gives text) bs) (later rest))
      (or_cases (gives text r) (list_any (gives text) as') any))
  one_still id listed (Some r) b as' bs (inr (inl made)) later any =
      subst (λ (o : Option AreaReading). list_any (gives text) (cons_option o bs) ≡ true) (sym made.0)
      (or_left (gives text new) (list_any (gives text) bs) (same_bytes_to text text refl))
  one_still id listed (Some r) b as' bs (inr (inr none)) later any =
      subst (λ (o : Option AreaReading). list_any (gives text) (cons_option o bs) ≡ true) (sym none.0)
      (⊎_elim
      (λ here.
      let kept : lost id r ≡ false = ap (λ (x : Bool). not (x && lists group id)) here ∙ ap not listed in
      absurd (true≢false (sym none.1 ∙ kept)))
      (λ rest. later rest)
      (or_cases (gives text r) (list_any (gives text) as') any))

  areas_still : (id : List ℕ) → lists group id ≡ true → (as' bs : List Area) → AreasAgain new true (lost id) as' bs
      → list_any (gives text) (filter_map (λ (a : Area). a.reading) as') ≡ true
      → list_any (gives text) (filter_map (λ (a : Area). a.reading) bs) ≡ true
  areas_still id listed [] [] again any = any
  areas_still id listed [] (b ∷ bs) again any = absurd again
  areas_still id listed (a ∷ as') [] again any = absurd again
  areas_still id listed (a ∷ as') (b ∷ bs) again any =
      one_still id listed a.reading b.reading (filter_map (λ (x : Area). x.reading) as') (filter_map (λ (x : Area). x.reading) bs) again.2
      (λ rest. areas_still id listed as' bs again.3 rest) any

  pv_still : (s t : ℕ) (a b : Option PvOf) → PvAgain (λ id. true) lost new a b
      → (is_listed group (record { sectors = s; pv = a }) && holds text (record { sectors = s; pv = a })) ≡ true
      → (is_listed group (record { sectors = t; pv = b }) && holds text (record { sectors = t; pv = b })) ≡ true
  pv_still s t None None again any = absurd (false≢true any)
  pv_still s t None (Some b) again any = absurd again
  pv_still s t (Some a) None again any = absurd again
  pv_still s t (Some a) (Some b) again any =
      let parts = and_parts (lists group a.id) (list_any (gives text) (filter_map (λ (x : Area). x.reading) a.areas)) any in
      ap (λ (x : Bool). x && list_any (gives text) (filter_map (λ (y : Area). y.reading) b.areas))
      (ap (lists group) (sym again.0) ∙ parts.0) ∙ areas_still a.id parts.0 a.areas b.areas again.1 parts.1

  held_still : (as' bs : List Reading) → DisksAgain (λ id. true) lost new as' bs → is_held group text as' ≡ true
      → is_held group text bs ≡ true
  held_still [] [] again any = any
  held_still [] (b ∷ bs) again any = absurd again
  held_still (a ∷ as') [] again any = absurd again
  held_still (a ∷ as') (b ∷ bs) again any =
      ⊎_elim
      (λ here. or_left (is_listed group b && holds text b) (is_held group text bs) (pv_still a.sectors b.sectors a.pv b.pv again.1 here))
      (λ later. or_right (is_listed group b && holds text b) (is_held group text bs) (held_still as' bs again.2 later))
      (or_cases (is_listed group a && holds text a) (is_held group text as') any)

-- ---- the repair

module _ (base : Image) (sizes : List ℕ) (found : Found) (p : CanRepair base sizes found) where
  abbrev readings : List Reading
  readings = p.scan.readings

  -- ---- a group was found

  module _ (held : Held) (stale : List (ℕ × ℕ)) (strays : List ℕ) (missing : List (List ℕ))
      (is : decide_scan readings ≡ FoundGroup held stale strays missing) (by : IsFoundBy (FoundGroup held stale strays missing) found)
      (image : Image)
      (h : HasFirstBatches (repair_batches found) base image) where
    abbrev text : List ℕ
    text = text_of found

    -- it is the text of the copy
    pub text_is : text ≡ held.text
    text_is = ap (λ (o : Option (List ℕ)). unwrap_or o []) by.1

    copies : DisksGive (λ disk. CopyHas IsItsCopy) readings
    copies = copies_are base found.unread 0 found.disks readings p.scan.are.each

    parts : IsFoundWith readings held stale strays missing
    parts = found_parts readings held stale strays missing is

    -- the text that was found is a copy of the group
    pub copy : IsCopyOf text held.group held.passed
    copy =
        subst (λ (t : List ℕ). IsCopyOf t held.group held.passed) (sym text_is) (best_copy_has IsItsCopy readings copies held parts.best_is)

    abbrev made : AreaReading
    made = Copy held.group text held.passed

    -- the disks, as they read again
    pub again : AllAgain image found.unread 0 (λ id. true) (may_be_lost held.group text) made found.disks readings
    again =
        all_again base image found.unread 0 (λ id. true) (may_be_lost held.group text) made found.disks readings p.scan.are.each
        (λ k disk reading at_disk at_reading read.
        let plain : 0 + k ≡ k = omega arith in
        subst (λ (n : ℕ). DiskAgain n (image n) (λ id. true) (may_be_lost held.group text) made disk reading) (sym plain)
        (each_again base sizes found p held.group (unlisted base sizes found p.scan held stale strays missing is by.4) image h
        k disk at_disk held.passed copy
        reading (subst (λ (n : ℕ). IsDiskReading n (base n) disk reading) plain read)))

    given : DisksGive (λ disk. GivesNoLater held.group held.text) again.read
    given =
        again_give (GivesNoLater held.group held.text) made (refl, inl (refl, text_is)) tt (λ id. true) (may_be_lost held.group text)
        readings again.read again.again
        (none_later_given readings held stale strays missing is copies)

    shape : IsShaped held.group again.read
    shape =
        same_shape held.group readings again.read
        (again_headers (λ id. true) (may_be_lost held.group text) made readings again.read again.again)
        (record { apart = parts.apart; placed = parts.placed })

    still_held : is_held held.group held.text again.read ≡ true
    still_held =
        subst (λ (t : List ℕ). is_held held.group t again.read ≡ true) text_is
        (held_still held.group text held.passed readings again.read again.again
        (subst (λ (t : List ℕ). is_held held.group t readings ≡ true) (sym text_is) parts.is_held_is))

    -- the same group and text are found again
    pub finds : Finds again.read held.group held.text
    finds = finds_newest held.group held.text again.read shape given still_held

    abbrev found_again : Found
    found_again = record {
      group = Some finds.held.group;
      text = Some finds.held.text;
      unknown = finds.held.passed;
      disks = again.there;
      areas = held_areas 0 again.there;
      stale = finds.stale;
      strays = set.from_list finds.strays;
      old = old_of (Some finds.held.group) again.there;
      missing = finds.missing;
      disk_of = disks_of finds.held.group again.there;
      unread = found.unread;
    }

    -- no physical volume of the group is missing
    pub none_away : missing_of again.read held.group.pvs ≡ []
    none_away =
        sym (missing_same readings again.read held.group.pvs
        (again_headers (λ id. true) (may_be_lost held.group text) made readings again.read again.again)) ∙ parts.missing_are ∙ sym by.5
        ∙ p.whole.there

    found_text : FindsAgain sizes image found
    found_text =
        let own : IsFoundWith again.read finds.held finds.stale finds.strays finds.missing =
        found_parts again.read finds.held finds.stale finds.strays finds.missing finds.is in
        let version : Group → Version = λ g. record { group = g; disk_of = disks_of g again.there } in
        record {
          finds = record {
            found = found_again;
            scan = record {
              readings = again.read;
              are = record { sizes_is = again.sizes_is ∙ p.scan.are.sizes_is; each = again.are };
              answer = subst (λ (answer : ScanAnswer). IsFoundBy answer found_again) (sym finds.is) (refl, refl, refl, refl, refl, refl);
              areas = refl;
              disk_of = refl;
              old = refl;
            };
            left = λ pv within. none_unread found p.whole pv;
            whole = sym own.missing_are ∙ ap (λ (g : Group). missing_of again.read g.pvs) finds.group_is ∙ none_away;
            version_is =
                ap (λ (g : Group). Some (version g)) finds.group_is
                ∙ ap (λ (l : List ℕ). Some (record { group = held.group; disk_of = l }))
                (disks_by_ids held.group found.disks again.there again.ids)
                ∙ sym (ap (λ (o : Option Group). option_map (λ (g : Group). record { group = g; disk_of = disks_of g found.disks }) o)
                by.0);
          };
          text = ap (λ (t : List ℕ). Some t) finds.text_is ∙ sym by.1;
        }

  -- ---- no group was found, and nothing is written

  of_none : IsFoundBy NoGroup found → (image : Image) → HasFirstBatches (repair_batches found) base image → FindsAgain sizes image found
  of_none by image h =
      let none_old : found.old ≡ set.empty = p.scan.old ∙ ap (λ (o : Option Group). old_of o found.disks) by.0 in
      let nothing : repair_batches found ≡ [] = (leaves_all found p.shape by.3 by.4 none_old).0 in
      let same : IsSame image base = none_front base image (subst (λ (l : List (List Put)). HasFirstBatches l base image) nothing h) in
      subst (λ (i : Image). FindsAgain sizes i found) (λ i pv sector. sym (same pv sector) i)
      (record {
        finds = record {
          found = found;
          scan = p.scan;
          left = λ pv within. none_unread found p.whole pv;
          whole = p.whole.there;
          version_is = refl;
        };
        text = refl;
      })

  by_answer : (answer : ScanAnswer) → decide_scan readings ≡ answer → IsFoundBy answer found → (image : Image)
      → HasFirstBatches (repair_batches found) base image → FindsAgain sizes image found
  by_answer (FoundGroup held stale strays missing) is by image h = found_text held stale strays missing is by image h
  by_answer NoGroup is by image h = of_none by image h
  by_answer (DuplicatePv a b) is by image h = absurd by
  by_answer (NoCopy rs) is by image h = absurd by
  by_answer (Unsupported pv) is by image h = absurd by
  by_answer (TwoGroups a b) is by image h = absurd by
  by_answer (Conflict a b seqno) is by image h = absurd by
  by_answer (PvShape pv) is by image h = absurd by

  pub repairs_scan : (image : Image) → HasFirstBatches (repair_batches found) base image → FindsAgain sizes image found
  repairs_scan image h = by_answer (decide_scan readings) refl p.scan.answer image h
