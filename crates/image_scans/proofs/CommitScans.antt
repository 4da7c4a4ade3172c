-- What a scan finds on the way of a change that commits a group, and at its end.
use Rattle.std.proofs.Common.{◌≡◌, ◌≢◌, ◌<◌, ◌⊎◌, ℕ, Bool, true, false, not, ◌||◌, List, [], ◌∷◌, map, Option, Some, None, IfSome, inl, inr}
use Rattle.std.proofs.Common.{⊎_elim, refl, sym, ap, subst, ◌∙◌, arith}
use Rattle.std.specs.Prelude.{option_map}
use Rattle.std.specs.Option.{option_map_or}
use Rattle.std.specs.FinSet as set
use Rattle.std.specs.List.{AllByRecursion as Each}
use Rattle.std.specs.Ordering.{nat_cmp}
use Rattle.disk_model.specs.Steps.{Image}
use Rattle.meta_model.specs.declared.group.Group.{Group}
use Rattle.meta_model.specs.declared.pv.Pv.{Pv}
use Rattle.scan_rules.specs.Decision.{AreaReading, Conflict, Copy, DuplicatePv, FoundGroup, GivesNoLater, HasShape as IsShaped, NoCopy}
use Rattle.scan_rules.specs.Decision.{NoGroup, PvShape, Reading, SameHeaders, ScanAnswer, TwoGroups, Unsupported, decide_scan}
use Rattle.scan_rules.specs.Decision.{first_misplaced, is_held, lists}
use Rattle.scan_rules.specs.Found.{is_missing, missing_of}
use Rattle.scan_rules.proofs.SameShape.{same_shape}
use Rattle.vg_found.specs.declared.disk.Disk.{Disk}
use Rattle.vg_found.specs.declared.found.Found.{Found}
use Rattle.vg_found.specs.Disks.{disk_with, disks_of, held_areas, old_of, shapes}
use Rattle.vg_found.specs.Shape.{HasShape}
use Rattle.vg_found.specs.Whole.{IsWhole}
use Rattle.vg_scan.specs.Readings.{AreDiskReadings}
use Rattle.vg_scan.specs.Scans.{IsFoundBy}
use Rattle.vg_scan.specs.Texts.{IsCopyOf}
use Rattle.image_scans.specs.Laws.{none_out}
use Rattle.vg_scan.specs.Versions.{FindsVersion, Version, version_in}
use Rattle.image_scans.proofs.Again.{Finds, again_give, again_headers, finds_newest, held_or_same, none_missing, same_ids}
use Rattle.image_scans.proofs.Decided.{IsFoundWith, found_parts}
use Rattle.image_scans.proofs.DiskAgain.{AllAgain}
use Rattle.image_scans.proofs.AreaReadings.{DisksGive, IsNone, disks_weaker}
use Rattle.image_scans.proofs.SettledBase.{IsNoneOr, IsSettledScan, none_later, older_given, one_copy, settled_none, settled_some}

-- ---- what was found, of other disks

-- what was found, of other disks
abbrev found_on : Found → List Disk → Found
found_on found disks =
    record found {
      disks = disks;
      areas = held_areas 0 disks;
      disk_of = option_map_or (λ (group : Group). disks_of group disks) found.group [];
      old = old_of found.group disks;
    }

-- an answer that was found is found of other disks too
moved : (answer : ScanAnswer) (found : Found) (disks : List Disk) → IsFoundBy answer found → IsFoundBy answer (found_on found disks)
moved (FoundGroup held stale strays missing) found disks by = by
moved NoGroup found disks by = by
moved (DuplicatePv a b) found disks by = absurd by
moved (NoCopy rs) found disks by = absurd by
moved (Unsupported pv) found disks by = absurd by
moved (TwoGroups a b) found disks by = absurd by
moved (Conflict a b seqno) found disks by = absurd by
moved (PvShape pv) found disks by = absurd by

-- the disks of a group are found by ids alone
pub disks_by_ids : (group : Group) (disks others : List Disk) → ((id : List ℕ) → disk_with others id ≡ disk_with disks id)
    → disks_of group others ≡ disks_of group disks
disks_by_ids group disks others same = by group.pvs
  where
    by : (pvs : List (List ℕ × Pv)) → map (λ (pv : List ℕ × Pv). disk_with others pv.1.id) pvs
        ≡ map (λ (pv : List ℕ × Pv). disk_with disks pv.1.id) pvs
    by [] = refl
    by (pv ∷ pvs) = λ i. same pv.1.id i ∷ by pvs i

pub none_unread : (found : Found) → IsWhole found → (pv : ℕ) → set.contains found.unread pv ≡ false
none_unread found whole pv = ap (λ (s : set.FinSet nat_cmp). set.contains s pv) whole.read ∙ set.contains-empty nat_cmp pv

-- disks that read as they did
pub same_version : (image : Image) (sizes : List ℕ) (found : Found) → IsWhole found → (readings : List Reading)
    → IsFoundBy (decide_scan readings) found → (there : List Disk) (read : List Reading)
    → map (λ (d : Disk). d.sectors) there ≡ sizes → AreDiskReadings image found.unread 0 there read
    → decide_scan read ≡ decide_scan readings → ((id : List ℕ) → disk_with there id ≡ disk_with found.disks id)
    → FindsVersion sizes image none_out (version_in found)
same_version image sizes found whole readings by there read sizes_are are same ids = record {
  found = found_on found there;
  scan = record {
    readings = read;
    are = record { sizes_is = sizes_are; each = are };
    answer =
        subst (λ (answer : ScanAnswer). IsFoundBy answer (found_on found there)) (sym same) (moved (decide_scan readings) found there by);
    areas = refl;
    disk_of = own_disks found.group;
    old = refl;
  };
  left = λ pv within. none_unread found whole pv;
  whole = whole.there;
  version_is =
      λ i. option_map (λ (group : Group). record { group = group; disk_of = disks_by_ids group found.disks there ids i }) found.group;
}
  where
    own_disks : (o : Option Group) → IfSome o (λ group. option_map_or (λ (g : Group). disks_of g there) o [] ≡ disks_of group there)
    own_disks None = tt
    own_disks (Some group) = refl

-- ---- a new version

-- what is known of a group that a change commits: it is the next version, or the first where none was found
abbrev pub IsNext : Option Group → Group → Type 0
IsNext None group = Unit {0}
IsNext (Some old) group = (old.id ≡ group.id) × (old.seqno < group.seqno)

no_later : (readings : List Reading) (found : Found) (group : Group) (text : List ℕ) → IsCopyOf text group [] → IsNext found.group group
    → IsSettledScan readings found → DisksGive (λ disk. GivesNoLater group text) readings
no_later readings found group text copy next (settled_none nothing none given) =
    disks_weaker (λ disk. IsNone) (λ disk. GivesNoLater group text) (λ disk. none_later group text) readings given
no_later readings found group text copy next (settled_some held parts some old_copy given all) =
    let step : (held.group.id ≡ group.id) × (held.group.seqno < group.seqno) = subst (λ (o : Option Group). IsNext o group) some next in
    let differ : held.text ≢ text =
    λ same.
    let one : held.group ≡ group =
    one_copy text held.group group held.passed [] (subst (λ (t : List ℕ). IsCopyOf t held.group held.passed) same old_copy) copy in
    let seqno : held.group.seqno ≡ group.seqno = ap (λ (g : Group). g.seqno) one in
    omega (arith, seqno, step.1)
    in
    disks_weaker (λ disk. IsNoneOr held.group held.text) (λ disk. GivesNoLater group text)
    (λ disk. older_given held.group held.text group text step.0 step.1 differ) readings given

module _ (image : Image) (sizes : List ℕ) (found : Found) (shape : HasShape found) (whole : IsWhole found) (readings : List Reading)
    (sizes_are : map (λ (d : Disk). d.sectors) found.disks ≡ sizes) (headers : SameHeaders (shapes found.disks) readings)
    (settled : IsSettledScan readings found) (group : Group) (text : List ℕ) (copy : IsCopyOf text group [])
    (next : IsNext found.group group) (placed : first_misplaced group (shapes found.disks) ≡ None)
    (there : Each (λ (pv : List ℕ × Pv). is_missing (shapes found.disks) pv ≡ false) group.pvs) (disk_of : List ℕ)
    (disks_is : disks_of group found.disks ≡ disk_of)
    (bare : List ℕ → AreaReading → Bool) (again : AllAgain image found.unread 0 (lists group) bare (Copy group text []) found.disks
    readings) where
  new_shape : IsShaped group again.read
  new_shape =
      same_shape group readings again.read (again_headers (lists group) bare (Copy group text []) readings again.read again.again)
      (same_shape group (shapes found.disks) readings headers (record { apart = shape.differ; placed = placed }))

  new_given : DisksGive (λ disk. GivesNoLater group text) again.read
  new_given =
      again_give (GivesNoLater group text) (Copy group text []) (refl, inl (refl, refl)) tt (lists group) bare readings again.read
      again.again (no_later readings found group text copy next settled)

  none_away : missing_of again.read group.pvs ≡ []
  none_away = none_missing again.read group.pvs (each_there group.pvs there)
    where
      still : (pv : List ℕ × Pv) → is_missing (shapes found.disks) pv ≡ false → is_missing again.read pv ≡ false
      still pv is =
          ap (λ (b : Bool). pv.1.missing || not b)
          (sym (same_ids pv.1.id (shapes found.disks) readings headers
          ∙ same_ids pv.1.id readings again.read (again_headers (lists group) bare (Copy group text []) readings again.read
          again.again)))
          ∙ is

      each_there : (pvs : List (List ℕ × Pv)) → Each (λ (pv : List ℕ × Pv). is_missing (shapes found.disks) pv ≡ false) pvs
          → Each (λ (pv : List ℕ × Pv). is_missing again.read pv ≡ false) pvs
      each_there [] all = tt
      each_there (pv ∷ pvs) all = (still pv all.0, each_there pvs all.1)

  abbrev new_version : Version
  new_version = record { group = group; disk_of = disk_of }

  abbrev found_anew : Finds again.read group text → Found
  found_anew f = record {
    group = Some f.held.group;
    text = Some f.held.text;
    unknown = f.held.passed;
    disks = again.there;
    areas = held_areas 0 again.there;
    stale = f.stale;
    strays = set.from_list f.strays;
    old = old_of (Some f.held.group) again.there;
    missing = f.missing;
    disk_of = disks_of f.held.group again.there;
    unread = found.unread;
  }

  of_finds : Finds again.read group text → FindsVersion sizes image none_out (Some new_version)
  of_finds f =
      let parts : IsFoundWith again.read f.held f.stale f.strays f.missing =
      found_parts again.read f.held f.stale f.strays f.missing f.is in
      let version : Group → Version = λ g. record { group = g; disk_of = disks_of g again.there } in
      record {
        found = found_anew f;
        scan = record {
          readings = again.read;
          are = record { sizes_is = again.sizes_is ∙ sizes_are; each = again.are };
          answer = subst (λ (answer : ScanAnswer). IsFoundBy answer (found_anew f)) (sym f.is) (refl, refl, refl, refl, refl, refl);
          areas = refl;
          disk_of = refl;
          old = refl;
        };
        left = λ pv within. none_unread found whole pv;
        whole = sym parts.missing_are ∙ ap (λ (g : Group). missing_of again.read g.pvs) f.group_is ∙ none_away;
        version_is =
            ap (λ (g : Group). Some (version g)) f.group_is
            ∙ ap (λ (l : List ℕ). Some (record { group = group; disk_of = l }))
            (disks_by_ids group found.disks again.there again.ids ∙ disks_is);
      }

  -- where the new text is held, the new version is found
  pub new_found : is_held group text again.read ≡ true → FindsVersion sizes image none_out (Some new_version)
  new_found held = of_finds (finds_newest group text again.read new_shape new_given held)

-- where no area was cleared, and else the one that was found before
pub either_found : (image : Image) (sizes : List ℕ) (found : Found) (shape : HasShape found) (whole : IsWhole found)
    (readings : List Reading) (sizes_are : map (λ (d : Disk). d.sectors) found.disks ≡ sizes)
    (headers : SameHeaders (shapes found.disks) readings)
    (settled : IsSettledScan readings found) (group : Group) (text : List ℕ) (copy : IsCopyOf text group [])
    (next : IsNext found.group group) (placed : first_misplaced group (shapes found.disks) ≡ None)
    (there : Each (λ (pv : List ℕ × Pv). is_missing (shapes found.disks) pv ≡ false) group.pvs) (disk_of : List ℕ)
    (disks_is : disks_of group found.disks ≡ disk_of)
    → (again : AllAgain image found.unread 0 (lists group) (λ id r. false) (Copy group text []) found.disks readings)
    → IsFoundBy (decide_scan readings) found
    → FindsVersion sizes image none_out (version_in found)
    ⊎ FindsVersion sizes image none_out (Some (record { group = group; disk_of = disk_of }))
either_found image sizes found shape whole readings sizes_are headers settled group text copy next placed there disk_of disks_is again by =
    ⊎_elim
    (λ held. inr (new_found image sizes found shape whole readings sizes_are headers settled group text copy next placed there disk_of
    disks_is (λ id r. false) again held))
    (λ same. inl (same_version image sizes found whole readings by again.there again.read (again.sizes_is ∙ sizes_are) again.are
    (ap decide_scan same) again.ids))
    (held_or_same group text [] readings again.read again.again)
