-- Where one quiet disk differs, the version that was found is found again.
use Rattle.std.proofs.Common.{◌≡◌, ◌<◌, ℕ, Bool, List, [], ◌∷◌, length, map, Option, Some, None, IfSome, inl, refl, sym, ap, subst, ◌∙◌}
use Rattle.std.specs.Prelude.{option_map}
use Rattle.std.specs.FinSet as set
use Rattle.std.specs.List.{AllByRecursion as Each}
use Rattle.std.specs.Ordering.{nat_cmp}
use Rattle.disk_model.specs.Steps.{Image}
use Rattle.meta_model.specs.declared.group.Group.{Group}
use Rattle.meta_model.specs.declared.pv.Pv.{Pv}
use Rattle.scan_rules.specs.Decision.{AreaReading, Conflict, DuplicatePv, FoundGroup, NoCopy, NoGroup, PvShape, TwoGroups, Unsupported}
use Rattle.scan_rules.specs.Decision.{GivesNoLater, HasShape as IsShaped, HoldsNone, Copy, Refused, Reading, ScanAnswer, decide_scan}
use Rattle.scan_rules.specs.Decision.{first_duplicate, ids_from}
use Rattle.scan_rules.specs.Found.{missing_of}
use Rattle.vg_found.specs.declared.disk.Disk.{Disk}
use Rattle.vg_found.specs.declared.found.Found.{Found}
use Rattle.vg_found.specs.Disks.{disk_with, disks_of, held_areas, old_of}
use Rattle.vg_scan.specs.Readings.{AreDiskReadings}
use Rattle.vg_scan.specs.Scans.{IsFoundBy}
use Rattle.vg_scan.specs.Versions.{FindsVersion, Version, version_in}
use Rattle.image_scans.proofs.Again.{Finds, finds_newest}
use Rattle.image_scans.proofs.Decided.{HasNothing, IsFoundWith, found_parts, nothing_found}
use Rattle.image_scans.proofs.AreaReadings.{DisksGive, IsNone, copies_none, disks_weaker, refusals_none}
use Rattle.image_scans.proofs.Quiet.{ButQuiet, quiet_give, quiet_held, quiet_missing, quiet_placed}
use Rattle.image_scans.proofs.SettledBase.{IsNoneOr, IsSettledScan, settled_none, settled_some}

same_given : (group : Group) (text : List ℕ) (r : AreaReading) → IsNoneOr group text r → GivesNoLater group text r
same_given group text HoldsNone is = tt
same_given group text (Copy other others passed) is = (ap (λ (g : Group). g.id) is.0, inl is)
same_given group text (Refused why) is = absurd is

none_given : (group : Group) (text : List ℕ) (r : AreaReading) → IsNone r → GivesNoLater group text r
none_given group text r is = subst (GivesNoLater group text) (sym is) tt

-- the disks of a group's physical volumes are found by their ids
pub disks_same : (disks there : List Disk) (pvs : List (List ℕ × Pv))
    → Each (λ (pv : List ℕ × Pv). disk_with there pv.1.id ≡ disk_with disks pv.1.id) pvs
    → map (λ (pv : List ℕ × Pv). disk_with there pv.1.id) pvs ≡ map (λ (pv : List ℕ × Pv). disk_with disks pv.1.id) pvs
disks_same disks there [] all = refl
disks_same disks there (pv ∷ pvs) all = λ i. all.0 i ∷ disks_same disks there pvs all.1 i

-- the ids of the group that was found are found on the same disks
abbrev pub SameDisks : Option Group → List Disk → List Disk → Type 0
SameDisks None disks there = Unit {0}
SameDisks (Some group) disks there = Each (λ (pv : List ℕ × Pv). disk_with there pv.1.id ≡ disk_with disks pv.1.id) group.pvs

module _ (image : Image) (sizes : List ℕ) (found : Found) (none_missing : found.missing ≡ []) (readings : List Reading)
    (by : IsFoundBy (decide_scan readings) found) (unread : set.FinSet nat_cmp) (left_out : ℕ → Bool)
    (left : (pv : ℕ) → pv < length sizes → set.contains unread pv ≡ left_out pv) (there : List Disk) (read : List Reading)
    (sizes_are : map (λ (d : Disk). d.sectors) there ≡ sizes) (are : AreDiskReadings image unread 0 there read)
    (quiet : ButQuiet found.group readings read) (apart : first_duplicate (ids_from 0 read) ≡ None)
    (same : SameDisks found.group found.disks there) where
  -- what was found, of these disks
  abbrev found_there : Found
  found_there = record found { disks = there; areas = held_areas 0 there; unread = unread; old = old_of found.group there }

  -- no group
  of_none : HasNothing readings → found.group ≡ None → DisksGive (λ disk. IsNone) readings
      → FindsVersion sizes image left_out (version_in found)
  of_none nothing none given =
      let all : DisksGive (λ disk. IsNone) read = quiet_give IsNone (λ r is. is) found.group readings read quiet given in
      let now : HasNothing read = record { apart = apart; no_copies = copies_none read all; no_refusals = refusals_none read all } in
      let answer : decide_scan read ≡ decide_scan readings = nothing_found read now ∙ sym (nothing_found readings nothing) in
      record {
        found = found_there;
        scan = record {
          readings = read;
          are = record { sizes_is = sizes_are; each = are };
          answer =
              subst (λ (a : ScanAnswer). IsFoundBy a found_there) (sym answer) (moved_to (decide_scan readings) by);
          areas = refl;
          disk_of = subst (λ (o : Option Group). IfSome o (λ group. found.disk_of ≡ disks_of group there)) (sym none) tt;
          old = refl;
        };
        left = left;
        whole = none_missing;
        version_is =
            ap (λ (o : Option Group). option_map (λ (g : Group). record { group = g; disk_of = disks_of g there }) o) none
            ∙ sym (ap (λ (o : Option Group). option_map (λ (g : Group). record { group = g; disk_of = disks_of g found.disks }) o)
            none);
      }
    where
      moved_to : (answer : ScanAnswer) → IsFoundBy answer found
          → IsFoundBy answer found_there
      moved_to (FoundGroup held stale strays missing) b = b
      moved_to NoGroup b = b
      moved_to (DuplicatePv x y) b = absurd b
      moved_to (NoCopy rs) b = absurd b
      moved_to (Unsupported pv) b = absurd b
      moved_to (TwoGroups x y) b = absurd b
      moved_to (Conflict x y seqno) b = absurd b
      moved_to (PvShape pv) b = absurd b

  -- a group that was found
  module _ (group : Group) (text : List ℕ) (is_group : found.group ≡ Some group) where
    but : ButQuiet (Some group) readings read
    but = subst (λ (o : Option Group). ButQuiet o readings read) is_group quiet

    abbrev found_anew : Finds read group text → Found
    found_anew f = record {
      group = Some f.held.group;
      text = Some f.held.text;
      unknown = f.held.passed;
      disks = there;
      areas = held_areas 0 there;
      stale = f.stale;
      strays = set.from_list f.strays;
      old = old_of (Some f.held.group) there;
      missing = f.missing;
      disk_of = disks_of f.held.group there;
      unread = unread;
    }

    of_finds : missing_of readings group.pvs ≡ [] → Finds read group text → FindsVersion sizes image left_out (version_in found)
    of_finds all_there f =
        let parts : IsFoundWith read f.held f.stale f.strays f.missing = found_parts read f.held f.stale f.strays f.missing f.is in
        let version : Group → Version = λ g. record { group = g; disk_of = disks_of g there } in
        let disks : disks_of group there ≡ disks_of group found.disks =
        disks_same found.disks there group.pvs (subst (λ (o : Option Group). SameDisks o found.disks there) is_group same) in
        record {
          found = found_anew f;
          scan = record {
            readings = read;
            are = record { sizes_is = sizes_are; each = are };
            answer = subst (λ (a : ScanAnswer). IsFoundBy a (found_anew f)) (sym f.is) (refl, refl, refl, refl, refl, refl);
            areas = refl;
            disk_of = refl;
            old = refl;
          };
          left = left;
          whole =
              sym parts.missing_are ∙ ap (λ (g : Group). missing_of read g.pvs) f.group_is
              ∙ quiet_missing group readings read but all_there;
          version_is =
              ap (λ (g : Group). Some (version g)) f.group_is ∙ ap (λ (l : List ℕ). Some (record { group = group; disk_of = l })) disks
              ∙ sym (ap (λ (o : Option Group). option_map (λ (g : Group). record { group = g; disk_of = disks_of g found.disks }) o)
              is_group);
        }

  pub quiet_version : IsSettledScan readings found → FindsVersion sizes image left_out (version_in found)
  quiet_version (settled_none nothing none given) = of_none nothing none given
  quiet_version (settled_some held parts some copy given all) =
      let shape : IsShaped held.group read =
      record { apart = apart; placed = quiet_placed held.group readings read (but held.group held.text some) parts.placed } in
      let no_later : DisksGive (λ disk. GivesNoLater held.group held.text) read =
      quiet_give (GivesNoLater held.group held.text) (none_given held.group held.text) found.group readings read quiet
      (disks_weaker (λ disk. IsNoneOr held.group held.text) (λ disk. GivesNoLater held.group held.text)
      (λ disk. same_given held.group held.text) readings given)
      in
      of_finds held.group held.text some (parts.missing_are ∙ none_missing)
      (finds_newest held.group held.text read shape no_later
      (quiet_held held.group held.text readings read (but held.group held.text some) parts.is_held_is))
