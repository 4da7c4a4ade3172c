-- What a scan finds once a repair is done: what the repair hands on.
use Rattle.std.proofs.Common.{◌≡◌, ◌↔◌, ℕ, true, List, [], Option, Some, refl, sym, ap, subst, ◌∙◌}
use Rattle.std.specs.FinSet as set
use Rattle.std.specs.List.{Contains}
use Rattle.std.specs.Ordering.{nat_cmp}
use Rattle.conf_text.proofs.Causes.{one_tree}
use Rattle.conf_text.specs.Grammar.{IsTextOf}
use Rattle.disk_batch.specs.InTurn.{HasFirstBatches, Put, with_batches}
use Rattle.disk_model.specs.Steps.{Image}
use Rattle.meta_model.specs.PassedOver.{passed_over}
use Rattle.meta_model.specs.declared.group.Group.{Group}
use Rattle.scan_rules.specs.Decision.{AreaReading, Conflict, Copy, DuplicatePv, FoundGroup, Held, NoCopy, NoGroup, PvShape, Reading}
use Rattle.scan_rules.specs.Decision.{ScanAnswer, TwoGroups, Unsupported, decide_scan, gives}
use Rattle.scan_rules.specs.Found.{missing_of}
use Rattle.scan_rules.specs.Laws.{IsStale, IsStray}
use Rattle.scan_rules.proofs.Repairs.{stale_exact, strays_exact}
use Rattle.scan_rules.proofs.Scanning.{same_bytes_to}
use Rattle.vg_found.specs.Disks.{old_of}
use Rattle.vg_found.specs.declared.disk.Disk.{Disk}
use Rattle.vg_found.specs.declared.found.Found.{Found}
use Rattle.vg_scan.specs.Readings.{AreReadings}
use Rattle.vg_scan.specs.Scans.{IsFoundBy, IsScanOf}
use Rattle.vg_scan.specs.Texts.{IsCopyOf}
use Rattle.vg_repair.specs.Batches.{repair_batches}
use Rattle.vg_repair.specs.Repaired.{repaired_of}
use Rattle.vg_repair.specs.Stale.{text_of}
use Rattle.vg_repair.proofs.Nothing.{leaves_all}
use Rattle.vg_repair.proofs.RepairedOld.{none_old}
use Rattle.vg_repair.proofs.RepairedShape.{disks_kept, numbers_kept}
use Rattle.repair_scans.specs.Laws.{CanRepair}
use Rattle.image_scans.proofs.Again.{Finds}
use Rattle.image_scans.proofs.CommitLine.{all_written}
use Rattle.image_scans.proofs.Decided.{IsFoundWith, found_parts}
use Rattle.image_scans.proofs.DiskAgain.{AllAgain}
use Rattle.image_scans.proofs.AreaReadings.{best_copy_has}
use Rattle.image_scans.proofs.SettledBase.{IsItsCopy, copies_are}
use Rattle.repair_scans.proofs.RepairFound.{again, copy, finds, none_away, text_is}
use Rattle.repair_scans.proofs.RepairOnTheWay.{may_be_lost}
use Rattle.repair_scans.proofs.RepairedDisks.{disks_repaired}
use Rattle.repair_scans.proofs.RepairedReadings.{no_member, none_stale, none_stray, readings_after}
use Rattle.repair_scans.proofs.StraysApart.{unlisted}

-- disks are read in one way
abbrev pub OneReading : Type 0
OneReading =
    (image : Image) (sizes : List ℕ) (unread : set.FinSet nat_cmp) (ds es : List Disk) (xs ys : List Reading)
    → AreReadings image sizes unread ds xs → AreReadings image sizes unread es ys → xs ≡ ys

-- a text has one list of keys that are passed over
one_passed : (text other : List ℕ) (a b : Group) (p q : List (List ℕ)) → other ≡ text → IsCopyOf text a p → IsCopyOf other b q → p ≡ q
one_passed text other a b p q same is is' =
    let tree : is.tree ≡ is'.tree =
    one_tree text is.tree is'.tree is.is_text (subst (λ (t : List ℕ). IsTextOf t is'.tree) same is'.is_text) in
    is.passed_is ∙ ap passed_over tree ∙ sym is'.passed_is

module _ (one_reading : OneReading) (base : Image) (sizes : List ℕ) (found : Found) (p : CanRepair base sizes found) where
  abbrev readings : List Reading
  readings = p.scan.readings

  abbrev last : Image
  last = with_batches (repair_batches found) base

  whole : HasFirstBatches (repair_batches found) base last
  whole = all_written (repair_batches found) base

  module _ (held : Held) (stale : List (ℕ × ℕ)) (strays : List ℕ) (missing : List (List ℕ))
      (is : decide_scan readings ≡ FoundGroup held stale strays missing) (by : IsFoundBy (FoundGroup held stale strays missing) found) where
    abbrev new : AreaReading
    new = Copy held.group (text_of found) held.passed

    abbrev after : List Reading
    after = readings_after found.stale found.strays new readings

    own_copy : IsCopyOf (text_of found) held.group held.passed
    own_copy = copy base sizes found p held stale strays missing is by last whole

    text_same : text_of found ≡ held.text
    text_same = text_is base sizes found p held stale strays missing is by last whole

    abbrev there : AllAgain last found.unread 0 (λ id. true) (may_be_lost held.group (text_of found)) new found.disks readings
    there = again base sizes found p held stale strays missing is by last whole

    abbrev answer : Finds there.read held.group held.text
    answer = finds base sizes found p held stale strays missing is by last whole

    are : AreReadings last sizes found.unread (repaired_of found).disks after
    are =
        disks_repaired base sizes found p held.group held.passed own_copy
        (unlisted base sizes found p.scan held stale strays missing is by.4)

    same_readings : there.read ≡ after
    same_readings =
        one_reading last sizes found.unread there.there (repaired_of found).disks there.read after
        (record { sizes_is = there.sizes_is ∙ p.scan.are.sizes_is; each = there.are }) are

    decides : decide_scan after ≡ FoundGroup answer.held answer.stale answer.strays answer.missing
    decides = ap decide_scan (sym same_readings) ∙ answer.is

    parts : IsFoundWith there.read answer.held answer.stale answer.strays answer.missing
    parts = found_parts there.read answer.held answer.stale answer.strays answer.missing answer.is

    -- ---- nothing is stale, no disk is a stray, and none is missing

    gives_new : gives held.text new ≡ true
    gives_new = same_bytes_to (text_of found) held.text text_same

    are_stale : (disk area : ℕ) → Contains found.stale (disk, area) ↔ IsStale held.group held.text readings disk area
    are_stale disk area =
        subst (λ (l : List (ℕ × ℕ)). Contains l (disk, area) ↔ IsStale held.group held.text readings disk area) (sym by.3)
        (stale_exact readings held stale strays missing is disk area)

    are_strays : (disk : ℕ) → Contains strays disk ↔ IsStray held.group readings disk
    are_strays = strays_exact readings held stale strays missing is

    stale_none : answer.stale ≡ []
    stale_none =
        no_member answer.stale
        (λ area has.
        let s : IsStale answer.held.group answer.held.text after area.0 area.1 =
        (stale_exact after answer.held answer.stale answer.strays answer.missing decides area.0 area.1).0 has in
        none_stale found.stale found.strays new held.group held.text readings gives_new are_stale strays by.4 are_strays area.0 area.1
        (subst (λ (t : List ℕ). IsStale held.group t after area.0 area.1) answer.text_is
        (subst (λ (g : Group). IsStale g answer.held.text after area.0 area.1) answer.group_is s)))

    strays_none : answer.strays ≡ []
    strays_none =
        no_member answer.strays
        (λ disk has.
        let s : IsStray answer.held.group after disk =
        (strays_exact after answer.held answer.stale answer.strays answer.missing decides disk).0 has in
        none_stray found.stale found.strays new held.group held.text readings gives_new are_stale strays by.4 are_strays disk
        (subst (λ (g : Group). IsStray g after disk) answer.group_is s))

    missing_none : answer.missing ≡ []
    missing_none =
        sym parts.missing_are ∙ ap (λ (g : Group). missing_of there.read g.pvs) answer.group_is
        ∙ none_away base sizes found p held stale strays missing is by last whole

    passed_same : held.passed ≡ answer.held.passed
    passed_same =
        one_passed (text_of found) answer.held.text held.group answer.held.group held.passed answer.held.passed
        (answer.text_is ∙ sym text_same) own_copy
        (best_copy_has IsItsCopy there.read (copies_are last found.unread 0 there.there there.read there.are) answer.held parts.best_is)

    of_group : IsScanOf last sizes (repaired_of found)
    of_group = record {
      readings = after;
      are = are;
      answer =
          subst (λ (a : ScanAnswer). IsFoundBy a (repaired_of found)) (sym decides) (
            by.0 ∙ ap (λ (g : Group). Some g) (sym answer.group_is),
            by.1 ∙ ap (λ (t : List ℕ). Some t) (sym answer.text_is),
            by.2 ∙ passed_same,
            sym stale_none,
            ap (λ (l : List ℕ). set.from_list l) (sym strays_none),
            p.whole.there ∙ sym missing_none,
          );
      areas = refl;
      disk_of = numbers_kept found.stale found.strays found.old (text_of found) found.group found.disk_of found.disks p.scan.disk_of;
      old =
          none_old found.stale found.strays found.old (text_of found) found.disks
          (λ group. disks_kept found.stale found.strays found.old (text_of found) group found.disks) found.group p.scan.old;
    }

  -- ---- no group was found, and nothing is written

  of_none : IsFoundBy NoGroup found → IsScanOf last sizes (repaired_of found)
  of_none by =
      let nothing = leaves_all found p.shape by.3 by.4 (p.scan.old ∙ ap (λ (o : Option Group). old_of o found.disks) by.0) in
      subst (λ (batches : List (List Put)). IsScanOf (with_batches batches base) sizes (repaired_of found)) (sym nothing.0)
      (subst (λ (f : Found). IsScanOf base sizes f) (sym nothing.1) p.scan)

  by_answer : (a : ScanAnswer) → decide_scan readings ≡ a → IsFoundBy a found → IsScanOf last sizes (repaired_of found)
  by_answer (FoundGroup held stale strays missing) is by = of_group held stale strays missing is by
  by_answer NoGroup is by = of_none by
  by_answer (DuplicatePv a b) is by = absurd by
  by_answer (NoCopy rs) is by = absurd by
  by_answer (Unsupported pv) is by = absurd by
  by_answer (TwoGroups a b) is by = absurd by
  by_answer (Conflict a b seqno) is by = absurd by
  by_answer (PvShape pv) is by = absurd by

  -- it is what the repair hands on
  pub repaired_scans : IsScanOf last sizes (repaired_of found)
  repaired_scans = by_answer (decide_scan readings) refl p.scan.answer
