-- The group that a scan found keeps all rules, and a tree stands for it.
use Rattle.std.proofs.Common.{◌≡◌, ℕ, List, Option, Some, None, refl, sym, subst, ◌∙◌}
use Rattle.std.proofs.lemmas.Option.{same_Some}
use Rattle.disk_model.specs.Steps.{Image}
use Rattle.meta_model.specs.Standing.{HasTree}
use Rattle.meta_model.specs.declared.group.Group.{Group}
use Rattle.scan_rules.specs.Decision.{Conflict, DuplicatePv, FoundGroup, NoCopy, NoGroup, PvShape, Reading, ScanAnswer, TwoGroups}
use Rattle.scan_rules.specs.Decision.{Unsupported, decide_scan}
use Rattle.volume_rules.specs.Rules.{IsAccepted}
use Rattle.vg_found.specs.declared.found.Found.{Found}
use Rattle.vg_scan.specs.Scans.{IsFoundBy, IsScanOf}
use Rattle.vg_scan.specs.Texts.{IsCopyOf}
use Rattle.image_scans.proofs.Decided.{IsFoundWith, found_parts}
use Rattle.image_scans.proofs.AreaReadings.{CopyHas, DisksGive, best_copy_has}
use Rattle.image_scans.proofs.SettledBase.{IsItsCopy, copies_are, copy_tree}

by_answer : (readings : List Reading) (found : Found) → DisksGive (λ disk. CopyHas IsItsCopy) readings → (group : Group)
    → found.group ≡ Some group → (answer : ScanAnswer) → decide_scan readings ≡ answer → IsFoundBy answer found
    → IsAccepted group × HasTree group
by_answer readings found copies group there (FoundGroup held stale strays missing) is by =
    let parts : IsFoundWith readings held stale strays missing = found_parts readings held stale strays missing is in
    let copy : IsCopyOf held.text held.group held.passed = best_copy_has IsItsCopy readings copies held parts.best_is in
    subst (λ (g : Group). IsAccepted g × HasTree g) (same_Some held.group group (sym by.0 ∙ there))
    (copy.accepted, copy_tree held.text held.group held.passed copy)
by_answer readings found copies group there NoGroup is by =
    absurd (let e : ◌≡◌ {A = Option Group} None (Some group) = sym by.0 ∙ there in cc)
by_answer readings found copies group there (DuplicatePv a b) is by = absurd by
by_answer readings found copies group there (NoCopy rs) is by = absurd by
by_answer readings found copies group there (Unsupported pv) is by = absurd by
by_answer readings found copies group there (TwoGroups a b) is by = absurd by
by_answer readings found copies group there (Conflict a b seqno) is by = absurd by
by_answer readings found copies group there (PvShape pv) is by = absurd by

pub found_group : (base : Image) (sizes : List ℕ) (found : Found) → IsScanOf base sizes found → (group : Group) → found.group ≡ Some group
    → IsAccepted group × HasTree group
found_group base sizes found scan group there =
    by_answer scan.readings found (copies_are base found.unread 0 found.disks scan.readings scan.are.each) group there
    (decide_scan scan.readings) refl scan.answer

pub found_accepted : (base : Image) (sizes : List ℕ) (found : Found) → IsScanOf base sizes found → (group : Group)
    → found.group ≡ Some group → IsAccepted group
found_accepted base sizes found scan group there = (found_group base sizes found scan group there).0
