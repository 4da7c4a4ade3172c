-- The lines that commit the group of a text in place of the one that was found (vgcfgrestore(8)).
use Rattle.std.proofs.Common.{◌≡◌, ◌<◌, ℕ, suc, ◌+◌, Bool, true, false, ◌||◌, not, cond, List, [], ◌∷◌, length, map, Option, Some, refl}
use Rattle.std.proofs.Common.{sym, ap, subst, ◌∙◌, arith}
use Rattle.std.specs.List.{AllByRecursion as Each, list_any}
use Rattle.std.proofs.lemmas.List.Elements.{recursion_from_All}
use Rattle.meta_model.specs.Standing.{HasTree}
use Rattle.meta_model.specs.declared.group.Group.{Group}
use Rattle.meta_model.specs.declared.pv.Pv.{Pv}
use Rattle.volume_rules.specs.Rules.{IsAccepted}
use Rattle.scan_rules.specs.Decision.{Reading, has_id}
use Rattle.scan_rules.specs.Found.{is_missing}
use Rattle.vg_found.specs.Disks.{disk_shape, disk_with, disks_of, has_header_id, header_on, shapes}
use Rattle.vg_found.specs.declared.disk.Disk.{Disk}
use Rattle.vg_found.specs.declared.found.Found.{Found}
use Rattle.group_edits.specs.RestoredGroup.{found_pv, restored_group}
use Rattle.group_plan.specs.Added.{added_of}
use Rattle.group_plan.specs.NewGroup.{change_with, extended}
use Rattle.group_plan.specs.State.{IsState}
use Rattle.group_plan.specs.declared.state.Change.{Change}
use Rattle.group_plan.specs.declared.state.GroupState.{GroupState}
use Rattle.vg_plans.proofs.Restoring.{Restores}
use Rattle.vg_change.proofs.Sound.{version_on}
use Rattle.image_scans.proofs.CommitCommands.{Commits, old_whole}
use Rattle.image_scans.proofs.CommitScans.{IsNext}
use Rattle.image_scans.proofs.CommittedGroup.{MakesGroup}
use Rattle.image_scans.proofs.Makes.{has_same, makes_group}
use Rattle.image_scans.proofs.SettledBase.{IsSettledScan}

or_later : (a b : Bool) → b ≡ true → (a || b) ≡ true
or_later true b is = refl
or_later false b is = is

-- one of the disks has the id, where it finds one of them
on_held : (id : List ℕ) (disks : List Disk) → disk_with disks id < length disks → list_any (has_id id) (shapes disks) ≡ true
on_held id [] within = absurd (omega (arith, within))
on_held id (disk ∷ disks) within = by (on_held id disks) (has_header_id id disk) refl within where
  by : (disk_with disks id < length disks → list_any (has_id id) (shapes disks) ≡ true) → (b : Bool) → has_header_id id disk ≡ b
      → cond b 0 (disk_with disks id + 1) < suc (length disks)
      → (has_id id (disk_shape disk) || list_any (has_id id) (shapes disks)) ≡ true
  by rest true here within = ap (λ (b : Bool). b || list_any (has_id id) (shapes disks)) (has_same id (header_on disk.contents) ∙ here)
  by rest false here within = or_later (has_id id (disk_shape disk)) (list_any (has_id id) (shapes disks)) (rest (omega (arith, within)))

-- no physical volume of the restored group is missing
all_present : (disks : List Disk) (pvs : List (List ℕ × Pv))
    → Each (λ n. n < length disks) (map (λ (pv : List ℕ × Pv). disk_with disks pv.1.id) pvs)
    → Each (λ (pv : List ℕ × Pv). is_missing (shapes disks) pv ≡ false) (map found_pv pvs)
all_present disks [] within = tt
all_present disks (pv ∷ pvs) within = (ap not (on_held pv.1.id disks within.0), all_present disks pvs within.1)

-- and they are on the same disks
same_disks : (disks : List Disk) (pvs : List (List ℕ × Pv))
    → map (λ (pv : List ℕ × Pv). disk_with disks pv.1.id) (map found_pv pvs) ≡ map (λ (pv : List ℕ × Pv). disk_with disks pv.1.id) pvs
same_disks disks [] = refl
same_disks disks (pv ∷ pvs) = ap (λ (l : List ℕ). disk_with disks pv.1.id ∷ l) (same_disks disks pvs)

-- it is the next version of the group that was found
pub restores_commits : (found : Found) (state : GroupState) → IsState state → found.group ≡ state.group → (readings : List Reading)
    → IsSettledScan readings found → (change : Change) (now : ℕ) (made : Restores state change now) → IsAccepted made.said
    → HasTree made.said
    → Commits found state change
unfolding extended
restores_commits found state is same readings settled change now made accepted tree =
    let next : Group = restored_group made.old made.said in
    let disks : List ℕ = disks_of made.said state.disks in
    let there : found.group ≡ Some made.old = same ∙ made.there in
    let old = old_whole readings found settled made.old there in
    let makes : MakesGroup state (change_with next disks (added_of state [])) (extended next (added_of state [])) =
    makes_group state is next disks []
    (record {
      disks_is = same_disks state.disks made.said.pvs;
      there = all_present state.disks made.said.pvs (recursion_from_All (λ n. n < length state.disks) disks (made.listed is));
    })
    (made.whole old.0 accepted tree)
    in
    subst (Commits found state) (sym made.change_is)
    (record {
      group = next;
      makes = subst (λ (c : Change). MakesGroup state c next) (version_on state disks next) makes;
      next = subst (λ (o : Option Group). IsNext o next) (sym there) (sym made.same_id, omega arith);
    })
