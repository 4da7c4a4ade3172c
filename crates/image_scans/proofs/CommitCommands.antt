-- The lines that commit a group: vgcreate where none was found, vgextend and those of a next version where one was.
use Rattle.std.proofs.Common.{◌≡◌, ◌≤◌, ℕ, ◌<◌, ◌%◌, ◌^◌, false, List, [], ◌∷◌, ◌++◌, map, Option, Some, None, refl, sym, ap, subst, ◌∙◌}
use Rattle.std.proofs.Common.{arith}
use Rattle.std.specs.Prelude.{IfSome, IsSomeAnd, slice_index, unwrap_or}
use Rattle.std.specs.Ordering.{nat_cmp}
use Rattle.std.specs.FinSet as set
use Rattle.std.specs.List.{AllByRecursion as Each, remove}
use Rattle.std.proofs.lemmas.List.Elements.{All-from_recursion, recursion_from_All}
use Rattle.std.specs.Option.{option_map_or}
use Rattle.std.proofs.lemmas.Option.{same_Some}
use Rattle.sector_base.specs.declared.spans.Span.{Span}
use Rattle.lvm_id.specs.LvmId.{IsId}
use Rattle.lvm_name.specs.Names.{group_name_refusal}
use Rattle.line_answers.specs.declared.op_refusal.OpRefusal.{OpRefusal}
use Rattle.line_answers.specs.declared.op_refusal.OpRefusal.TheVariants.{GroupStands, UnknownGroup}
use Rattle.meta_model.specs.Standing.{HasTree}
use Rattle.meta_model.specs.declared.group.Group.{Group}
use Rattle.meta_model.specs.declared.pv.Pv.{Pv}
use Rattle.volume_rules.specs.Rules.{IsAccepted}
use Rattle.scan_rules.specs.Decision.{Reading}
use Rattle.scan_rules.specs.Found.{is_missing, missing_of}
use Rattle.vg_found.specs.declared.found.Found.{Found}
use Rattle.vg_found.specs.Disks.{disk_with, disks_of, shapes}
use Rattle.vg_found.specs.Shape.{HasShape}
use Rattle.vg_found.specs.Whole.{IsWhole as FoundIsWhole}
use Rattle.group_edits.proofs.Whole.{IsWhole}
use Rattle.group_edits.proofs.ReducedRules.{all_without, map-remove}
use Rattle.group_edits.specs.ReducedGroup.{reduced_group}
use Rattle.group_edits.specs.NextVersion.{next_version}
use Rattle.group_plan.specs.Added.{added_of}
use Rattle.group_plan.specs.Committing.{version_change_on}
use Rattle.group_plan.specs.Judging.{first_refusal, set_of, unknown_row}
use Rattle.group_plan.specs.NewGroup.{change_with, extended, text_row}
use Rattle.group_plan.specs.State.{IsState}
use Rattle.group_plan.specs.declared.state.Change.{Change}
use Rattle.group_plan.specs.declared.state.GroupState.{GroupState}
use Rattle.group_plan.proofs.Chained.{back_passes, front_passes}
use Rattle.group_plan.specs.declared.backup.Backup.{Backup}
use Rattle.vg_plans.proofs.Accepted.{created, next_is_whole}
use Rattle.vg_plans.proofs.Leaving.{LeavesNext}
use Rattle.vg_plans.specs.Vgcreate.{create_rows, empty_group, new_rows}
use Rattle.vg_plans.specs.Vgextend.{extend_rows, found_rows, group_rows}
use Rattle.group_ops.proofs.NextVersions.{CommitsNext, version_is}
use Rattle.group_ops.specs.Laws.{state_in}
use Rattle.vg_change.proofs.Sound.{version_on}
use Rattle.image_scans.proofs.Again.{all_there}
use Rattle.image_scans.proofs.CommitScans.{IsNext}
use Rattle.image_scans.proofs.CommittedGroup.{MakesGroup}
use Rattle.image_scans.proofs.Makes.{makes_group}
use Rattle.image_scans.proofs.SettledBase.{IsSettledScan, copy_tree, settled_none, settled_some}

-- the change commits this group, which is the next version or the first
pub record Commits (found : Found) (state : GroupState) (change : Change) : Type 0 where
  pub group : Group
  pub makes : MakesGroup state change group
  pub next : IsNext found.group group

-- ---- vgcreate

id_is : (id : Option (List ℕ)) → IsSomeAnd id IsId → IsId (unwrap_or id [])
id_is None is = absurd is
id_is (Some id) is = is

create_none : (state : GroupState) (base : Group) (names : List (List ℕ)) (now : ℕ) → first_refusal (new_rows state base names now) ≡ None
    → first_refusal (create_rows state base (added_of state names)) ≡ None
create_none state base names now none =
    let rows : List (Option OpRefusal) = create_rows state base (added_of state names) in
    let last : List (Option OpRefusal) = text_row state base [] (added_of state names) now ∷ [] in
    back_passes rows last (front_passes (unknown_row state names ∷ []) (rows ++ last) none)

create_by : (state : GroupState) (base : Group) (names : List (List ℕ)) (now : ℕ) (o : Option Group)
    → first_refusal (option_map_or (λ (group : Group). Some (GroupStands group.name) ∷ []) o (new_rows state base names now)) ≡ None
    → (o ≡ None) × (first_refusal (new_rows state base names now) ≡ None)
create_by state base names now None none = (refl, none)
create_by state base names now (Some group) none = absurd cc

pub vgcreate_commits : (found : Found) (names : List (List ℕ)) (backup : Option Backup) → IsState (state_in found names backup)
    → (id : Option (List ℕ)) (vg : List ℕ) (extent_size : ℕ) (pvs : List (List ℕ)) (now : ℕ)
    → IsSomeAnd id IsId × (group_name_refusal vg ≡ None) × (8 ≤ extent_size) × (extent_size ≤ 2 ^ 31) × (extent_size % 8 ≡ 0)
    → first_refusal (option_map_or (λ (group : Group). Some (GroupStands group.name) ∷ []) found.group
    (new_rows (state_in found names backup) (empty_group (unwrap_or id []) vg extent_size) pvs now)) ≡ None
    → Commits found (state_in found names backup)
    (change_with (empty_group (unwrap_or id []) vg extent_size) [] (added_of (state_in found names backup) pvs))
vgcreate_commits found names backup is id vg extent_size pvs now planned none =
    let state : GroupState = state_in found names backup in
    let base : Group = empty_group (unwrap_or id []) vg extent_size in
    let parts = create_by state base pvs now found.group none in
    let whole : IsWhole (extended base (added_of state pvs)) =
    created state is (unwrap_or id []) vg extent_size pvs (id_is id planned.0) planned.1 planned.2 planned.3 planned.4
    (create_none state base pvs now parts.1)
    in
    record {
      group = extended base (added_of state pvs);
      makes = makes_group state is base [] pvs (record { disks_is = refl; there = tt }) whole;
      next = subst (λ (o : Option Group). IsNext o (extended base (added_of state pvs))) (sym parts.0) tt;
    }

-- ---- vgextend

-- the group that was found keeps the rules, and a tree stands for it
pub old_whole : (readings : List Reading) (found : Found) → IsSettledScan readings found → (group : Group) → found.group ≡ Some group
    → IsAccepted group × HasTree group
old_whole readings found (settled_none nothing none given) group is =
    absurd (let e : ◌≡◌ {A = Option Group} None (Some group) = sym none ∙ is in cc)
old_whole readings found (settled_some held parts some copy given all) group is =
    let same : held.group ≡ group = same_Some held.group group (sym some ∙ is) in
    subst (λ (g : Group). IsAccepted g × HasTree g) same (copy.accepted, copy_tree held.text held.group held.passed copy)

extend_by : (state : GroupState) (vg : List ℕ) (names : List (List ℕ)) (now : ℕ) (o : Option Group)
    → first_refusal (option_map_or (found_rows state vg names now) o (Some (UnknownGroup vg) ∷ [])) ≡ None
    → (group : Group) × (o ≡ Some group) × (first_refusal (found_rows state vg names now group) ≡ None)
extend_by state vg names now None none = absurd cc
extend_by state vg names now (Some group) none = (group, refl, none)

extend_none : (state : GroupState) (vg : List ℕ) (names : List (List ℕ)) (now : ℕ) (group : Group)
    → first_refusal (found_rows state vg names now group) ≡ None → first_refusal (extend_rows state group (added_of state names)) ≡ None
extend_none state vg names now group none =
    let rows : List (Option OpRefusal) = extend_rows state group (added_of state names) in
    let last : List (Option OpRefusal) = text_row state (next_version group) state.disk_of (added_of state names) now ∷ [] in
    back_passes rows last (front_passes (group_rows group vg ++ unknown_row state names ∷ []) (rows ++ last) none)

pub none_missing_of : (found : Found) → HasShape found → FoundIsWhole found → (group : Group) → found.group ≡ Some group
    → missing_of (shapes found.disks) group.pvs ≡ []
none_missing_of found shape whole group is =
    sym (subst (λ (o : Option Group). IfSome o (λ g. found.missing ≡ missing_of (shapes found.disks) g.pvs)) is shape.missing) ∙ whole.there

pub vgextend_commits : (found : Found) (names : List (List ℕ)) (backup : Option Backup) → HasShape found → FoundIsWhole found
    → IsState (state_in found names backup) → (readings : List Reading) → IsSettledScan readings found
    → (vg : List ℕ) (pvs : List (List ℕ)) (now : ℕ) (group : Group)
    → found.group ≡ Some group → first_refusal (found_rows (state_in found names backup) vg pvs now group) ≡ None
    → Commits found (state_in found names backup)
    (change_with (next_version group) found.disk_of (added_of (state_in found names backup) pvs))
unfolding extended
vgextend_commits found names backup shape whole is readings settled vg pvs now group there none =
    let state : GroupState = state_in found names backup in
    let listed : found.disk_of ≡ disks_of group found.disks =
    subst (λ (o : Option Group). IfSome o (λ g. found.disk_of ≡ disks_of g found.disks)) there shape.disk_of in
    let old = old_whole readings found settled group there in
    let good : IsWhole (extended (next_version group) (added_of state pvs)) =
    next_is_whole state is group pvs listed old.0 old.1 (extend_none state vg pvs now group none) in
    record {
      group = extended (next_version group) (added_of state pvs);
      makes =
          makes_group state is (next_version group) found.disk_of pvs
          (record {
            disks_is = sym listed;
            there = all_there (shapes found.disks) group.pvs
                (none_missing_of found shape whole group there);
          }) good;
      next = subst (λ (o : Option Group). IsNext o (extended (next_version group) (added_of state pvs))) (sym there) (refl, omega arith);
    }

-- ---- the next version, on the disks of the group

-- whatever sectors are to hold zeros before, and whatever disks are cleared behind
with_others : (state : GroupState) (change : Change) (spans : List Span) (cleared : set.FinSet nat_cmp) (group : Group)
    → MakesGroup state change group → MakesGroup state (record change { zero = spans; cleared = cleared }) group
with_others state change spans cleared group m = record {
  made = m.made;
  there = m.there;
  whole = m.whole;
  first = m.first;
  all = m.all;
  labels_is = m.labels_is;
  disk_of_is = m.disk_of_is;
  on = m.on;
  listed = m.listed;
  disks_is = m.disks_is;
}

pub next_commits : (found : Found) (names : List (List ℕ)) (backup : Option Backup) → HasShape found → FoundIsWhole found
    → IsState (state_in found names backup) → (readings : List Reading) → IsSettledScan readings found → (change : Change) (now : ℕ)
    → now < 2 ^ 48
    → CommitsNext (state_in found names backup) change now → Commits found (state_in found names backup) change
unfolding extended
next_commits found names backup shape whole is readings settled change now time made =
    let state : GroupState = state_in found names backup in
    let there : found.group ≡ Some made.old = made.there in
    let listed : found.disk_of ≡ disks_of made.old found.disks =
    subst (λ (o : Option Group). IfSome o (λ g. found.disk_of ≡ disks_of g found.disks)) there shape.disk_of in
    let old = old_whole readings found settled made.old there in
    let pvs : disks_of made.next found.disks ≡ disks_of made.old found.disks =
    ap (λ (l : List (List ℕ × Pv)). map (λ (pv : List ℕ × Pv). disk_with found.disks pv.1.id) l) made.same_pvs in
    let present : missing_of (shapes found.disks) made.next.pvs ≡ [] =
    ap (missing_of (shapes found.disks)) made.same_pvs ∙ none_missing_of found shape whole made.old there in
    let makes : MakesGroup state (change_with made.next found.disk_of (added_of state [])) (extended made.next (added_of state [])) =
    makes_group state is made.next found.disk_of []
    (record { disks_is = pvs ∙ sym listed; there = all_there (shapes found.disks) made.next.pvs present })
    (made.whole is old.0 old.1 time)
    in
    subst (Commits found state) (version_is state made.zero made.next ∙ sym made.change_is)
    (record {
      group = extended made.next (added_of state []);
      makes =
          with_others state (change_with made.next found.disk_of (added_of state [])) made.zero set.empty
          (extended made.next (added_of state [])) makes;
      next = subst (λ (o : Option Group). IsNext o made.next) (sym there) (sym made.same_id, omega (arith, made.next_seqno));
    })

-- ---- the next version without one of the physical volumes

pub leaves_commits : (found : Found) (names : List (List ℕ)) (backup : Option Backup) → HasShape found → FoundIsWhole found
    → IsState (state_in found names backup) → (readings : List Reading) → IsSettledScan readings found → (change : Change) (now : ℕ)
    → LeavesNext (state_in found names backup) change now
    → Commits found (state_in found names backup) change
unfolding extended
leaves_commits found names backup shape whole is readings settled change now left =
    let state : GroupState = state_in found names backup in
    let there : found.group ≡ Some left.old = left.there in
    let listed : found.disk_of ≡ disks_of left.old found.disks =
    subst (λ (o : Option Group). IfSome o (λ g. found.disk_of ≡ disks_of g found.disks)) there shape.disk_of in
    let old = old_whole readings found settled left.old there in
    let rest : List ℕ = remove found.disk_of left.number in
    let next : Group = reduced_group left.old left.number in
    let pvs : disks_of next found.disks ≡ rest =
    map-remove (λ (pv : List ℕ × Pv). disk_with found.disks pv.1.id) left.old.pvs left.number
    ∙ ap (λ (l : List ℕ). remove l left.number) (sym listed) in
    let IsThere : List ℕ × Pv → Type 0 = λ pv. is_missing (shapes found.disks) pv ≡ false in
    let present : Each IsThere next.pvs =
    recursion_from_All IsThere next.pvs (all_without IsThere left.old.pvs left.number
    (All-from_recursion IsThere left.old.pvs
    (all_there (shapes found.disks) left.old.pvs (none_missing_of found shape whole left.old there))))
    in
    let makes : MakesGroup state (change_with next rest (added_of state [])) (extended next (added_of state [])) =
    makes_group state is next rest [] (record { disks_is = pvs; there = present }) (left.whole is old.0 old.1)
    in
    subst (Commits found state) (sym left.change_is)
    (record {
      group = next;
      makes =
          with_others state (version_change_on rest next) [] (set_of (slice_index found.disk_of left.number ∷ [])) next
          (subst (λ (c : Change). MakesGroup state c next) (version_on state rest next) makes);
      next = subst (λ (o : Option Group). IsNext o next) (sym there) (refl, omega arith);
    })
