-- The group that a line gives is accepted, where no row refuses.
use Rattle.std.proofs.Common.{◌≡◌, ◌≢◌, ◌≤◌, ◌<◌, ℕ, ◌+◌, ◌%◌, ◌^◌, Bool, true, false, not, ◌||◌, ◌==◌, cond, List, [], ◌∷◌, ◌++◌, length}
use Rattle.std.proofs.Common.{get_or, map, Option, Some, None, inl, inr, refl, sym, ap, subst, ◌∙◌, arith}
use Rattle.std.specs.Prelude.{find}
use Rattle.std.specs.List.{AllByRecursion as Each, list_any}
use Rattle.std.specs.FinSet as set
use Rattle.std.specs.Ordering.{nat_cmp}
use Rattle.std.proofs.lemmas.Bool.{cases_order, eq-eqb, true≢false}
use Rattle.std.proofs.lemmas.List.Elements.{All-from_recursion, recursion_from_All}
use Rattle.std.proofs.lemmas.Option.{get_or_from_slice_get, slice_get_within}
use Rattle.std.specs.Str.{bytes_eq}
use Rattle.lvm_id.specs.LvmId.{IsId}
use Rattle.lvm_name.specs.Names.{group_name_refusal}
use Rattle.line_answers.specs.declared.op_refusal.OpRefusal.{OpRefusal}
use Rattle.line_answers.specs.declared.op_refusal.OpRefusal.TheVariants.{IdTaken, NoArea, SeqnoEnd}
use Rattle.pv_header.proofs.Overlaps.{All-from_find}
use Rattle.mda_header.specs.declared.header.Locn.{Locn}
use Rattle.mda_ring.specs.declared.area.Area.{Area}
use Rattle.meta_model.specs.Standing.{HasTree}
use Rattle.meta_model.specs.declared.group.Group.{Group}
use Rattle.meta_model.specs.declared.lv.Lv.{Lv}
use Rattle.meta_model.specs.declared.pv.Pv.{Pv}
use Rattle.meta_print.proofs.GroupFrom.{printable}
use Rattle.meta_print.proofs.ReadAgain.{has_tree}
use Rattle.volume_rules.specs.Rules.{IsAccepted, ids_of}
use Rattle.volume_rules.specs.declared.rule.Rule.TheVariants.{Numbers, Volumes}
use Rattle.vg_found.specs.Disks.{disk_with, disks_of, has_header_id, header_on}
use Rattle.list_laws.proofs.Inserted.{none_at, none_passes}
use Rattle.group_edits.proofs.PushedPrintable.{printable_version}
use Rattle.group_edits.proofs.Whole.{IsWhole}
use Rattle.group_edits.proofs.PushedRules.{accepted_base, base_accepted, base_version}
use Rattle.group_edits.specs.NextVersion.{next_version}
use Rattle.group_plan.proofs.AddedFacts.{IsFoundOn, all_found}
use Rattle.group_plan.proofs.Disks.{disk_with_own, has_own, ids_apart}
use Rattle.group_edits.proofs.JoinedRules.{IsGood}
use Rattle.group_plan.proofs.ExtendedGroup.{AreApart, Fits, IdApart, IsFresh, count_added, good_added}
use Rattle.group_plan.proofs.Passed.{DiskApart, DisksApart, IsUnused, absent, both_false, all_fit, few_enough, all_unused, five_none}
use Rattle.group_plan.proofs.Passed.{no_map, six_none, not_same, ids_differ, each_both}
use Rattle.group_plan.proofs.StateFacts.{listed_are}
use Rattle.group_plan.specs.Added.{added_of, data_end, data_start, disks_added}
use Rattle.group_plan.specs.Ids.{has_lv_id, has_other_id}
use Rattle.group_plan.specs.Judging.{area_row, first_refusal, lies_on, many_row, refused_if, set_of, small_row, stands_on_disk, used_row}
use Rattle.group_plan.specs.NewGroup.{extended}
use Rattle.group_plan.specs.State.{IsState}
use Rattle.group_plan.specs.declared.added.AddedPv.{AddedPv}
use Rattle.group_plan.specs.declared.state.GroupState.{GroupState}
use Rattle.vg_plans.proofs.EmptyGroup.{empty_base, empty_printable}
use Rattle.vg_plans.specs.Vgcreate.{IsEmptyGroup, create_rows, empty_group}
use Rattle.vg_plans.specs.Vgextend.{extend_rows, other_id_row}

-- ---- rows

not_refused : (b : Bool) (refusal : OpRefusal) → cond b (Some refusal) None ≡ None → b ≡ false
not_refused true refusal none = absurd cc
not_refused false refusal none = refl

-- none of the rows of a new group holds
record CreatePasses (state : GroupState) (base : Group) (all : List AddedPv) : Type 0 where
  used : used_row [] all ≡ None
  areas : area_row state.areas (disks_added all) ≡ None
  sizes : small_row base.extent_size all ≡ None
  many : many_row 64 0 (length all) ≡ None
  ids : stands_on_disk base.id state.disks ≡ false

create_passes : (state : GroupState) (base : Group) (all : List AddedPv) → first_refusal (create_rows state base all) ≡ None
    → CreatePasses state base all
create_passes state base all none =
    let parts =
    five_none (used_row [] all) (area_row state.areas (disks_added all)) (small_row base.extent_size all) (many_row 64 0 (length all))
    (refused_if (stands_on_disk base.id state.disks) (IdTaken base.id)) none in
    record {
      used = parts.0;
      areas = parts.1;
      sizes = parts.2;
      many = parts.3;
      ids = not_refused (stands_on_disk base.id state.disks) (IdTaken base.id) parts.4;
    }

-- none of those of a group that is extended does
record ExtendPasses (state : GroupState) (group : Group) (all : List AddedPv) : Type 0 where
  used : used_row state.disk_of all ≡ None
  sizes : small_row group.extent_size all ≡ None
  many : many_row 64 group.max_pv (length group.pvs + length all) ≡ None
  seqno : (group.seqno == 4294967295) ≡ false
  ids : other_id_row group all ≡ None

extend_passes : (state : GroupState) (group : Group) (all : List AddedPv) → first_refusal (extend_rows state group all) ≡ None
    → ExtendPasses state group all
extend_passes state group all none =
    let parts =
    six_none (used_row state.disk_of all) (area_row state.areas (state.disk_of ++ disks_added all)) (small_row group.extent_size all)
    (many_row 64 group.max_pv (length group.pvs + length all)) (refused_if (group.seqno == 4294967295) SeqnoEnd)
    (other_id_row group all) none
    in
    record {
      used = parts.0;
      sizes = parts.2;
      many = parts.3;
      seqno = not_refused (group.seqno == 4294967295) SeqnoEnd parts.4;
      ids = parts.5;
    }

-- ---- ids

id_apart : (state : GroupState) → IsState state → (a b : AddedPv) → IsFoundOn state a → IsFoundOn state b → DiskApart a b → IdApart a b
id_apart state is a b first second apart same =
    elim (cases_order a.disk b.disk) [
      | inl equal ↦ apart (sym equal)
      | inr rest ↦ elim rest [
        | inl less ↦ ids_apart 0 state.disks is.differ a.disk b.disk first.has.disk second.has.disk a.header b.header less first.has.there
            second.has.there first.has.is second.has.is same
        | inr more ↦ ids_apart 0 state.disks is.differ b.disk a.disk second.has.disk first.has.disk b.header a.header more second.has.there
            first.has.there second.has.is first.has.is (sym same)
      ]
    ]

each_id_apart : (state : GroupState) → IsState state → (a : AddedPv) (more : List AddedPv) → IsFoundOn state a → Each (IsFoundOn state) more
    → Each (DiskApart a) more → Each (IdApart a) more
each_id_apart state is a [] first found apart = tt
each_id_apart state is a (b ∷ more) first found apart =
    (id_apart state is a b first found.0 apart.0, each_id_apart state is a more first found.1 apart.1)

ids_are_apart : (state : GroupState) → IsState state → (all : List AddedPv) → Each (IsFoundOn state) all → DisksApart all → AreApart all
ids_are_apart state is [] found apart = tt
ids_are_apart state is (a ∷ more) found apart =
    (each_id_apart state is a more found.0 found.1 apart.0, ids_are_apart state is more found.1 apart.1)

all_fits : (state : GroupState) (extent_size : ℕ) (all : List AddedPv) → Each (IsFoundOn state) all
    → Each (λ added. data_start added + extent_size ≤ data_end added) all → Each (Fits extent_size) all
all_fits state extent_size [] found fit = tt
all_fits state extent_size (added ∷ more) found fit =
    (record { is = found.0.is; fits = fit.0; id = found.0.id; content = found.0.content }, all_fits state extent_size more found.1 fit.1)

-- ---- a new group

id_is_new : (state : GroupState) (id : List ℕ) (added : AddedPv) → stands_on_disk id state.disks ≡ false → IsFoundOn state added
    → id ≢ added.header.id
id_is_new state id added none found same =
    let there : get_or state.disks added.disk found.has.disk ≡ found.has.disk =
    get_or_from_slice_get state.disks added.disk found.has.disk found.has.disk found.has.there in
    let other : has_header_id id found.has.disk ≡ false =
    ap (has_header_id id) (sym there) ∙ none_at (has_header_id id) state.disks added.disk found.has.disk none
    (slice_get_within state.disks added.disk found.has.disk found.has.there)
    in
    true≢false (sym (has_own id (header_on found.has.disk.contents) added.header found.has.is (sym same)) ∙ other)

fresh_new : (state : GroupState) (id name : List ℕ) (extent_size : ℕ) (all : List AddedPv) → stands_on_disk id state.disks ≡ false
    → Each (IsFoundOn state) all → Each (IsFresh (empty_group id name extent_size)) all
fresh_new state id name extent_size [] none found = tt
fresh_new state id name extent_size (added ∷ more) none found = (
  All-from_recursion (λ other. other ≢ added.header.id) (id ∷ []) (id_is_new state id added none found.0, tt),
  fresh_new state id name extent_size more none found.1,
)

none_lie : (areas : List (Area × Option Locn)) → list_any (lies_on set.empty) areas ≡ false
none_lie [] = refl
none_lie (area ∷ areas) = ap (λ (b : Bool). b || list_any (lies_on set.empty) areas) (set.contains-empty nat_cmp area.0.pv) ∙ none_lie areas

some_added : (state : GroupState) (all : List AddedPv) → area_row state.areas (disks_added all) ≡ None → 1 ≤ length all
unfolding area_row
some_added state [] none =
    let row : ◌≡◌ {A = Option OpRefusal} (Some NoArea) None = ap (λ (b : Bool). cond (not b) (Some NoArea) None)
    (sym (none_lie state.areas)) ∙ none in absurd cc
some_added state (added ∷ more) none = omega arith

pub created : (state : GroupState) → IsState state → (id name : List ℕ) (extent_size : ℕ) (names : List (List ℕ)) → IsId id
    → group_name_refusal name ≡ None → 8 ≤ extent_size → extent_size ≤ 2 ^ 31 → extent_size % 8 ≡ 0
    → first_refusal (create_rows state (empty_group id name extent_size) (added_of state names)) ≡ None
    → IsWhole (extended (empty_group id name extent_size) (added_of state names))
unfolding extended
created state is id name extent_size names valid named least most whole none =
    let all : List AddedPv = added_of state names in
    let passes : CreatePasses state (empty_group id name extent_size) all =
    create_passes state (empty_group id name extent_size) all none in
    let found : Each (IsFoundOn state) all = recursion_from_All (IsFoundOn state) all (all_found state is names) in
    let free = all_unused [] all passes.used in
    let count = few_enough 64 0 (length all) passes.many in
    let good : IsGood (extended (empty_group id name extent_size) all) =
    good_added (empty_group id name extent_size) all (omega (arith, least)) (omega (arith, count.0))
    (record { base = empty_base id name extent_size least most whole; printable = empty_printable id name extent_size valid named most })
    (all_fits state extent_size all found (all_fit extent_size all passes.sizes))
    (fresh_new state id name extent_size all passes.ids found)
    (ids_are_apart state is all found free.1)
    in
    let counted : length (extended (empty_group id name extent_size) all).pvs ≡ 0 + length all = count_added [] extent_size [] all in
    let some : 1 ≤ length all = some_added state all passes.areas in
    record {
      accepted =
          base_accepted _ good.base (record {
            pvs = (omega (arith, counted, some), omega (arith, counted, count.0));
            lvs = omega arith;
            max_pv = λ limit. absurd (limit refl);
            max_lv = λ limit. absurd (limit refl);
          });
      tree = has_tree _ good.printable;
    }

-- ---- a group that is extended

-- a physical volume that the group lists isn't on this disk
pvs_differ : (state : GroupState) → IsState state → (added : AddedPv) → IsFoundOn state added → (pvs : List (List ℕ × Pv))
    → Each (λ n. n ≢ added.disk) (map (λ (pv : List ℕ × Pv). disk_with state.disks pv.1.id) pvs)
    → Each (λ other. other ≢ added.header.id) (map (λ (pv : List ℕ × Pv). pv.1.id) pvs)
pvs_differ state is added found [] apart = tt
pvs_differ state is added found (pv ∷ pvs) apart = (
  (λ same. apart.0 (ap (disk_with state.disks) same
      ∙ disk_with_own 0 state.disks is.differ added.disk found.has.disk added.header found.has.there found.has.is)),
  pvs_differ state is added found pvs apart.1,
)

fresh_one : (state : GroupState) → IsState state → (group : Group) (added : AddedPv) → state.disk_of ≡ disks_of group state.disks
    → IsFoundOn state added → IsUnused (set_of state.disk_of) added → has_other_id group added.header.id ≡ false
    → IsFresh group added
fresh_one state is group added listed found free other =
    let parts : (bytes_eq group.id added.header.id ≡ false) × (has_lv_id group added.header.id ≡ false) =
    both_false (bytes_eq group.id added.header.id) (has_lv_id group added.header.id) other in
    let apart : Each (λ n. n ≢ added.disk) (disks_of group state.disks) =
    subst (Each (λ n. n ≢ added.disk)) listed (absent set.empty state.disk_of added.disk free).1 in
    All-from_recursion (λ id. id ≢ added.header.id) (ids_of group) (
      not_same group.id added.header.id parts.0,
      each_both (λ id. id ≢ added.header.id) (map (λ (pv : List ℕ × Pv). pv.1.id) group.pvs) (map (λ (lv : List ℕ × Lv). lv.1.id) group.lvs)
          (pvs_differ state is added found group.pvs apart)
          (ids_differ (λ (lv : Lv). lv.id) added.header.id group.lvs
          (none_passes (λ (lv : List ℕ × Lv). bytes_eq lv.1.id added.header.id) group.lvs parts.1)),
    )

fresh_all : (state : GroupState) → IsState state → (group : Group) (all : List AddedPv) → state.disk_of ≡ disks_of group state.disks
    → Each (IsFoundOn state) all → Each (IsUnused (set_of state.disk_of)) all
    → Each (λ (added : AddedPv). has_other_id group added.header.id ≡ false) all → Each (IsFresh group) all
fresh_all state is group [] listed found free other = tt
fresh_all state is group (added ∷ more) listed found free other =
    (fresh_one state is group added listed found.0 free.0 other.0, fresh_all state is group more listed found.1 free.1 other.1)

all_other : (group : Group) (all : List AddedPv) → other_id_row group all ≡ None
    → Each (λ (added : AddedPv). has_other_id group added.header.id ≡ false) all
unfolding other_id_row
all_other group all none =
    recursion_from_All (λ (added : AddedPv). has_other_id group added.header.id ≡ false) all
    (All-from_find (λ (added : AddedPv). has_other_id group added.header.id) all
    (no_map _ (find (λ (added : AddedPv). has_other_id group added.header.id) all) none))

pub next_is_whole : (state : GroupState) → IsState state → (group : Group) (names : List (List ℕ))
    → state.disk_of ≡ disks_of group state.disks → IsAccepted group → HasTree group
    → first_refusal (extend_rows state group (added_of state names)) ≡ None → IsWhole (extended (next_version group) (added_of state names))
unfolding extended
next_is_whole state is group names listed accepted tree none =
    let all : List AddedPv = added_of state names in
    let passes : ExtendPasses state group all = extend_passes state group all none in
    let found : Each (IsFoundOn state) all = recursion_from_All (IsFoundOn state) all (all_found state is names) in
    let free = all_unused state.disk_of all passes.used in
    let other : Each (λ (added : AddedPv). has_other_id group added.header.id ≡ false) all = all_other group all passes.ids in
    let numbers = accepted Numbers in
    let volumes = accepted Volumes in
    let count : (length group.pvs + length all ≤ 64) × (group.max_pv ≢ 0 → length group.pvs + length all ≤ group.max_pv) =
    few_enough 64 group.max_pv (length group.pvs + length all) passes.many in
    let below : group.seqno ≢ 4294967295 = λ same. true≢false (sym (eq-eqb group.seqno 4294967295 same) ∙ passes.seqno) in
    let good : IsGood (extended (next_version group) all) =
    good_added (next_version group) all (omega (arith, numbers.extent_size.0)) (omega (arith, count.0, volumes.lvs))
    (record {
      base = base_version group (group.seqno + 1) (omega arith) (omega (arith, numbers.seqno.1, below)) (accepted_base group accepted);
      printable = printable_version group (group.seqno + 1) (omega (arith, numbers.seqno.1)) (printable group tree);
    })
    (all_fits state group.extent_size all found (all_fit group.extent_size all passes.sizes))
    (fresh_all state is group all listed found free.0 other)
    (ids_are_apart state is all found free.1)
    in
    let counted : length (extended (next_version group) all).pvs ≡ length group.pvs + length all =
    count_added group.lvs group.extent_size group.pvs all in
    record {
      accepted =
          base_accepted _ good.base (record {
            pvs = (omega (arith, counted, volumes.pvs.0), omega (arith, counted, count.0));
            lvs = volumes.lvs;
            max_pv = λ limit. let most : length group.pvs + length all ≤ group.max_pv = count.1 limit in omega (arith, counted, most);
            max_lv = volumes.max_lv;
          });
      tree = has_tree _ good.printable;
    }

-- ---- as the calls have them

pub created_whole : (state : GroupState) → IsState state → (base : Group) → IsEmptyGroup base → (names : List (List ℕ)) (all : List AddedPv)
    → all ≡ added_of state names → first_refusal (create_rows state base all) ≡ None
    → IsWhole (extended base all)
created_whole state is base new names all are none =
    subst (λ (l : List AddedPv). IsWhole (extended base l)) (sym are)
    (subst (λ (g : Group). IsWhole (extended g (added_of state names))) (sym new.empty)
    (created state is base.id base.name base.extent_size names new.valid new.named new.least new.most new.whole
    (subst (λ (g : Group). first_refusal (create_rows state g (added_of state names)) ≡ None) new.empty
    (subst (λ (l : List AddedPv). first_refusal (create_rows state base l) ≡ None) are none))))

pub created_few : (state : GroupState) (base : Group) → IsEmptyGroup base → (all : List AddedPv)
    → first_refusal (create_rows state base all) ≡ None → length base.pvs + length base.lvs + length all < 2 ^ 32
created_few state base new all none =
    let passes : CreatePasses state base all = create_passes state base all none in
    let count = few_enough 64 0 (length all) passes.many in
    let no_pvs : length base.pvs ≡ 0 = ap (λ (g : Group). length g.pvs) new.empty in
    let no_lvs : length base.lvs ≡ 0 = ap (λ (g : Group). length g.lvs) new.empty in
    omega (arith, count.0, no_pvs, no_lvs)

pub next_whole : (state : GroupState) → IsState state → (group base : Group) (names : List (List ℕ)) (all : List AddedPv)
    → state.group ≡ Some group → base ≡ next_version group → all ≡ added_of state names → IsAccepted group → HasTree group
    → first_refusal (extend_rows state group all) ≡ None → IsWhole (extended base all)
next_whole state is group base names all found next are accepted tree none =
    subst (λ (l : List AddedPv). IsWhole (extended base l)) (sym are)
    (subst (λ (g : Group). IsWhole (extended g (added_of state names))) (sym next)
    (next_is_whole state is group names (listed_are state group is found) accepted tree
    (subst (λ (l : List AddedPv). first_refusal (extend_rows state group l) ≡ None) are none)))

pub next_few : (state : GroupState) (group base : Group) → base ≡ next_version group → IsAccepted group → (all : List AddedPv)
    → first_refusal (extend_rows state group all) ≡ None → length base.pvs + length base.lvs + length all < 2 ^ 32
next_few state group base next accepted all none =
    let passes : ExtendPasses state group all = extend_passes state group all none in
    let volumes = accepted Volumes in
    let count : (length group.pvs + length all ≤ 64) × (group.max_pv ≢ 0 → length group.pvs + length all ≤ group.max_pv) =
    few_enough 64 group.max_pv (length group.pvs + length all) passes.many in
    let pvs : length base.pvs ≡ length group.pvs = ap (λ (g : Group). length g.pvs) next in
    let lvs : length base.lvs ≡ length group.lvs = ap (λ (g : Group). length g.lvs) next in
    omega (arith, count.0, pvs, lvs, volumes.lvs)
