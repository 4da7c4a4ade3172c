-- The parts of the rows, one after another.
use Rattle.std.proofs.Common.{◌≡◌, ◌<◌, ℕ, List, [], ◌∷◌, ◌++◌, None, Result, sym, ap, subst, ◌∙◌, arith}
use Rattle.std.specs.Prelude.{All}
use Rattle.std.proofs.lemmas.Result.{err_from_is_err_and}
use Rattle.meta_model.specs.Standing.{HasTree}
use Rattle.meta_model.specs.declared.group.Group.{Group}
use Rattle.volume_rules.specs.Rules.{IsAccepted}
use Rattle.volume_rules.specs.declared.rule.Rule.TheVariants.{Numbers, Volumes}
use Rattle.group_edits.specs.NextVersion.{next_version}
use Rattle.group_plan.proofs.AddedFacts.{all_added}
use Rattle.group_plan.proofs.Chained.{none_both, none_row, one_row, plans_back, refused_back, refused_front}
use Rattle.group_plan.proofs.StateFacts.{added_below, areas_take, both_below, listed_below}
use Rattle.group_plan.specs.Added.{IsAdded, added_of, disks_added}
use Rattle.group_plan.specs.Judging.{IsRefusedBy, first_refusal, unknown_row}
use Rattle.group_plan.specs.NewGroup.{change_with, text_row}
use Rattle.group_plan.specs.Plans.{Plans}
use Rattle.group_plan.specs.declared.added.AddedPv.{AddedPv}
use Rattle.group_plan.specs.declared.refusal.PlanRefusal.{PlanRefusal}
use Rattle.group_plan.specs.declared.state.Change.{Change}
use Rattle.group_plan.specs.declared.state.GroupState.{GroupState}
use Rattle.vg_plans.proofs.Accepted.{next_few, next_whole}
use Rattle.vg_plans.specs.Vgextend.{extend_rows, group_rows}
use Rattle.vg_plans.proofs.vgextend.extend.Goals as goal

pub returns-in_err-judge_group : goal.returns-in_err-judge_group
returns-in_err-judge_group c =
    let p = err_from_is_err_and c.from_residual.result c.from_residual.ensures.1 in
    rw (p.1, p.2)
    (refused_front (group_rows c.args.group.now c.args.vg.now)
    (unknown_row c.args.state.now c.args.names.now
    ∷ (extend_rows c.args.state.now c.args.group.now (added_of c.args.state.now c.args.names.now)
    ++ text_row c.args.state.now (next_version c.args.group.now) c.args.state.now.disk_of (added_of c.args.state.now c.args.names.now)
    c.args.now ∷ [])) _
    (subst (λ (g : Group). IsRefusedBy (first_refusal (group_rows g c.args.vg.now)) c.in_err-judge_group.field-0.0)
    c.group-found.ensures.group c.in_err-judge_group.ensures))

pub returns-in_err-all : goal.returns-in_err-all
returns-in_err-all c =
    let p = err_from_is_err_and c.from_residual-in_err-all.result c.from_residual-in_err-all.ensures.1 in
    let none =
    subst (λ (g : Group). first_refusal (group_rows g c.args.vg.now) ≡ None) c.group-found.ensures.group c.in_ok-judge_group.ensures in
    rw (p.1, p.2)
    (refused_back (group_rows c.args.group.now c.args.vg.now)
    (unknown_row c.args.state.now c.args.names.now
    ∷ (extend_rows c.args.state.now c.args.group.now (added_of c.args.state.now c.args.names.now)
    ++ text_row c.args.state.now (next_version c.args.group.now) c.args.state.now.disk_of (added_of c.args.state.now c.args.names.now)
    c.args.now ∷ [])) _ none
    (refused_front (unknown_row c.args.state.now c.args.names.now ∷ [])
    (extend_rows c.args.state.now c.args.group.now (added_of c.args.state.now c.args.names.now)
    ++ text_row c.args.state.now (next_version c.args.group.now) c.args.state.now.disk_of (added_of c.args.state.now c.args.names.now)
    c.args.now ∷ []) _ (one_row _ _ c.in_err-all.ensures)))

pub judge_added-requires-clause-listed : goal.judge_added-requires-clause-listed
judge_added-requires-clause-listed c = listed_below c.args.state.now c.args.group.now c.requires.state c.requires.found

pub judge_added-requires-clause-added : goal.judge_added-requires-clause-added
judge_added-requires-clause-added c =
    subst (All IsAdded) (sym c.in_ok-all.ensures.1 ∙ sym c.deref.ensures.value)
    (all_added c.args.state.now c.requires.state c.args.names.now)

pub judge_added-requires-clause-size : goal.judge_added-requires-clause-size
judge_added-requires-clause-size c = let most = (c.group-found.ensures.accepted Numbers).extent_size.1 in omega (arith, most)

pub judge_added-requires-clause-few : goal.judge_added-requires-clause-few
judge_added-requires-clause-few c = let most = (c.group-found.ensures.accepted Volumes).pvs.1 in omega (arith, most)

pub judge_added-requires-clause-volumes : goal.judge_added-requires-clause-volumes
judge_added-requires-clause-volumes c = (c.group-found.ensures.accepted Volumes).lvs

pub returns-in_err-judge_added : goal.returns-in_err-judge_added
returns-in_err-judge_added c =
    let p = err_from_is_err_and c.from_residual-in_err-judge_added.result c.from_residual-in_err-judge_added.ensures.1 in
    let none =
    subst (λ (g : Group). first_refusal (group_rows g c.args.vg.now) ≡ None) c.group-found.ensures.group c.in_ok-judge_group.ensures in
    let refused =
    subst (λ (g : Group). IsRefusedBy (first_refusal (extend_rows c.args.state.now g c.deref.result.now))
    c.in_err-judge_added.field-0.0) c.group-found.ensures.group c.in_err-judge_added.ensures in
    rw (p.1, p.2)
    (refused_back (group_rows c.args.group.now c.args.vg.now)
    (unknown_row c.args.state.now c.args.names.now
    ∷ (extend_rows c.args.state.now c.args.group.now (added_of c.args.state.now c.args.names.now)
    ++ text_row c.args.state.now (next_version c.args.group.now) c.args.state.now.disk_of (added_of c.args.state.now c.args.names.now)
    c.args.now ∷ [])) _ none
    (refused_back (unknown_row c.args.state.now c.args.names.now ∷ [])
    (extend_rows c.args.state.now c.args.group.now (added_of c.args.state.now c.args.names.now)
    ++ text_row c.args.state.now (next_version c.args.group.now) c.args.state.now.disk_of (added_of c.args.state.now c.args.names.now)
    c.args.now ∷ []) _ (none_row _ c.in_ok-all.ensures.0)
    (refused_front (extend_rows c.args.state.now c.args.group.now (added_of c.args.state.now c.args.names.now))
    (text_row c.args.state.now (next_version c.args.group.now) c.args.state.now.disk_of (added_of c.args.state.now c.args.names.now)
    c.args.now ∷ []) _
    (subst (λ (l : List AddedPv). IsRefusedBy (first_refusal (extend_rows c.args.state.now c.args.group.now l))
    c.in_err-judge_added.field-0.0) (c.deref.ensures.value ∙ c.in_ok-all.ensures.1) refused))))

pub commit-requires-clause-few : goal.commit-requires-clause-few
commit-requires-clause-few c =
    let accepted : IsAccepted c.args.group.now = subst IsAccepted c.group-found.ensures.group c.group-found.ensures.accepted in
    let passed =
    subst (λ (g : Group). first_refusal (extend_rows c.args.state.now g c.deref.result.now) ≡ None) c.group-found.ensures.group
    c.in_ok-judge_added.ensures in
    next_few c.args.state.now c.args.group.now c.in_ok-base.base c.in_ok-base.ensures accepted c.in_ok-all.all.items
    (subst (λ (l : List AddedPv). first_refusal (extend_rows c.args.state.now c.args.group.now l) ≡ None) c.deref.ensures.value passed)

pub commit-requires-clause-size : goal.commit-requires-clause-size
commit-requires-clause-size c =
    let accepted : IsAccepted c.args.group.now = subst IsAccepted c.group-found.ensures.group c.group-found.ensures.accepted in
    let least = (accepted Numbers).extent_size.0 in
    let same : c.in_ok-base.base.extent_size ≡ c.args.group.now.extent_size = ap (λ (g : Group). g.extent_size) c.in_ok-base.ensures in
    omega (arith, least, same)

pub commit-requires-clause-accepted : goal.commit-requires-clause-accepted
commit-requires-clause-accepted c =
    let accepted : IsAccepted c.args.group.now = subst IsAccepted c.group-found.ensures.group c.group-found.ensures.accepted in
    let tree : HasTree c.args.group.now = subst HasTree c.group-found.ensures.group c.group-found.ensures.stands in
    let passed =
    subst (λ (g : Group). first_refusal (extend_rows c.args.state.now g c.deref.result.now) ≡ None) c.group-found.ensures.group
    c.in_ok-judge_added.ensures in
    (next_whole c.args.state.now c.requires.state c.args.group.now c.in_ok-base.base c.args.names.now c.in_ok-all.all.items c.requires.found
    c.in_ok-base.ensures c.in_ok-all.ensures.1 accepted tree
    (subst (λ (l : List AddedPv). first_refusal (extend_rows c.args.state.now c.args.group.now l) ≡ None) c.deref.ensures.value
    passed)).accepted

pub commit-requires-clause-tree : goal.commit-requires-clause-tree
commit-requires-clause-tree c =
    let accepted : IsAccepted c.args.group.now = subst IsAccepted c.group-found.ensures.group c.group-found.ensures.accepted in
    let tree : HasTree c.args.group.now = subst HasTree c.group-found.ensures.group c.group-found.ensures.stands in
    let passed =
    subst (λ (g : Group). first_refusal (extend_rows c.args.state.now g c.deref.result.now) ≡ None) c.group-found.ensures.group
    c.in_ok-judge_added.ensures in
    (next_whole c.args.state.now c.requires.state c.args.group.now c.in_ok-base.base c.args.names.now c.in_ok-all.all.items c.requires.found
    c.in_ok-base.ensures c.in_ok-all.ensures.1 accepted tree
    (subst (λ (l : List AddedPv). first_refusal (extend_rows c.args.state.now c.args.group.now l) ≡ None) c.deref.ensures.value
    passed)).tree

pub commit-requires-clause-disks : goal.commit-requires-clause-disks
commit-requires-clause-disks c =
    subst (λ (listed : List ℕ). All (λ number. number < 64) (listed ++ disks_added c.in_ok-all.all.items)) (sym c.as_slice.ensures)
    (both_below c.args.state.now.disk_of c.in_ok-all.all.items
    (listed_below c.args.state.now c.args.group.now c.requires.state c.requires.found)
    (subst (All IsAdded) (sym c.in_ok-all.ensures.1) (all_added c.args.state.now c.requires.state c.args.names.now)))

pub commit-requires-clause-added : goal.commit-requires-clause-added
commit-requires-clause-added c =
    added_below _ (subst (All IsAdded) (sym c.in_ok-all.ensures.1) (all_added c.args.state.now c.requires.state c.args.names.now))

pub commit-requires-clause-areas : goal.commit-requires-clause-areas
commit-requires-clause-areas c = areas_take c.args.state.now c.requires.state

-- what the last part plans, at the group, the disks and the volumes that the line names
planned : (state : GroupState) (base next : Group) (listed disks : List ℕ) (all found : List AddedPv) (now : ℕ)
    (result : Result Change PlanRefusal) → base ≡ next → listed ≡ disks → all ≡ found
    → Plans (text_row state base listed all now ∷ []) (change_with base listed all) result
    → Plans (text_row state next disks found now ∷ []) (change_with next disks found) result
planned state base next listed disks all found now result bases lists alls plans =
    subst (λ (g : Group). Plans (text_row state g disks found now ∷ []) (change_with g disks found) result) bases
    (subst (λ (l : List ℕ). Plans (text_row state base l found now ∷ []) (change_with base l found) result) lists
    (subst (λ (l : List AddedPv). Plans (text_row state base listed l now ∷ []) (change_with base listed l) result) alls plans))

pub returns : goal.returns
returns c =
    let state = c.args.state.now in
    let group = c.args.group.now in
    let found = added_of state c.args.names.now in
    let first =
    subst (λ (g : Group). first_refusal (group_rows g c.args.vg.now) ≡ None) c.group-found.ensures.group c.in_ok-judge_group.ensures in
    let passed =
    subst (λ (g : Group). first_refusal (extend_rows state g c.deref.result.now) ≡ None) c.group-found.ensures.group
    c.in_ok-judge_added.ensures in
    let last =
    subst (λ (l : List AddedPv). first_refusal (extend_rows state group l) ≡ None) (c.deref.ensures.value ∙ c.in_ok-all.ensures.1)
    passed in
    plans_back (group_rows group c.args.vg.now ++ unknown_row state c.args.names.now ∷ extend_rows state group found)
    (text_row state (next_version group) state.disk_of found c.args.now ∷ [])
    (change_with (next_version group) state.disk_of found) c.commit.result
    (none_both (group_rows group c.args.vg.now) (unknown_row state c.args.names.now ∷ extend_rows state group found) first
    (none_both (unknown_row state c.args.names.now ∷ []) (extend_rows state group found) (none_row _ c.in_ok-all.ensures.0) last))
    (planned state c.in_ok-base.base (next_version group) c.as_slice.result.now state.disk_of c.in_ok-all.all.items found c.args.now
    c.commit.result c.in_ok-base.ensures c.as_slice.ensures c.in_ok-all.ensures.1 c.commit.ensures)
