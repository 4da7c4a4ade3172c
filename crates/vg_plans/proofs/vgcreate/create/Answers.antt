-- The parts of the rows, one after another.
use Rattle.std.proofs.Common.{◌≡◌, List, [], ◌∷◌, ◌++◌, None, sym, subst, ◌∙◌, arith}
use Rattle.std.proofs.lemmas.Result.{err_from_is_err_and}
use Rattle.std.specs.Prelude.{All}
use Rattle.group_plan.proofs.Chained.{none_both, none_row, one_row, plans_back, refused_back, refused_front}
use Rattle.group_plan.proofs.StateFacts.{added_below, areas_take}
use Rattle.group_plan.proofs.AddedFacts.{all_added}
use Rattle.group_plan.specs.Added.{IsAdded, added_of}
use Rattle.group_plan.specs.Judging.{IsRefusedBy, first_refusal, unknown_row}
use Rattle.group_plan.specs.NewGroup.{change_with, text_row}
use Rattle.group_plan.specs.Plans.{Plans}
use Rattle.group_plan.specs.declared.added.AddedPv.{AddedPv}
use Rattle.vg_plans.proofs.Accepted.{created_few, created_whole}
use Rattle.vg_plans.specs.Vgcreate.{create_rows}
use Rattle.vg_plans.proofs.vgcreate.create.Goals as goal

pub returns-in_err-all : goal.returns-in_err-all
returns-in_err-all c =
    let p = err_from_is_err_and c.from_residual.result c.from_residual.ensures.1 in
    rw (p.1, p.2)
    (refused_front (unknown_row c.args.state.now c.args.names.now ∷ [])
    (create_rows c.args.state.now c.args.base (added_of c.args.state.now c.args.names.now)
    ++ text_row c.args.state.now c.args.base [] (added_of c.args.state.now c.args.names.now) c.args.now ∷ []) _
    (one_row _ _ c.in_err-all.ensures))

pub judge_added-requires-clause-added : goal.judge_added-requires-clause-added
judge_added-requires-clause-added c =
    subst (All IsAdded) (sym c.in_ok-all.ensures.1 ∙ sym c.deref.ensures.value)
    (all_added c.args.state.now c.requires.state c.args.names.now)

pub judge_added-requires-clause-disks : goal.judge_added-requires-clause-disks
judge_added-requires-clause-disks c =
    added_below _ (subst (All IsAdded) (sym c.in_ok-all.ensures.1 ∙ sym c.deref.ensures.value)
    (all_added c.args.state.now c.requires.state c.args.names.now))

pub judge_added-requires-clause-size : goal.judge_added-requires-clause-size
judge_added-requires-clause-size c = c.requires.new.most

pub returns-in_err-judge_added : goal.returns-in_err-judge_added
returns-in_err-judge_added c =
    let p = err_from_is_err_and c.from_residual-in_err-judge_added.result c.from_residual-in_err-judge_added.ensures.1 in
    let all = c.deref.ensures.value ∙ c.in_ok-all.ensures.1 in
    rw (p.1, p.2)
    (refused_back (unknown_row c.args.state.now c.args.names.now ∷ [])
    (create_rows c.args.state.now c.args.base (added_of c.args.state.now c.args.names.now)
    ++ text_row c.args.state.now c.args.base [] (added_of c.args.state.now c.args.names.now) c.args.now ∷ []) _
    (none_row _ c.in_ok-all.ensures.0)
    (refused_front (create_rows c.args.state.now c.args.base (added_of c.args.state.now c.args.names.now))
    (text_row c.args.state.now c.args.base [] (added_of c.args.state.now c.args.names.now) c.args.now ∷ []) _
    (subst (λ (l : List AddedPv). IsRefusedBy (first_refusal (create_rows c.args.state.now c.args.base l)) c.in_err-judge_added.field-0.0)
    all c.in_err-judge_added.ensures)))

pub commit-requires-clause-few : goal.commit-requires-clause-few
commit-requires-clause-few c =
    created_few c.args.state.now c.args.base c.requires.new c.in_ok-all.all.items
    (subst (λ (l : List AddedPv). first_refusal (create_rows c.args.state.now c.args.base l) ≡ None) c.deref.ensures.value
    c.in_ok-judge_added.ensures)

pub commit-requires-clause-size : goal.commit-requires-clause-size
commit-requires-clause-size c = omega (arith, c.requires.new.least)

pub commit-requires-clause-accepted : goal.commit-requires-clause-accepted
commit-requires-clause-accepted c =
    (created_whole c.args.state.now c.requires.state c.args.base c.requires.new c.args.names.now c.in_ok-all.all.items c.in_ok-all.ensures.1
    (subst (λ (l : List AddedPv). first_refusal (create_rows c.args.state.now c.args.base l) ≡ None) c.deref.ensures.value
    c.in_ok-judge_added.ensures)).accepted

pub commit-requires-clause-tree : goal.commit-requires-clause-tree
commit-requires-clause-tree c =
    (created_whole c.args.state.now c.requires.state c.args.base c.requires.new c.args.names.now c.in_ok-all.all.items c.in_ok-all.ensures.1
    (subst (λ (l : List AddedPv). first_refusal (create_rows c.args.state.now c.args.base l) ≡ None) c.deref.ensures.value
    c.in_ok-judge_added.ensures)).tree

pub commit-requires-clause-disks : goal.commit-requires-clause-disks
commit-requires-clause-disks c =
    added_below _ (subst (All IsAdded) (sym c.in_ok-all.ensures.1) (all_added c.args.state.now c.requires.state c.args.names.now))

pub commit-requires-clause-added : goal.commit-requires-clause-added
commit-requires-clause-added c =
    added_below _ (subst (All IsAdded) (sym c.in_ok-all.ensures.1) (all_added c.args.state.now c.requires.state c.args.names.now))

pub commit-requires-clause-areas : goal.commit-requires-clause-areas
commit-requires-clause-areas c = areas_take c.args.state.now c.requires.state

pub returns : goal.returns
returns c =
    let none =
    subst (λ (l : List AddedPv). first_refusal (create_rows c.args.state.now c.args.base l) ≡ None)
    (c.deref.ensures.value ∙ c.in_ok-all.ensures.1) c.in_ok-judge_added.ensures in
    plans_back (unknown_row c.args.state.now c.args.names.now
    ∷ create_rows c.args.state.now c.args.base (added_of c.args.state.now c.args.names.now))
    (text_row c.args.state.now c.args.base [] (added_of c.args.state.now c.args.names.now) c.args.now ∷ [])
    (change_with c.args.base [] (added_of c.args.state.now c.args.names.now)) c.commit.result
    (none_both (unknown_row c.args.state.now c.args.names.now ∷ [])
    (create_rows c.args.state.now c.args.base (added_of c.args.state.now c.args.names.now)) (none_row _ c.in_ok-all.ensures.0) none)
    (subst (λ (l : List AddedPv). Plans (text_row c.args.state.now c.args.base [] l c.args.now ∷ []) (change_with c.args.base [] l)
    c.commit.result) c.in_ok-all.ensures.1 c.commit.ensures)
