use Rattle.std.proofs.Common.{◌≡◌, ℕ, List, Option, None, sym, ap, subst, ◌∙◌, arith}
use Rattle.std.specs.Prelude.{IsSomeAnd}
use Rattle.mda_header.specs.declared.header.Locn.{Locn}
use Rattle.mda_ring.specs.declared.area.Area.{Area}
use Rattle.meta_model.specs.declared.group.Group.{Group}
use Rattle.meta_model.specs.declared.lv.Lv.{Lv}
use Rattle.volume_rules.specs.Extents.{extents_of}
use Rattle.volume_rules.specs.Rules.{IsAccepted}
use Rattle.volume_rules.specs.declared.rule.Rule.TheVariants.{Numbers}
use Rattle.group_edits.specs.ShortenedVolume.{MayKeep, kept_of}
use Rattle.group_plan.proofs.Rows.{seqno_left}
use Rattle.group_plan.proofs.StateFacts.{areas_take}
use Rattle.group_plan.specs.Committing.{seqno_row}
use Rattle.group_plan.specs.Judging.{area_row}
use Rattle.lv_plans.proofs.Reducing.{has_few_extents, has_few_legs, may_be_cut, reduce_plans, some_extents}
use Rattle.lv_plans.specs.Lvreduce.{shorter_row}
use Rattle.lv_plans.proofs.lvreduce.reduce_visible.Goals as goal

pub extents_for-requires : goal.extents_for-requires
extents_for-requires c = let least = (c.group-found.ensures.accepted Numbers).extent_size.0 in omega (arith, least)

pub kept_extents-kept-requires-clause-legs : goal.kept_extents-kept-requires-clause-legs
kept_extents-kept-requires-clause-legs c =
    has_few_legs c.args.group.now (subst IsAccepted c.group-found.ensures.group c.group-found.ensures.accepted) c.args.name.now
    c.args.number c.args.lv.now c.requires.volume

pub kept_extents-kept-requires-clause-few : goal.kept_extents-kept-requires-clause-few
kept_extents-kept-requires-clause-few c =
    has_few_extents c.args.group.now (subst IsAccepted c.group-found.ensures.group c.group-found.ensures.accepted) c.args.name.now
    c.args.number c.args.lv.now c.requires.volume

pub judge_shorter-requires : goal.judge_shorter-requires
judge_shorter-requires c =
    has_few_extents c.args.group.now (subst IsAccepted c.group-found.ensures.group c.group-found.ensures.accepted) c.args.name.now
    c.args.number c.args.lv.now c.requires.volume

pub shortened_volume-requires-clause-may : goal.shortened_volume-requires-clause-may
shortened_volume-requires-clause-may c =
    subst (λ (o : Option (ℕ × Lv)). IsSomeAnd o (λ (v : ℕ × Lv). MayKeep c.kept_extents-kept.result v.1)) (sym c.requires.volume)
    (subst (λ (n : ℕ). MayKeep n c.args.lv.now) (sym c.kept_extents-kept.ensures)
    (may_be_cut c.args.group.now (subst IsAccepted c.group-found.ensures.group c.group-found.ensures.accepted) c.args.name.now c.args.number
    c.args.lv.now c.requires.volume c.extents_for.result
    (let least = (c.group-found.ensures.accepted Numbers).extent_size.0 in let some = some_extents c.group-found.result.now.extent_size
    c.args.amount (omega (arith, least)) c.requires.amount in let is = c.extents_for.ensures in omega (arith, some, is))
    c.in_ok-judge_layers.ensures (subst (λ (n : ℕ). shorter_row n (extents_of c.args.lv.now) ≡ None) c.kept_extents-kept.ensures
    c.in_ok-judge_shorter.ensures)))

pub shortened_volume-requires-clause-seqno : goal.shortened_volume-requires-clause-seqno
shortened_volume-requires-clause-seqno c =
    seqno_left c.args.group.now (subst (λ (g : Group). seqno_row g ≡ None) c.group-found.ensures.group c.in_ok-judge_seqno.ensures)

pub commit_version-requires-clause-areas : goal.commit_version-requires-clause-areas
commit_version-requires-clause-areas c = areas_take c.args.state.now c.requires.state

pub returns : goal.returns
returns c =
    reduce_plans c.args.state.now c.args.name.now c.args.amount c.args.now c.args.number c.kept_extents-kept.result c.args.lv.now
    c.group-found.result.now c.args.group.now c.in_ok-next.next c.commit_version.result
    c.group-found.ensures.group (c.kept_extents-kept.ensures ∙ ap (kept_of c.args.lv.now.segments) c.extents_for.ensures)
    c.in_ok-next.ensures c.in_ok-judge_lock.ensures c.in_ok-judge_layers.ensures
    (sym (ap (λ (l : List (Area × Option Locn)). area_row l c.as_slice-2.result.now) c.as_slice.ensures
    ∙ ap (area_row c.args.state.now.areas) c.as_slice-2.ensures) ∙ c.in_ok-judge_areas.ensures)
    c.in_ok-judge_shorter.ensures c.in_ok-judge_seqno.ensures c.commit_version.ensures
