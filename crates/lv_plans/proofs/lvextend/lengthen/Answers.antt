use Rattle.volume_rules.specs.declared.rule.Rule.TheVariants.{Segments}
use Rattle.group_plan.proofs.StateFacts.{areas_take}
use Rattle.lv_plans.proofs.Extending.{grows_now, lengthen_plans}
use Rattle.lv_plans.proofs.lvextend.lengthen.Goals as goal

pub judge_segments-requires-clause-few : goal.judge_segments-requires-clause-few
judge_segments-requires-clause-few c = (c.group-found.ensures.accepted Segments).few

pub longer_volume-requires-clause-grows : goal.longer_volume-requires-clause-grows
longer_volume-requires-clause-grows c =
    grows_now c.args.group.now c.group-found.result.now c.args.name.now c.args.given.now c.len.result c.group-found.ensures.group
    c.len.ensures c.in_ok-judge_segments.ensures c.requires.grows

pub commit_version-requires-clause-areas : goal.commit_version-requires-clause-areas
commit_version-requires-clause-areas c = areas_take c.args.state.now c.requires.state

pub returns : goal.returns
returns c =
    lengthen_plans c.args.state.now c.args.name.now c.args.now c.group-found.result.now c.args.group.now c.in_ok-next.next c.args.given.now
    c.len.result c.commit_version.result c.group-found.ensures.group c.len.ensures c.in_ok-next.ensures
    c.in_ok-judge_segments.ensures c.commit_version.ensures
