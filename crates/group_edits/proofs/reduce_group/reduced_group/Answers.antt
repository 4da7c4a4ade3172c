use Rattle.std.proofs.Common.{◌∙◌, ap}
use Rattle.meta_model.specs.declared.group.Group.{Group}
use Rattle.volume_rules.specs.declared.rule.Rule.TheVariants.{Numbers}
use Rattle.group_edits.proofs.ReducedGroup.{made_whole}
use Rattle.group_edits.specs.ReducedGroup.{reduced_group}
use Rattle.group_edits.proofs.reduce_group.reduced_group.Goals as goal

pub without_pv-requires : goal.without_pv-requires
without_pv-requires c = (c.group-found.ensures.accepted Numbers).seqno.1

pub new-requires-clause-accepted : goal.new-requires-clause-accepted
new-requires-clause-accepted c =
    (made_whole c.args.group.now c.group-found.result.now c.in_ok-next.next c.args.number c.group-found.ensures.group c.in_ok-next.ensures
    c.requires.within c.requires.unused c.requires.more c.requires.seqno c.group-found.ensures.accepted
    c.group-found.ensures.stands).accepted

pub new-requires-clause-stands : goal.new-requires-clause-stands
new-requires-clause-stands c =
    (made_whole c.args.group.now c.group-found.result.now c.in_ok-next.next c.args.number c.group-found.ensures.group c.in_ok-next.ensures
    c.requires.within c.requires.unused c.requires.more c.requires.seqno c.group-found.ensures.accepted
    c.group-found.ensures.stands).tree

pub returns : goal.returns
returns c = c.new.ensures ∙ c.in_ok-next.ensures ∙ ap (λ (g : Group). reduced_group g c.args.number) c.group-found.ensures.group
