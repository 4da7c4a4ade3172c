use Rattle.std.proofs.Common.{◌∙◌}
use Rattle.volume_rules.specs.declared.rule.Rule.TheVariants.{Numbers}
use Rattle.group_edits.proofs.RenamedGroup.{group_made, made_whole}
use Rattle.group_edits.proofs.rename_group.renamed_group.Goals as goal

pub next_of-requires : goal.next_of-requires
next_of-requires c = (c.group.ensures.accepted Numbers).seqno.1

pub new-requires-clause-accepted : goal.new-requires-clause-accepted
new-requires-clause-accepted c =
    (made_whole c.args.group.now c.group.result.now _ c.args.name c.group.ensures.group
    (group_made c.args.group.now c.group.result.now c.in_ok-next.next c.args.name c.group.ensures.group c.in_ok-next.ensures)
    c.requires.name c.requires.seqno c.group.ensures.accepted c.group.ensures.stands).accepted

pub new-requires-clause-stands : goal.new-requires-clause-stands
new-requires-clause-stands c =
    (made_whole c.args.group.now c.group.result.now _ c.args.name c.group.ensures.group
    (group_made c.args.group.now c.group.result.now c.in_ok-next.next c.args.name c.group.ensures.group c.in_ok-next.ensures)
    c.requires.name c.requires.seqno c.group.ensures.accepted c.group.ensures.stands).tree

pub returns : goal.returns
returns c =
    c.new.ensures ∙ group_made c.args.group.now c.group.result.now c.in_ok-next.next c.args.name c.group.ensures.group
    c.in_ok-next.ensures
