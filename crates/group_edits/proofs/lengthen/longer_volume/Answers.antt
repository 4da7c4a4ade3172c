use Rattle.std.proofs.Common.{◌∙◌}
use Rattle.volume_rules.specs.declared.rule.Rule.TheVariants.{Numbers}
use Rattle.group_edits.proofs.Longer.{can_made, longer_made, made_whole}
use Rattle.group_edits.proofs.lengthen.longer_volume.Goals as goal

pub longer_lvs-requires : goal.longer_lvs-requires
longer_lvs-requires c =
    can_made c.args.group.now c.group-found.result.now c.args.name.now c.args.given.now c.as_slice.result.now c.group-found.ensures.group
    c.as_slice.ensures c.requires.grows c.group-found.ensures.accepted c.group-found.ensures.stands

pub with_lvs-requires : goal.with_lvs-requires
with_lvs-requires c = (c.group-found.ensures.accepted Numbers).seqno.1

pub new-requires-clause-accepted : goal.new-requires-clause-accepted
new-requires-clause-accepted c =
    (made_whole c.args.group.now c.group-found.result.now c.args.name.now c.args.given.now c.as_slice.result.now c.group-found.ensures.group
    c.as_slice.ensures c.in_ok-next.next
    (longer_made c.args.group.now c.group-found.result.now c.args.name.now c.args.given.now c.as_slice.result.now
    c.group-found.ensures.group c.as_slice.ensures c.in_ok-lvs.lvs c.in_ok-next.next c.in_ok-lvs.ensures c.in_ok-next.ensures)
    c.requires.grows c.requires.seqno c.group-found.ensures.accepted c.group-found.ensures.stands).accepted

pub new-requires-clause-stands : goal.new-requires-clause-stands
new-requires-clause-stands c =
    (made_whole c.args.group.now c.group-found.result.now c.args.name.now c.args.given.now c.as_slice.result.now c.group-found.ensures.group
    c.as_slice.ensures c.in_ok-next.next
    (longer_made c.args.group.now c.group-found.result.now c.args.name.now c.args.given.now c.as_slice.result.now
    c.group-found.ensures.group c.as_slice.ensures c.in_ok-lvs.lvs c.in_ok-next.next c.in_ok-lvs.ensures c.in_ok-next.ensures)
    c.requires.grows c.requires.seqno c.group-found.ensures.accepted c.group-found.ensures.stands).tree

pub returns : goal.returns
returns c =
    c.new.ensures
    ∙ longer_made c.args.group.now c.group-found.result.now c.args.name.now c.args.given.now c.as_slice.result.now
    c.group-found.ensures.group c.as_slice.ensures c.in_ok-lvs.lvs c.in_ok-next.next c.in_ok-lvs.ensures c.in_ok-next.ensures
