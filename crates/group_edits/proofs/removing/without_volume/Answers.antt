use Rattle.std.proofs.Common.{◌∙◌}
use Rattle.volume_rules.specs.declared.rule.Rule.TheVariants.{Numbers, Volumes}
use Rattle.group_edits.proofs.MarkedRest.{rest_is, rest_whole, rows_by}
use Rattle.group_edits.proofs.removing.without_volume.Goals as goal

pub rows_after-requires : goal.rows_after-requires
rows_after-requires c = (c.group-found.ensures.accepted Volumes).lvs

pub with_lvs-requires : goal.with_lvs-requires
with_lvs-requires c = (c.group-found.ensures.accepted Numbers).seqno.1

pub new-requires-clause-accepted : goal.new-requires-clause-accepted
new-requires-clause-accepted c =
    (rest_whole c.args.group.now c.group-found.result.now c.in_ok-next.next c.args.number c.group-found.ensures.group
    (rest_is c.args.group.now c.group-found.result.now c.in_ok-next.next c.args.number c.going-goes.result c.in_ok-lvs.lvs
    c.group-found.ensures.group c.group-found.ensures.accepted c.requires.visible c.going-goes.ensures.told c.going-goes.ensures.past
    (rows_by c.group-found.result.now c.new-numbers.result c.going-goes.result c.in_ok-lvs.lvs c.new-numbers.ensures
    c.in_ok-lvs.ensures) c.in_ok-next.ensures)
    c.requires.visible c.requires.still c.requires.seqno c.group-found.ensures.accepted c.group-found.ensures.stands).accepted

pub new-requires-clause-stands : goal.new-requires-clause-stands
new-requires-clause-stands c =
    (rest_whole c.args.group.now c.group-found.result.now c.in_ok-next.next c.args.number c.group-found.ensures.group
    (rest_is c.args.group.now c.group-found.result.now c.in_ok-next.next c.args.number c.going-goes.result c.in_ok-lvs.lvs
    c.group-found.ensures.group c.group-found.ensures.accepted c.requires.visible c.going-goes.ensures.told c.going-goes.ensures.past
    (rows_by c.group-found.result.now c.new-numbers.result c.going-goes.result c.in_ok-lvs.lvs c.new-numbers.ensures
    c.in_ok-lvs.ensures) c.in_ok-next.ensures)
    c.requires.visible c.requires.still c.requires.seqno c.group-found.ensures.accepted c.group-found.ensures.stands).tree

pub returns : goal.returns
returns c =
    c.new.ensures
    ∙ rest_is c.args.group.now c.group-found.result.now c.in_ok-next.next c.args.number c.going-goes.result c.in_ok-lvs.lvs
    c.group-found.ensures.group c.group-found.ensures.accepted c.requires.visible c.going-goes.ensures.told c.going-goes.ensures.past
    (rows_by c.group-found.result.now c.new-numbers.result c.going-goes.result c.in_ok-lvs.lvs c.new-numbers.ensures c.in_ok-lvs.ensures)
    c.in_ok-next.ensures
