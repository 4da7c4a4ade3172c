use Rattle.std.proofs.Common.{◌∙◌}
use Rattle.volume_rules.specs.declared.rule.Rule.TheVariants.{Numbers}
use Rattle.group_edits.proofs.Renamed.{made_whole, volume_made}
use Rattle.group_edits.proofs.rename_volume.renamed_volume.Goals as goal

pub with_lvs-requires : goal.with_lvs-requires
with_lvs-requires c = (c.group-found.ensures.accepted Numbers).seqno.1

pub new-requires-clause-accepted : goal.new-requires-clause-accepted
new-requires-clause-accepted c =
    (made_whole c.args.group.now c.group-found.result.now c.in_ok-next.next c.args.old.now c.args.new.now c.group-found.ensures.group
    (volume_made c.args.group.now c.group-found.result.now c.in_ok-next.next c.args.old.now c.args.new.now c.in_ok-lvs.lvs
    c.group-found.ensures.group c.in_ok-lvs.ensures c.in_ok-next.ensures)
    c.requires.there c.requires.free c.requires.valid c.requires.seqno c.group-found.ensures.accepted c.group-found.ensures.stands).accepted

pub new-requires-clause-stands : goal.new-requires-clause-stands
new-requires-clause-stands c =
    (made_whole c.args.group.now c.group-found.result.now c.in_ok-next.next c.args.old.now c.args.new.now c.group-found.ensures.group
    (volume_made c.args.group.now c.group-found.result.now c.in_ok-next.next c.args.old.now c.args.new.now c.in_ok-lvs.lvs
    c.group-found.ensures.group c.in_ok-lvs.ensures c.in_ok-next.ensures)
    c.requires.there c.requires.free c.requires.valid c.requires.seqno c.group-found.ensures.accepted c.group-found.ensures.stands).tree

pub returns : goal.returns
returns c =
    c.new.ensures
    ∙ volume_made c.args.group.now c.group-found.result.now c.in_ok-next.next c.args.old.now c.args.new.now c.in_ok-lvs.lvs
    c.group-found.ensures.group c.in_ok-lvs.ensures c.in_ok-next.ensures
