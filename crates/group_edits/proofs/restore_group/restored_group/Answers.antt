use Rattle.std.proofs.Common.{◌≢◌, ◌∙◌, sym, subst}
use Rattle.meta_model.specs.declared.group.Group.{Group}
use Rattle.group_edits.proofs.RestoredGroup.{made_whole}
use Rattle.group_edits.proofs.Whole.{seqno_below}
use Rattle.group_edits.specs.RestoredGroup.{restored_group}
use Rattle.group_edits.proofs.restore_group.restored_group.Goals as goal

pub restored-requires-clause-found : goal.restored-requires-clause-found
restored-requires-clause-found c =
    seqno_below c.group.result.now c.group.ensures.accepted
    (subst (λ (g : Group). g.seqno ≢ 4294967295) (sym c.group.ensures.group) c.requires.found)

pub restored-requires-clause-said : goal.restored-requires-clause-said
restored-requires-clause-said c =
    seqno_below c.group-2.result.now c.group-2.ensures.accepted
    (subst (λ (g : Group). g.seqno ≢ 4294967295) (sym c.group-2.ensures.group) c.requires.said)

pub new-requires-clause-accepted : goal.new-requires-clause-accepted
new-requires-clause-accepted c =
    (made_whole c.args.found.now c.args.said.now c.group.result.now c.group-2.result.now c.in_ok-next.next c.group.ensures.group
    c.group-2.ensures.group c.in_ok-next.ensures c.requires.found c.requires.said
    c.group.ensures.accepted c.group-2.ensures.accepted c.group-2.ensures.stands).accepted

pub new-requires-clause-stands : goal.new-requires-clause-stands
new-requires-clause-stands c =
    (made_whole c.args.found.now c.args.said.now c.group.result.now c.group-2.result.now c.in_ok-next.next c.group.ensures.group
    c.group-2.ensures.group c.in_ok-next.ensures c.requires.found c.requires.said
    c.group.ensures.accepted c.group-2.ensures.accepted c.group-2.ensures.stands).tree

pub returns : goal.returns
returns c = c.new.ensures ∙ c.in_ok-next.ensures ∙ (λ i. restored_group (c.group.ensures.group i) (c.group-2.ensures.group i))
