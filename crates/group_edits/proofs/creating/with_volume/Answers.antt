use Rattle.std.proofs.Common.{sym, ◌∙◌}
use Rattle.meta_model.proofs.TableLemmas.{pushed}
use Rattle.volume_rules.specs.declared.rule.Rule.TheVariants.{Numbers}
use Rattle.group_edits.proofs.New.{fits_made, made_whole, new_made}
use Rattle.group_edits.proofs.creating.with_volume.Goals as goal

pub new_lv-requires : goal.new_lv-requires
new_lv-requires c =
    fits_made c.args.group.now c.group-found.result.now c.args.name.now c.args.id c.args.kind.now c.args.given.now c.as_slice.result.now
    c.args.now c.group-found.ensures.group c.as_slice.ensures c.requires.volume c.group-found.ensures.accepted

pub next_of-requires : goal.next_of-requires
next_of-requires c = (c.group-found.ensures.accepted Numbers).seqno.1

pub new-requires-clause-accepted : goal.new-requires-clause-accepted
new-requires-clause-accepted c =
    (made_whole c.args.group.now c.group-found.result.now c.args.name.now c.args.id c.args.kind.now c.args.given.now c.as_slice.result.now
    c.args.now c.group-found.ensures.group c.as_slice.ensures (record c.in_ok-next.next { lvs = c.push.new.self })
    (new_made c.args.group.now c.group-found.result.now c.args.name.now c.args.id c.args.kind.now c.args.given.now c.as_slice.result.now
    c.args.now c.group-found.ensures.group c.as_slice.ensures c.in_ok-next.next c.in_ok-lv.lv c.in_ok-name.name c.push.new.self
    c.in_ok-next.ensures c.in_ok-lv.ensures c.in_ok-name.ensures
    (pushed _ _ _ _ _ c.push.ensures (sym c.is_err.ensures.value ∙ c.if-is_err.false)))
    c.requires.free c.requires.valid c.requires.id c.requires.volume c.requires.seqno c.group-found.ensures.accepted
    c.group-found.ensures.stands).accepted

pub new-requires-clause-stands : goal.new-requires-clause-stands
new-requires-clause-stands c =
    (made_whole c.args.group.now c.group-found.result.now c.args.name.now c.args.id c.args.kind.now c.args.given.now c.as_slice.result.now
    c.args.now c.group-found.ensures.group c.as_slice.ensures (record c.in_ok-next.next { lvs = c.push.new.self })
    (new_made c.args.group.now c.group-found.result.now c.args.name.now c.args.id c.args.kind.now c.args.given.now c.as_slice.result.now
    c.args.now c.group-found.ensures.group c.as_slice.ensures c.in_ok-next.next c.in_ok-lv.lv c.in_ok-name.name c.push.new.self
    c.in_ok-next.ensures c.in_ok-lv.ensures c.in_ok-name.ensures
    (pushed _ _ _ _ _ c.push.ensures (sym c.is_err.ensures.value ∙ c.if-is_err.false)))
    c.requires.free c.requires.valid c.requires.id c.requires.volume c.requires.seqno c.group-found.ensures.accepted
    c.group-found.ensures.stands).tree

pub returns : goal.returns
returns c =
    c.new.ensures
    ∙ new_made c.args.group.now c.group-found.result.now c.args.name.now c.args.id c.args.kind.now c.args.given.now c.as_slice.result.now
    c.args.now c.group-found.ensures.group c.as_slice.ensures c.in_ok-next.next c.in_ok-lv.lv c.in_ok-name.name c.push.new.self
    c.in_ok-next.ensures c.in_ok-lv.ensures c.in_ok-name.ensures
    (pushed _ _ _ _ _ c.push.ensures (sym c.is_err.ensures.value ∙ c.if-is_err.false))
