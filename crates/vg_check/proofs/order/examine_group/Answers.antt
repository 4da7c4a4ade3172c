-- Each exit: what was kept before, and the offence there.
use Rattle.std.proofs.Common.{refl}
use Rattle.std.proofs.lemmas.Bool.{false≢true}
use Rattle.volume_rules.specs.declared.rule.Rule.TheVariants.{Numbers, Ids, Volumes, Segments}
use Rattle.volume_rules.specs.Rules.{KeepsBelow}
use Rattle.volume_rules.proofs.FirstBroken.{below_first, below_more}
use Rattle.vg_check.proofs.Refusals.{refused_first}
use Rattle.vg_check.proofs.order.examine_group.Goals as goal

pub returns-then-not-numbers_are_allowed-clause-first : goal.returns-then-not-numbers_are_allowed-clause-first
returns-then-not-numbers_are_allowed-clause-first c =
    let group = c.args.group.now in
    refused_first group (KeepsBelow 5 group) Numbers 0 0 _ c.refused.ensures (below_first group)
    (refl, refl, λ keeps. false≢true (c.if-not-numbers_are_allowed.ensures.1 keeps))

pub returns-then-not-ids_differ-clause-first : goal.returns-then-not-ids_differ-clause-first
returns-then-not-ids_differ-clause-first c =
    let group = c.args.group.now in
    let below2 = below_more group Numbers (below_first group) (c.if-not-numbers_are_allowed.ensures.0 refl) in
    refused_first group (KeepsBelow 5 group) Ids 0 0 _ c.refused-then-not-ids_differ.ensures below2
    (refl, refl, λ keeps. false≢true (c.if-not-ids_differ.ensures.differ.1 keeps))

pub returns-then-not-volumes_are_few-clause-first : goal.returns-then-not-volumes_are_few-clause-first
returns-then-not-volumes_are_few-clause-first c =
    let group = c.args.group.now in
    let below2 = below_more group Numbers (below_first group) (c.if-not-numbers_are_allowed.ensures.0 refl) in
    let below3 = below_more group Ids below2 (c.if-not-ids_differ.ensures.differ.0 refl) in
    refused_first group (KeepsBelow 5 group) Volumes 0 0 _ c.refused-then-not-volumes_are_few.ensures below3
    (refl, refl, λ keeps. false≢true (c.if-not-volumes_are_few.ensures.1 keeps))

pub returns-then-not-segments_are_few-clause-first : goal.returns-then-not-segments_are_few-clause-first
returns-then-not-segments_are_few-clause-first c =
    let group = c.args.group.now in
    let below2 = below_more group Numbers (below_first group) (c.if-not-numbers_are_allowed.ensures.0 refl) in
    let below3 = below_more group Ids below2 (c.if-not-ids_differ.ensures.differ.0 refl) in
    let below4 = below_more group Volumes below3 (c.if-not-volumes_are_few.ensures.0 refl) in
    refused_first group (KeepsBelow 5 group) Segments 0 0 _ c.refused-then-not-segments_are_few.ensures below4
    (refl, refl, λ keeps. false≢true (c.if-not-segments_are_few.ensures.1 keeps))

pub returns-clause-first : goal.returns-clause-first
returns-clause-first c =
    let group = c.args.group.now in
    let below2 = below_more group Numbers (below_first group) (c.if-not-numbers_are_allowed.ensures.0 refl) in
    let below3 = below_more group Ids below2 (c.if-not-ids_differ.ensures.differ.0 refl) in
    let below4 = below_more group Volumes below3 (c.if-not-volumes_are_few.ensures.0 refl) in
    below_more group Segments below4 (c.if-not-segments_are_few.ensures.0 refl)
