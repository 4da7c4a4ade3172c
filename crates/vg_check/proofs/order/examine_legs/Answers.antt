-- Each exit: what was kept before, and the offence there.
use Rattle.std.proofs.Common.{refl}
use Rattle.std.proofs.lemmas.Bool.{false≢true}
use Rattle.volume_rules.specs.declared.rule.Rule.TheVariants.{Within, Apart, Depth, Moved}
use Rattle.volume_rules.specs.Rules.{KeepsBelow}
use Rattle.volume_rules.proofs.FirstBroken.{below_more}
use Rattle.vg_check.proofs.Refusals.{refused_first}
use Rattle.vg_check.proofs.order.examine_legs.Goals as goal

pub returns-in-Some-clause-first : goal.returns-in-Some-clause-first
returns-in-Some-clause-first c =
    let group = c.args.group.now in
    refused_first group (KeepsBelow 13 group) Within c.in-Some.at c.in-Some.other _ c.refused.ensures c.requires.below c.in-Some.ensures

pub legs_lie_apart-requires-clause-below : goal.legs_lie_apart-requires-clause-below
legs_lie_apart-requires-clause-below c = below_more c.args.group.now Within c.requires.below c.in_default.ensures

pub returns-then-not-legs_lie_apart-clause-first : goal.returns-then-not-legs_lie_apart-clause-first
returns-then-not-legs_lie_apart-clause-first c =
    let group = c.args.group.now in
    let below10 = below_more group Within c.requires.below c.in_default.ensures in
    refused_first group (KeepsBelow 13 group) Apart 0 0 _ c.refused-then-not-legs_lie_apart.ensures below10
    (refl, refl, λ keeps. false≢true (c.if-not-legs_lie_apart.ensures.apart.1 keeps))

pub depth_is_allowed-requires-clause-below : goal.depth_is_allowed-requires-clause-below
depth_is_allowed-requires-clause-below c =
    let group = c.args.group.now in
    below_more group Apart (below_more group Within c.requires.below c.in_default.ensures) (c.if-not-legs_lie_apart.ensures.apart.0 refl)

pub returns-then-not-depth_is_allowed-clause-first : goal.returns-then-not-depth_is_allowed-clause-first
returns-then-not-depth_is_allowed-clause-first c =
    let group = c.args.group.now in
    let below10 = below_more group Within c.requires.below c.in_default.ensures in
    let below11 = below_more group Apart below10 (c.if-not-legs_lie_apart.ensures.apart.0 refl) in
    refused_first group (KeepsBelow 13 group) Depth 0 0 _ c.refused-then-not-depth_is_allowed.ensures below11
    (refl, refl, λ keeps. false≢true (c.if-not-depth_is_allowed.ensures.depth.1 keeps))

pub returns-in-Some-stray_moved-clause-first : goal.returns-in-Some-stray_moved-clause-first
returns-in-Some-stray_moved-clause-first c =
    let group = c.args.group.now in
    let below10 = below_more group Within c.requires.below c.in_default.ensures in
    let below11 = below_more group Apart below10 (c.if-not-legs_lie_apart.ensures.apart.0 refl) in
    let below12 = below_more group Depth below11 (c.if-not-depth_is_allowed.ensures.depth.0 refl) in
    refused_first group (KeepsBelow 13 group) Moved c.in-Some-stray_moved.at c.in-Some-stray_moved.other _
    c.refused-in-Some-stray_moved.ensures below12 c.in-Some-stray_moved.ensures

pub returns-clause-first : goal.returns-clause-first
returns-clause-first c =
    let group = c.args.group.now in
    let below10 = below_more group Within c.requires.below c.in_default.ensures in
    let below11 = below_more group Apart below10 (c.if-not-legs_lie_apart.ensures.apart.0 refl) in
    let below12 = below_more group Depth below11 (c.if-not-depth_is_allowed.ensures.depth.0 refl) in
    below_more group Moved below12 c.in_default-stray_moved.ensures
