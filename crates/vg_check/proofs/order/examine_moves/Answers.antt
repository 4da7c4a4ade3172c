-- Each exit: what was kept before, and the offence there.
use Rattle.std.proofs.Common.{refl}
use Rattle.std.proofs.lemmas.Bool.{false≢true}
use Rattle.volume_rules.specs.declared.rule.Rule.TheVariants.{Pvmove, Locked}
use Rattle.volume_rules.specs.Rules.{IsAccepted}
use Rattle.volume_rules.proofs.FirstBroken.{accepted_from, below_more}
use Rattle.vg_check.proofs.Refusals.{refused_first}
use Rattle.vg_check.proofs.order.examine_moves.Goals as goal

pub returns-clause-first : goal.returns-clause-first
returns-clause-first c =
    let group = c.args.group.now in
    let below14 = below_more group Pvmove c.requires.below (c.if-not-move_is_allowed.ensures.allowed.0 refl) in
    accepted_from group (below_more group Locked below14 (c.if-not-locked_volumes_move.ensures.locked.0 refl))

pub returns-then-not-move_is_allowed-clause-first : goal.returns-then-not-move_is_allowed-clause-first
returns-then-not-move_is_allowed-clause-first c =
    let group = c.args.group.now in
    refused_first group (IsAccepted group) Pvmove 0 0 _ c.refused.ensures c.requires.below
    (refl, refl, λ keeps. false≢true (c.if-not-move_is_allowed.ensures.allowed.1 keeps))

pub returns-then-not-locked_volumes_move-clause-first : goal.returns-then-not-locked_volumes_move-clause-first
returns-then-not-locked_volumes_move-clause-first c =
    let group = c.args.group.now in
    let below14 = below_more group Pvmove c.requires.below (c.if-not-move_is_allowed.ensures.allowed.0 refl) in
    refused_first group (IsAccepted group) Locked 0 0 _ c.refused-then-not-locked_volumes_move.ensures below14
    (refl, refl, λ keeps. false≢true (c.if-not-locked_volumes_move.ensures.locked.1 keeps))

pub locked_volumes_move-requires-clause-below : goal.locked_volumes_move-requires-clause-below
locked_volumes_move-requires-clause-below c =
    below_more c.args.group.now Pvmove c.requires.below (c.if-not-move_is_allowed.ensures.allowed.0 refl)
