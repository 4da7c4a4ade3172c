use Rattle.std.proofs.Common.{◌<◌, ℕ, length, subst, sym}
use Rattle.meta_model.specs.Runs.{legs_of}
use Rattle.seg_place.specs.CodeValues.{seen}
use Rattle.seg_place.proofs.Spots.{has_legs, primary_within}
use Rattle.seg_place.proofs.spot.primary_spot.Goals as goal

pub primary_leg-requires : goal.primary_leg-requires
primary_leg-requires c = has_legs c.args.group.now (seen c.args.met) c.requires.accepted c.requires.met

pub leg_spot-requires-clause-within : goal.leg_spot-requires-clause-within
leg_spot-requires-clause-within c =
    let segment = c.args.met.segment.now in
    subst (λ (k : ℕ). k < length (legs_of segment.kind)) (sym c.primary_leg.ensures)
    (primary_within segment.count segment.kind c.args.met.at
    (has_legs c.args.group.now (seen c.args.met) c.requires.accepted c.requires.met))
