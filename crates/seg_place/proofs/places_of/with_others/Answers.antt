use Rattle.seg_place.specs.CodeValues.{seen}
use Rattle.seg_place.proofs.Spots.{has_legs}
use Rattle.seg_place.proofs.places_of.with_others.Goals as goal

pub mirror_of-mirror-requires : goal.mirror_of-mirror-requires
mirror_of-mirror-requires g c = has_legs c.args.group.now (seen c.args.met) c.requires.accepted c.requires.met
