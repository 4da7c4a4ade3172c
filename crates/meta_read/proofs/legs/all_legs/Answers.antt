use Rattle.std.proofs.Common.{[]}
use Rattle.meta_model.specs.Standing.{leg_of}
use Rattle.meta_read.specs.Reading.{as_pair}
use Rattle.meta_read.proofs.Each.{each_turn}
use Rattle.std.proofs.Common.{refl}
use Rattle.meta_read.proofs.legs.all_legs.Goals as goal

pub loop-name-preserved : goal.loop-name-preserved
loop-name-preserved c =
    each_turn (leg_of c.args.places.now) as_pair c.args.pairs.now c.loop-name.name-index _ (record { ref_ptr = (0, 0); now = [] }, 0)
    c.loop-name.legs.items _ _ _ c.loop-name-test.true refl
    c.in_ok-read_leg.ensures c.in_ok-push.ensures.items c.loop-name.invariant
