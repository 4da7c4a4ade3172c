use Rattle.std.proofs.Common.{arith}
use Rattle.volume_view.proofs.MetSegments.{Meets, meets_is}
use Rattle.seg_place.specs.CodeValues.{seen}
use Rattle.seg_place.proofs.Descending.{is_met, some_is}
use Rattle.seg_place.proofs.FoundSegments.{volume_there}
use Rattle.seg_place.proofs.deciding.+first_met.Goals as goal

pub is_sought-requires : goal.is_sought-requires
is_sought-requires g t c =
    let group = c.args.group.now in
    let met = seen c.segment_at-met.result in
    let meets : Meets group c.in-Lv.lv c.args.spot.sector met =
    meets_is group c.in-Lv.lv c.args.spot.sector met c.segment_at-met.ensures.met in
    let there = volume_there group c.in-Lv.lv c.args.spot.sector c.requires.accepted (some_is _ met c.segment_at-met.ensures.met) in
    omega (arith, there, meets.same_lv)

pub primary_spot-requires-clause-met : goal.primary_spot-requires-clause-met
primary_spot-requires-clause-met g t c =
    is_met c.args.group.now c.in-Lv.lv c.args.spot.sector (seen c.segment_at-met.result) c.segment_at-met.ensures.met
