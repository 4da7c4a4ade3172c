use Rattle.std.proofs.Common.{◌+◌, ◌++◌, ◌∷◌, [], List, length, length-append, ap, ◌∙◌, arith}
use Rattle.sector_base.specs.declared.places.At.{At}
use Rattle.meta_model.specs.declared.segment.Leg.{Leg}
use Rattle.volume_view.specs.Places.{others_of}
use Rattle.seg_place.specs.CodeValues.{as_spot, seen}
use Rattle.seg_place.proofs.OtherLegs.{legs_are_few, other_leads, others_all, others_first, others_from, others_more}
use Rattle.seg_place.proofs.places_of.others_of.Goals as goal

pub loop-leg-init : goal.loop-leg-init
loop-leg-init g c =
    let behind : List At = others_from c.args.group.now (seen c.args.met) 1 in
    record {
      so_far =
          ap (λ (others : List At). others ++ behind) c.new-others.ensures
          ∙ others_first c.args.group.now (seen c.args.met) c.requires.mirror;
      few = omega (arith, ap (λ (others : List At). length others) c.new-others.ensures);
    }

pub follow-requires-clause-leads : goal.follow-requires-clause-leads
follow-requires-clause-leads g c =
    other_leads c.args.group.now (seen c.args.met) c.loop-leg.leg (as_spot c.leg_spot.result) c.requires.accepted c.requires.met
    c.leg_spot.ensures.spot

pub push-requires : goal.push-requires
push-requires g c =
    omega (
      arith,
      c.loop-leg.invariant.few,
      c.len-leg-end.ensures,
      ap (λ (legs : List Leg). length legs) c.legs.ensures,
      legs_are_few c.args.group.now (seen c.args.met) c.requires.accepted c.requires.met,
    )

pub loop-leg-preserved : goal.loop-leg-preserved
loop-leg-preserved g c =
    let group = c.args.group.now in
    let met = seen c.args.met in
    let behind : List At = others_from group met (c.loop-leg.leg + 1) in
    record {
      so_far =
          ap (λ (others : List At). others ++ behind) c.push.ensures
          ∙ others_more group met c.loop-leg.leg (as_spot c.leg_spot.result) c.follow.result c.loop-leg.others (others_of group met)
          c.requires.mirror (omega arith) c.leg_spot.ensures.spot c.follow.ensures.at c.loop-leg.invariant.so_far;
      few =
          omega (
            arith,
            c.loop-leg.invariant.few,
            ap (λ (others : List At). length others) c.push.ensures,
            length-append c.loop-leg.others (c.follow.result ∷ []),
          );
    }

pub returns : goal.returns
returns g c =
    others_all c.args.group.now (seen c.args.met) c.loop-leg.leg c.loop-leg.others (others_of c.args.group.now (seen c.args.met))
    (omega (arith, c.len-leg-end.ensures, ap (λ (legs : List Leg). length legs) c.legs.ensures)) c.loop-leg.invariant.so_far
