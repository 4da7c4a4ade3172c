use Rattle.std.proofs.Common.{ℕ, slice_index_or, Some, ap, sym, ◌∙◌, arith}
use Rattle.meta_model.specs.declared.segment.Leg.{Leg}
use Rattle.meta_model.specs.declared.segment.On.TheVariants as on
use Rattle.meta_model.specs.Runs.{legs_of}
use Rattle.volume_view.specs.InSegments.{spot_in}
use Rattle.seg_place.specs.CodeValues.{seen}
use Rattle.seg_place.proofs.Spots.{has_legs, leg_read, leg_small, leg_there}
use Rattle.seg_place.proofs.spot.leg_spot.Goals as goal

-- what stands where there is no leg
abbrev none : Leg
none = record { on = on.Pv 0; first = 0 }

pub offset_in-offset-requires : goal.offset_in-offset-requires
offset_in-offset-requires c = has_legs c.args.group.now (seen c.args.met) c.requires.accepted c.requires.met

pub overflow_mul-result : goal.overflow_mul-result
overflow_mul-result c =
    let leg = slice_index_or c.as_slice.result.now c.args.leg none in
    let there =
    leg_read c.as_slice.result.now (legs_of c.args.met.segment.now.kind) c.args.leg none (c.as_slice.ensures ∙ c.legs.ensures)
    c.requires.within in
    let small = leg_small c.args.group.now (seen c.args.met) c.args.leg leg c.requires.accepted c.requires.met there in
    omega (arith, small)

pub overflow_add-result : goal.overflow_add-result
overflow_add-result c =
    let leg = slice_index_or c.as_slice.result.now c.args.leg none in
    let there =
    leg_read c.as_slice.result.now (legs_of c.args.met.segment.now.kind) c.args.leg none (c.as_slice.ensures ∙ c.legs.ensures)
    c.requires.within in
    let small = leg_small c.args.group.now (seen c.args.met) c.args.leg leg c.requires.accepted c.requires.met there in
    omega (arith, small, c.offset_in-offset.ensures)

pub returns-clause-spot : goal.returns-clause-spot
returns-clause-spot c =
    let leg = slice_index_or c.as_slice.result.now c.args.leg none in
    let there =
    leg_read c.as_slice.result.now (legs_of c.args.met.segment.now.kind) c.args.leg none (c.as_slice.ensures ∙ c.legs.ensures)
    c.requires.within in
    leg_there c.args.group.now.extent_size (seen c.args.met) c.args.leg leg there
    ∙ ap (λ (n : ℕ). Some (spot_in c.args.group.now.extent_size n leg)) (sym c.offset_in-offset.ensures)

pub returns-clause-small : goal.returns-clause-small
returns-clause-small c =
    let leg = slice_index_or c.as_slice.result.now c.args.leg none in
    let there =
    leg_read c.as_slice.result.now (legs_of c.args.met.segment.now.kind) c.args.leg none (c.as_slice.ensures ∙ c.legs.ensures)
    c.requires.within in
    let small = leg_small c.args.group.now (seen c.args.met) c.args.leg leg c.requires.accepted c.requires.met there in
    omega (arith, small, c.offset_in-offset.ensures)
