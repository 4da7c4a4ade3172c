use Rattle.std.proofs.Common.{◌≡◌, ◌/◌, ◌<◌, ℕ, List, length, ap, subst, sym, ◌∙◌, arith}
use Rattle.std.specs.Prelude.{sum_by}
use Rattle.meta_model.specs.declared.segment.Segment.{Segment}
use Rattle.volume_rules.specs.Rules.{Follow}
use Rattle.std.proofs.lemmas.Option.{slice_get_within}
use Rattle.seg_place.specs.Search.{Halves, HasExtent}
use Rattle.seg_place.specs.Sectors.{segments_in}
use Rattle.seg_place.proofs.FoundSegments.{is_found_at, volume_there, volume_within}
use Rattle.seg_place.proofs.Volumes.{extent_is_some, lv_is_well, segments_in_one}
use Rattle.seg_place.proofs.met_segment.segment_at.Goals as goal

-- what was found of the starts of these segments
at_slice : (starts segments : List Segment) (extent number : ℕ) → starts ≡ segments → HasExtent starts extent number
    → HasExtent segments extent number
at_slice starts segments extent number same has = subst (λ (l : List Segment). HasExtent l extent number) same has

pub get-requires : goal.get-requires
get-requires g c = volume_there c.args.group.now c.args.lv c.args.sector c.requires.accepted c.requires.stands

pub nonzero_div-sector : goal.nonzero_div-sector
nonzero_div-sector g c = omega (arith, extent_is_some c.args.group.now c.requires.accepted)

pub number_with-number-requires-clause-follow : goal.number_with-number-requires-clause-follow
number_with-number-requires-clause-follow g c =
    subst (Follow 0) (sym (c.of.ensures ∙ c.as_slice-segments.ensures))
    (lv_is_well c.args.group.now c.args.lv (c.get.result.0.now, c.get.result.1.now) c.requires.accepted c.get.ensures).follow

pub number_with-number-requires-clause-within : goal.number_with-number-requires-clause-within
number_with-number-requires-clause-within g c =
    subst (λ (segments : List Segment). c.args.sector / c.args.group.now.extent_size < sum_by (λ (s : Segment). s.count) segments)
    (sym (c.of.ensures ∙ c.as_slice-segments.ensures))
    (volume_within c.args.group.now c.args.lv c.args.sector (c.get.result.0.now, c.get.result.1.now) c.requires.accepted c.requires.stands
    c.get.ensures)

pub offset_bounds-segments-number : goal.offset_bounds-segments-number
offset_bounds-segments-number g c =
    let found = at_slice c.of.result c.as_slice-segments.result.now (c.args.sector / c.args.group.now.extent_size)
    c.number_with-number.result c.of.ensures c.number_with-number.ensures.found in omega
    (arith, slice_get_within c.as_slice-segments.result.now c.number_with-number.result found.0 found.1)

pub bounds-segments-number : goal.bounds-segments-number
bounds-segments-number g c =
    let found = at_slice c.of.result c.as_slice-segments.result.now (c.args.sector / c.args.group.now.extent_size)
    c.number_with-number.result c.of.ensures c.number_with-number.ensures.found in slice_get_within c.as_slice-segments.result.now
    c.number_with-number.result found.0 found.1

pub overflow_cast-result : goal.overflow_cast-result
overflow_cast-result g c =
    let found =
    is_found_at c.args.group.now c.args.lv c.args.sector (c.get.result.0.now, c.get.result.1.now) c.as_slice-segments.result.now
    c.number_with-number.result c.index-segments-number.result c.requires.accepted c.get.ensures c.as_slice-segments.ensures
    (at_slice c.of.result c.as_slice-segments.result.now (c.args.sector / c.args.group.now.extent_size) c.number_with-number.result
    c.of.ensures c.number_with-number.ensures.found) (λ lt. c.index-segments-number.is) in
    omega (arith, found.few)

pub overflow_mul-result : goal.overflow_mul-result
overflow_mul-result g c =
    let found =
    is_found_at c.args.group.now c.args.lv c.args.sector (c.get.result.0.now, c.get.result.1.now) c.as_slice-segments.result.now
    c.number_with-number.result c.index-segments-number.result c.requires.accepted c.get.ensures c.as_slice-segments.ensures
    (at_slice c.of.result c.as_slice-segments.result.now (c.args.sector / c.args.group.now.extent_size) c.number_with-number.result
    c.of.ensures c.number_with-number.ensures.found) (λ lt. c.index-segments-number.is) in
    omega (arith, found.begins)

pub overflow_sub-result : goal.overflow_sub-result
overflow_sub-result g c =
    let found =
    is_found_at c.args.group.now c.args.lv c.args.sector (c.get.result.0.now, c.get.result.1.now) c.as_slice-segments.result.now
    c.number_with-number.result c.index-segments-number.result c.requires.accepted c.get.ensures c.as_slice-segments.ensures
    (at_slice c.of.result c.as_slice-segments.result.now (c.args.sector / c.args.group.now.extent_size) c.number_with-number.result
    c.of.ensures c.number_with-number.ensures.found) (λ lt. c.index-segments-number.is) in
    found.begins

pub returns-clause-met : goal.returns-clause-met
returns-clause-met g c =
    let found =
    is_found_at c.args.group.now c.args.lv c.args.sector (c.get.result.0.now, c.get.result.1.now) c.as_slice-segments.result.now
    c.number_with-number.result c.index-segments-number.result c.requires.accepted c.get.ensures c.as_slice-segments.ensures
    (at_slice c.of.result c.as_slice-segments.result.now (c.args.sector / c.args.group.now.extent_size) c.number_with-number.result
    c.of.ensures c.number_with-number.ensures.found) (λ lt. c.index-segments-number.is) in
    found.meets

pub returns-clause-steps : goal.returns-clause-steps
returns-clause-steps g c =
    let many : length c.of.result ≡ segments_in c.args.group.now c.args.lv =
    ap (λ (segments : List Segment). length segments) (c.of.ensures ∙ c.as_slice-segments.ensures)
    ∙ sym (segments_in_one c.args.group.now c.args.lv (c.get.result.0.now, c.get.result.1.now) c.get.ensures) in
    subst (λ (m : ℕ). Halves m c.args.steps.now c.number_with-number.new.steps) many c.number_with-number.ensures.steps
