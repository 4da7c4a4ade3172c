use Rattle.std.proofs.Common.{rules, ap, ◌∙◌}
use Rattle.std.specs.List.{flat_map}
use Rattle.extent_map.specs.ByVolume.{each_with, lists_of}
use Rattle.extent_map.specs.Covered.{lv_on, lvs_on, segment_on}
use Rattle.extent_map.proofs.Buckets.{each_nothing, each_of_empty, each_row}
use Rattle.extent_map.proofs.LegsOnVolume.{legs_of_row}
use Rattle.extent_map.proofs.by_volume.runs_by_volume.Goals as goal

pub put_segments-requires : goal.put_segments-requires
put_segments-requires c =
    legs_of_row c.args.lvs.now c.loop-number.number (c.get.result.0.now, c.get.result.1.now) _ c.requires c.get.ensures c.as_slice.ensures

pub loop-number-init : goal.loop-number-init
loop-number-init c =
    ap (each_with (λ pv. lvs_on pv c.args.lvs.now) 0) c.in_ok-buckets.ensures ∙ each_of_empty (λ pv. lvs_on pv c.args.lvs.now) 0 c.args.pvs

pub loop-number-preserved : goal.loop-number-preserved
loop-number-preserved c =
    each_row (λ pv. lv_on pv) c.args.lvs.now c.loop-number.number (c.get.result.0.now, c.get.result.1.now)
    (lists_of c.loop-number.buckets.items) _ c.get.ensures
    (c.in_ok-put_segments.ensures ∙ ap (λ segments. each_with (λ pv. flat_map (segment_on pv) segments) 0
    (lists_of c.loop-number.buckets.items)) c.as_slice.ensures)
    ∙ c.loop-number.invariant

pub returns : goal.returns
returns c =
    each_nothing (λ pv. lv_on pv) c.args.lvs.now c.loop-number.number (lists_of c.loop-number.buckets.items) (search rules)
    ∙ c.loop-number.invariant
