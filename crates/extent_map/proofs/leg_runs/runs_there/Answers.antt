use Rattle.std.proofs.Common.{◌++◌, ◌+◌, List, drop, sym, ap, ◌∙◌, append_assoc}
use Rattle.std.specs.List.{flat_map}
use Rattle.meta_model.specs.declared.extent_span.ExtentSpan.{ExtentSpan}
use Rattle.extent_map.specs.Covered.{lv_on, segment_on}
use Rattle.extent_map.proofs.LegsOnVolume.{legs_of_row}
use Rattle.list_laws.proofs.RowWalks.{flat_row}
use Rattle.extent_map.proofs.leg_runs.runs_there.Goals as goal

pub add_segments-requires : goal.add_segments-requires
add_segments-requires c =
    legs_of_row c.args.lvs.now c.loop-number.number (c.get.result.0.now, c.get.result.1.now) _ c.requires c.get.ensures c.as_slice.ensures

pub loop-number-preserved : goal.loop-number-preserved
loop-number-preserved c =
    let before : List ExtentSpan = c.loop-number.runs.items in
    let here : List ExtentSpan = lv_on c.args.pv (c.get.result.0.now, c.get.result.1.now) in
    let after : List ExtentSpan = flat_map (lv_on c.args.pv) (drop (c.loop-number.number + 1) c.args.lvs.now) in
    ap (λ some. some ++ after) (c.in_ok-add_segments.ensures
    ∙ ap (λ segments. before ++ flat_map (segment_on c.args.pv) segments) c.as_slice.ensures)
    ∙ append_assoc before here after
    ∙ ap (λ some. before ++ some) (sym (flat_row (lv_on c.args.pv) c.args.lvs.now c.loop-number.number
    (c.get.result.0.now, c.get.result.1.now) c.get.ensures))
    ∙ c.loop-number.invariant
