use Rattle.std.proofs.Common.{◌||◌, ◌+◌, drop, sym, ap, ◌∙◌}
use Rattle.std.specs.List.{flat_map, list_any}
use Rattle.std.proofs.lemmas.Bool.{or_left}
use Rattle.extent_map.specs.Covered.{is_in, segment_on, lv_on}
use Rattle.extent_map.proofs.LegsOnVolume.{legs_of_row}
use Rattle.list_laws.proofs.RowWalks.{any_row}
use Rattle.extent_map.proofs.used_extents.volumes_have.Goals as goal

pub segments_have-requires : goal.segments_have-requires
segments_have-requires c =
    legs_of_row c.args.lvs.now c.loop-number.number (c.get.result.0.now, c.get.result.1.now) _ c.requires c.get.ensures c.as_slice.ensures

pub returns-then-segments_have : goal.returns-then-segments_have
returns-then-segments_have c =
    let found =
    ap (λ segments. list_any (is_in c.args.extent) (flat_map (segment_on c.args.pv) segments)) (sym c.as_slice.ensures)
    ∙ sym c.segments_have.ensures ∙ c.if-segments_have.true in
    sym (c.loop-number.invariant
    ∙ any_row (is_in c.args.extent) (lv_on c.args.pv) c.args.lvs.now c.loop-number.number (c.get.result.0.now, c.get.result.1.now)
    c.get.ensures
    ∙ or_left _ _ found)

pub loop-number-preserved : goal.loop-number-preserved
loop-number-preserved c =
    let missed =
    ap (λ segments. list_any (is_in c.args.extent) (flat_map (segment_on c.args.pv) segments)) (sym c.as_slice.ensures)
    ∙ sym c.segments_have.ensures ∙ c.if-segments_have.false in
    c.loop-number.invariant
    ∙ any_row (is_in c.args.extent) (lv_on c.args.pv) c.args.lvs.now c.loop-number.number (c.get.result.0.now, c.get.result.1.now)
    c.get.ensures
    ∙ ap (λ here. here || list_any (is_in c.args.extent) (flat_map (lv_on c.args.pv) (drop (c.loop-number.number + 1) c.args.lvs.now)))
    missed
