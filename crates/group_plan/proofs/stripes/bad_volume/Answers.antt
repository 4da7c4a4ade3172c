use Rattle.std.proofs.Common.{◌≤◌, ℕ, List, Option, length, ap, ◌∙◌, arith}
use Rattle.line_answers.specs.declared.op_refusal.OpRefusal.{OpRefusal}
use Rattle.meta_model.specs.declared.lv.Lv.{Lv}
use Rattle.group_plan.specs.Stripes.{segments_row, stripes_row}
use Rattle.group_plan.proofs.RowWalks.{row_here, row_past, rows_past}
use Rattle.group_plan.proofs.stripes.bad_volume.Goals as goal

-- the row of each volume
abbrev row : ℕ → List ℕ × Lv → Option OpRefusal
row extent_size lv = segments_row extent_size lv.1.segments

pub returns-in-Some : goal.returns-in-Some
returns-in-Some c =
    row_here (row c.args.group.now.extent_size) c.args.group.now.lvs c.loop-place.place (stripes_row c.args.group.now)
    c.loop-place.invariant _ c.in-Some.refusal c.get.ensures
    (c.in-Some.ensures ∙ ap (segments_row c.args.group.now.extent_size) c.as_slice.ensures)

pub loop-place-preserved : goal.loop-place-preserved
loop-place-preserved c =
    row_past (row c.args.group.now.extent_size) c.args.group.now.lvs c.loop-place.place (stripes_row c.args.group.now)
    c.loop-place.invariant _ c.get.ensures (c.in_default.ensures ∙ ap (segments_row c.args.group.now.extent_size) c.as_slice.ensures)

pub returns : goal.returns
returns c =
    let past : length c.args.group.now.lvs ≤ c.loop-place.place = omega (arith, c.loop-place-test.false, c.len-place-end.ensures.count) in
    rows_past (row c.args.group.now.extent_size) c.args.group.now.lvs c.loop-place.place (stripes_row c.args.group.now)
    c.loop-place.invariant past
