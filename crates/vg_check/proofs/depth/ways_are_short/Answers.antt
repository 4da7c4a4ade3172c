use Rattle.std.proofs.Common.{rules, sym, ◌∙◌, arith}
use Rattle.std.proofs.lemmas.List.{length-take-le}
use Rattle.vg_check.proofs.ShortWays.{room_for_volumes, first_fails, second_tells}
use Rattle.vg_check.proofs.depth.ways_are_short.Goals as goal

pub slice_bounds-numbers-end : goal.slice_bounds-numbers-end
slice_bounds-numbers-end c = omega (arith, room_for_volumes c.args.group.now.lvs)

pub slice_bounds-numbers-end-2 : goal.slice_bounds-numbers-end-2
slice_bounds-numbers-end-2 c = sym (length-take-le c.lv_count.result c.args.runs.now (omega (arith, room_for_volumes c.args.group.now.lvs)))

pub climbs_at_most-requires-clause-long : goal.climbs_at_most-requires-clause-long
climbs_at_most-requires-clause-long c =
    length-take-le c.lv_count.result c.args.runs.now (omega (arith, room_for_volumes c.args.group.now.lvs)) ∙ c.lv_count.ensures

pub climbs_at_most-requires-then-climbs_at_most-clause-long :
    goal.climbs_at_most-requires-then-climbs_at_most-clause-long
climbs_at_most-requires-then-climbs_at_most-clause-long c =
    omega (
      arith,
      length-take-le c.lv_count.result c.args.runs.now (omega (arith, room_for_volumes c.args.group.now.lvs)),
      c.lv_count.ensures,
    )

pub returns-then-climbs_at_most : goal.returns-then-climbs_at_most
returns-then-climbs_at_most c =
    second_tells c.args.group.now c.pvmove.result c.climbs_at_most-then-climbs_at_most.result c.pvmove.ensures
    (c.if-climbs_at_most.ensures.0 (search rules)) c.climbs_at_most-then-climbs_at_most.ensures

pub returns-else-climbs_at_most : goal.returns-else-climbs_at_most
returns-else-climbs_at_most c = first_fails c.args.group.now c.climbs_at_most.result c.if-climbs_at_most.false c.climbs_at_most.ensures
