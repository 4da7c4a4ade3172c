use Rattle.std.proofs.Common.{sym, ◌∙◌, arith}
use Rattle.std.proofs.lemmas.List.{length-take-le}
use Rattle.volume_rules.specs.declared.rule.Rule.TheVariants.{Depth}
use Rattle.vg_check.proofs.MarkedVolumes.{locked_tell}
use Rattle.vg_check.proofs.ShortWays.{room_for_volumes}
use Rattle.vg_check.proofs.moving.marks_tell.Goals as goal

pub slice_bounds-numbers-end : goal.slice_bounds-numbers-end
slice_bounds-numbers-end c = omega (arith, room_for_volumes c.args.group.now.lvs)

pub slice_bounds-numbers-end-2 : goal.slice_bounds-numbers-end-2
slice_bounds-numbers-end-2 c = sym (length-take-le c.lv_count.result c.args.runs.now (omega (arith, room_for_volumes c.args.group.now.lvs)))

pub climb_five-requires-clause-long : goal.climb_five-requires-clause-long
climb_five-requires-clause-long c =
    length-take-le c.lv_count.result c.args.runs.now (omega (arith, room_for_volumes c.args.group.now.lvs)) ∙ c.lv_count.ensures

pub locked_are_marked-requires : goal.locked_are_marked-requires
locked_are_marked-requires c =
    omega (
      arith,
      length-take-le c.lv_count.result c.args.runs.now (omega (arith, room_for_volumes c.args.group.now.lvs)),
      c.lv_count.ensures,
    )

pub returns : goal.returns
returns c =
    locked_tell c.args.group.now c.climb_five.new.numbers c.locked_are_marked.result (c.requires.below Depth (omega arith))
    (omega (
      arith,
      length-take-le c.lv_count.result c.args.runs.now (omega (arith, room_for_volumes c.args.group.now.lvs)),
      c.lv_count.ensures,
    )) c.climb_five.ensures c.locked_are_marked.ensures
