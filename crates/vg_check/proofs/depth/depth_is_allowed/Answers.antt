use Rattle.std.proofs.Common.{rules}
use Rattle.vg_check.proofs.ShortWays.{depth_tells}
use Rattle.vg_check.proofs.depth.depth_is_allowed.Goals as goal

pub returns-then-volumes_below_are_hidden-clause-depth :
    goal.returns-then-volumes_below_are_hidden-clause-depth
returns-then-volumes_below_are_hidden-clause-depth c =
    depth_tells c.args.group.now c.ways_are_short.result (c.if-volumes_below_are_hidden.ensures.0 (search rules)) c.ways_are_short.ensures
