use Rattle.std.proofs.Common.{sym, subst, arith}
use Rattle.std.specs.Prelude.{All}
use Rattle.volume_rules.specs.Sorting.{CanBeSorted}
use Rattle.vg_check.proofs.SortedLegs.{group_fits, runs_sortable, apart_tells, sorted_front}
use Rattle.vg_check.proofs.apart.group_lies_apart.Goals as goal

pub put_group-count-requires-clause-room : goal.put_group-count-requires-clause-room
put_group-count-requires-clause-room c = omega (arith, group_fits c.args.group.now)

pub front_lies_apart-requires-clause-sortable : goal.front_lies_apart-requires-clause-sortable
front_lies_apart-requires-clause-sortable c =
    subst (All CanBeSorted) (sym c.put_group-count.ensures.front) (runs_sortable c.args.group.now c.requires.below)

pub returns-clause-apart : goal.returns-clause-apart
returns-clause-apart c =
    apart_tells c.args.group.now c.front_lies_apart.result _ c.put_group-count.ensures.front c.front_lies_apart.ensures.apart

pub returns-clause-sorted : goal.returns-clause-sorted
returns-clause-sorted c =
    sorted_front c.args.group.now c.put_group-count.result _ _ c.put_group-count.ensures.counted c.put_group-count.ensures.front
    c.front_lies_apart.ensures.order c.front_lies_apart.ensures.moved
