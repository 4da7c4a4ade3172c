use Rattle.std.proofs.Common.{sym, subst, arith}
use Rattle.std.specs.Prelude.{All}
use Rattle.volume_rules.specs.Sorting.{CanBeSorted}
use Rattle.vg_check.proofs.SortedLegs.{group_fits, runs_sortable, sorted_front}
use Rattle.vg_check.proofs.apart.sort_legs.Goals as goal

pub put_group-count-requires-clause-room : goal.put_group-count-requires-clause-room
put_group-count-requires-clause-room c = omega (arith, group_fits c.args.group.now)

pub sort_front-requires-clause-sortable : goal.sort_front-requires-clause-sortable
sort_front-requires-clause-sortable c =
    subst (All CanBeSorted) (sym c.put_group-count.ensures.front) (runs_sortable c.args.group.now c.requires.below)

pub returns-clause-sorted : goal.returns-clause-sorted
returns-clause-sorted c =
    sorted_front c.args.group.now c.put_group-count.result _ _ c.put_group-count.ensures.counted c.put_group-count.ensures.front
    c.sort_front.ensures.order c.sort_front.ensures.moved
