use Rattle.std.proofs.Common.{rules}
use Rattle.vg_check.proofs.AllIds.{first_fails, second_tells}
use Rattle.vg_check.proofs.ids.both_differ.Goals as goal

pub returns-then-kind_differs : goal.returns-then-kind_differs
returns-then-kind_differs c =
    second_tells c.args.group.now c.kind_differs-then-kind_differs.result (c.if-kind_differs.ensures.0 (search rules))
    c.kind_differs-then-kind_differs.ensures

pub returns-else-kind_differs : goal.returns-else-kind_differs
returns-else-kind_differs c = first_fails c.args.group.now c.kind_differs.result c.if-kind_differs.false c.kind_differs.ensures
