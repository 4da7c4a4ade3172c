use Rattle.std.proofs.Common.{◌-◌, ◌*◌}
use Rattle.table_lock.proofs.tests.+fn-write_by_each-join+arg3+write_by_each.Given as goal

abbrev pub decreases-write_by_each : goal.decreases-write_by_each
decreases-write_by_each g l = 2 * l.workers

abbrev pub decreases-join+arg3 : goal.decreases-join+arg3
decreases-join+arg3 g l = 2 * l.workers - 1
