use Rattle.std.proofs.Common.{◌≡◌, replicate}
use Rattle.flush_waits.specs.Waits.{none_waits}
use Rattle.flush_waits.proofs.waits.FlushWaits.new.Given as goal

abbrev pub invariant-loop : goal.invariant-loop
invariant-loop l = l.queues.items ≡ replicate l.counter none_waits
