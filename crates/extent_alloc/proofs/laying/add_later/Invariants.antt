use Rattle.std.proofs.Common.{◌≡◌, ◌++◌, take}
use Rattle.extent_alloc.specs.Laying.{all_later}
use Rattle.extent_alloc.proofs.laying.add_later.Given as goal

abbrev pub invariant-loop-begin : goal.invariant-loop-begin
invariant-loop-begin l = l.runs.items ≡ l.fn.runs.items ++ all_later l.by (take l.begin-index l.begins)
