-- The rows so far.
use Rattle.std.proofs.Common.{◌≡◌, take}
use Rattle.meta_model.proofs.copies.copied_table.Given as goal

abbrev pub invariant-loop-number : goal.invariant-loop-number
invariant-loop-number g l = l.copy ≡ take l.number l.table
