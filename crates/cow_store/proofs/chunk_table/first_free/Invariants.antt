-- No slot so far is free.
use Rattle.std.proofs.Common.{◌≡◌, ◌≤◌, ◌<◌, ◌-◌, ℕ, false, length, get_or}
use Rattle.cow_store.specs.Entries.{is_free}
use Rattle.cow_store.proofs.chunk_table.first_free.Given as goal

abbrev pub invariant-loop-at : goal.invariant-loop-at
invariant-loop-at l = record {
  within : l.at ≤ length l.entries;
  none : (k : ℕ) → k < l.at → is_free (get_or l.entries k 0) ≡ false;
}

abbrev pub decreases-loop-at : goal.decreases-loop-at
decreases-loop-at l = length l.entries - l.at
