use Rattle.std.proofs.Common.{◌≡◌, ◌<◌, ◌-◌, ℕ, false, length, get_or}
use Rattle.claim_table.specs.declared.placed.Placed.{Placed}
use Rattle.claim_table.specs.Places.{is_met}
use Rattle.claim_table.proofs.places.first_met.Given as goal

abbrev pub invariant-loop-at : goal.invariant-loop-at
invariant-loop-at l = (k : ℕ) (d : Placed) → k < l.at → is_met l.piece l.limit (get_or l.places.items k d) ≡ false

abbrev pub decreases-loop-at : goal.decreases-loop-at
decreases-loop-at l = length l.places.items - l.at
