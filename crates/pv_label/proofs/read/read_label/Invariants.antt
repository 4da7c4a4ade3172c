-- No sector so far is a label, and the refusal is that of the first that begins like one.
use Rattle.std.proofs.Common.{ℕ, ◌<◌}
use Rattle.pv_label.specs.Label.{IsFirstRefusal, IsLabel, sector_at}
use Rattle.pv_label.proofs.read.read_label.Given as goal

abbrev pub invariant-loop-number : goal.invariant-loop-number
invariant-loop-number l = record {
  none : (k : ℕ) → k < l.number → ¬ IsLabel (sector_at l.sectors k) k;
  cause : IsFirstRefusal l.sectors l.number l.refusal;
}
