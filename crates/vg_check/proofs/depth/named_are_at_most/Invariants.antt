use Rattle.std.proofs.Common.{ℕ, ◌<◌, ◌≤◌, map}
use Rattle.volume_rules.specs.Depths.{greatest}
use Rattle.volume_rules.specs.Moving.{named_by}
use Rattle.vg_check.specs.Climbing.{told}
use Rattle.vg_check.proofs.depth.named_are_at_most.Given as goal

abbrev pub invariant-loop-number : goal.invariant-loop-number
invariant-loop-number l = (lv : ℕ) → lv < l.number → greatest (map (told l.numbers) (named_by l.group lv)) ≤ l.most
