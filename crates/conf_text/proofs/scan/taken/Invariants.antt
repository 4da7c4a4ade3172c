use Rattle.std.proofs.Common.{◌≡◌, ◌≤◌, ◌-◌, false, length}
use Rattle.conf_text.specs.Scan.{Between, scan_at, with_tokens}
use Rattle.conf_text.proofs.scan.taken.Given as goal

abbrev pub invariant-loop-tokens : goal.invariant-loop-tokens
invariant-loop-tokens l =
    (l.at ≤ length l.text) × (scan_at l.text (Between false) 0 ≡ with_tokens l.tokens.items (scan_at l.text (Between false) l.at))

abbrev pub decreases-loop-tokens : goal.decreases-loop-tokens
decreases-loop-tokens l = length l.initial.text - l.at
