-- The disks so far are listed.
use Rattle.std.proofs.Common.{◌≡◌, ◌<◌, ℕ, true}
use Rattle.disk_use.specs.Unlisted.{is_marked_at}
use Rattle.disk_use.specs.Uses.{IsAmong}
use Rattle.disk_use.proofs.unlisted.first_unlisted.Given as goal

abbrev pub invariant-loop-number : goal.invariant-loop-number
invariant-loop-number l = (pv : ℕ) → pv < l.number → is_marked_at l.found pv ≡ true → IsAmong l.found pv
