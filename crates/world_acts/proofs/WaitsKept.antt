-- What waits on the disks: what a step on one disk makes of the counts.
use Rattle.std.proofs.Common.{◌≡◌, ◌<◌, ℕ, ◌+◌, Bool, List, [], ◌∷◌, ◌++◌, length, get_or, set, count_by, sum_by}
use Rattle.std.proofs.lemmas.List.{length-set}
use Rattle.std.proofs.lemmas.List.Sums.{sum_by-cons, sum_by-set, sum_by_push}
use Rattle.flush_waits.specs.declared.ticket.Waiting.{Waiting}
use Rattle.flush_waits.specs.Waits.{DiskWaits, none_waits}
use Rattle.world_acts.specs.Counts.{waiting}
use Rattle.world_acts.proofs.LinesKept.{hit}

-- how many wait on all disks that no flush serves
abbrev pub unserved : List DiskWaits → ℕ
unserved disks = sum_by (λ (d : DiskWaits). length d.next) disks

-- how many of one disk pass a test
abbrev pub waiting_on : (Waiting → Bool) → DiskWaits → ℕ
waiting_on test d = count_by test d.served + count_by test d.next

-- what a step on one disk makes of the counts
pub record OneDisk (old new : List DiskWaits) (was is : DiskWaits) : Type 0 where
  pub long : length new ≡ length old
  pub counted : (test : Waiting → Bool) → waiting test new + waiting_on test was ≡ waiting test old + waiting_on test is
  pub nexts : unserved new + length was.next ≡ unserved old + length is.next

pub one_disk : (disks : List DiskWaits) (pv : ℕ) (d : DiskWaits) → pv < length disks
    → OneDisk disks (set disks pv d) (get_or disks pv none_waits) d
one_disk disks pv d within = record {
  long = length-set disks pv d;
  counted = λ test. sum_by-set (waiting_on test) disks pv d none_waits within;
  nexts = sum_by-set (λ (x : DiskWaits). length x.next) disks pv d none_waits within;
}

pub count_push : (test : Waiting → Bool) (ws : List Waiting) (w : Waiting) → count_by test (ws ++ w ∷ []) ≡ count_by test ws + hit (test w)
count_push test ws w = sum_by_push (λ (x : Waiting). hit (test x)) ws w

pub count_first : (test : Waiting → Bool) (w : Waiting) (ws : List Waiting) → count_by test (w ∷ ws) ≡ hit (test w) + count_by test ws
count_first test w ws = sum_by-cons (λ (x : Waiting). hit (test x)) w ws
