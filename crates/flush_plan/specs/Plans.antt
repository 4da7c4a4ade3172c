-- What a plan of flushes holds, and what it says.
use Rattle.std.specs.Prelude.{◌≡◌, ◌≤◌, All, ℕ, Bool, false, ◌==◌, nat_le, nat_lt, not, ◌&&◌, List, Option, position, slice_get, slice_index_or}
use Rattle.std.specs.List.{position_or_len, list_any}
use Rattle.std.specs.Option.{option_and_then, option_map_or}
use Rattle.std.specs.Map.{lookup}
use Rattle.flush_plan.specs.declared.records.Write.{Write}
use Rattle.flush_plan.specs.declared.records.Marks.{Marks}
use Rattle.flush_plan.specs.declared.records.Flush.{Flush}

-- the place of the last write of each number on each disk, but of those that were forgotten, the marks of each disk, the
-- flushes in flight, oldest first, how many writes have completed, and how many writes and flushes are spare
pub record Plan : Type 0 where
  pub last : List (Write × ℕ)
  pub marks : List Marks
  pub flushes : List Flush
  pub held : ℕ
  pub spare : ℕ
  pub spare_flushes : ℕ

-- whether they are writes of one number on one disk
abbrev pub same_write : Write → Write → Bool
same_write v w = (v.number == w.number) && (v.pv == w.pv)

-- the marks of a disk without writes
abbrev pub no_marks : Marks
no_marks = record { written = 0; ended = 0; stable = 0 }

-- the marks of this disk
abbrev pub marks_of : Plan → ℕ → Marks
marks_of plan pv = slice_index_or plan.marks pv no_marks

-- whether a flush in flight has this tag
abbrev pub is_in_flight : Plan → ℕ → Bool
is_in_flight plan tag = list_any (λ f. f.tag == tag) plan.flushes

-- where the flush with this tag stands among those in flight
abbrev pub flush_at : Plan → ℕ → ℕ
flush_at plan tag = position_or_len (λ f. f.tag == tag) plan.flushes

-- the flush in flight with this tag
abbrev pub flush_of : Plan → ℕ → Flush
flush_of plan tag = slice_index_or plan.flushes (flush_at plan tag) (record { tag = 0; pv = 0; after = 0 })

-- the oldest flush in flight of this disk
abbrev pub flight_of : Plan → ℕ → Option Flush
flight_of plan pv = option_and_then (slice_get plan.flushes) (position (λ f. f.pv == pv) plan.flushes)

-- whether a write of this number on this disk is held, and a flush that was submitted after the completion of the last of
-- them has completed well
abbrev pub is_stable : Plan → ℕ → ℕ → Bool
is_stable plan number pv =
    option_map_or (λ place. nat_le place (marks_of plan pv).stable) (lookup (same_write (record { number = number; pv = pv })) plan.last)
    false

-- whether a write of this number on this disk is held, and a flush that was submitted after the completion of the last of
-- them has ended, well or not
abbrev pub is_ended : Plan → ℕ → ℕ → Bool
is_ended plan number pv =
    option_map_or (λ place. nat_le place (marks_of plan pv).ended) (lookup (same_write (record { number = number; pv = pv })) plan.last)
    false

-- whether a write on this disk has completed for which no flush submitted after it has ended, and no flush of the disk is
-- in flight
abbrev pub is_wanted : Plan → ℕ → Bool
is_wanted plan pv = nat_lt (marks_of plan pv).ended (marks_of plan pv).written && not (list_any (λ f. f.pv == pv) plan.flushes)

-- the marks are places of writes that have completed, and what is stable has ended
abbrev pub IsWithin : ℕ → Marks → Type 0
IsWithin held m = (m.written ≤ held) × (m.stable ≤ m.ended) × (m.ended ≤ held)

-- of each other write than those of this number on this disk, and of each disk, the same is said after as before
pub record SaysOfOthers (old new : Plan) (number pv : ℕ) : Type 0 where
  pub stable :
      (n p : ℕ) → same_write (record { number = number; pv = pv }) (record { number = n; pv = p }) ≡ false
      → is_stable new n p ≡ is_stable old n p
  pub ended :
      (n p : ℕ) → same_write (record { number = number; pv = pv }) (record { number = n; pv = p }) ≡ false
      → is_ended new n p ≡ is_ended old n p
  pub wanted : (p : ℕ) → is_wanted new p ≡ is_wanted old p

-- every place that the plan notes is that of a write that has completed, so a flush serves none that is still to come
pub record IsOrderly (plan : Plan) : Type 0 where
  pub last : All (λ e. e.1 ≤ plan.held) plan.last
  pub marks : All (IsWithin plan.held) plan.marks
  pub flushes : All (λ f. f.after ≤ plan.held) plan.flushes
