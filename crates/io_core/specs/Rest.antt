-- What holds at the end of each event: nothing is left to do until an operation completes or a line is begun.
use Rattle.std.specs.Prelude.{◌≡◌, ◌≤◌, ◌<◌, ◌⊎◌, All, ℕ, Bool, true, false, ◌==◌, IfSome, List, [], filter, length, Option, None, Some}
use Rattle.std.specs.Prelude.{is_some, nat_le, option_map, slice_index_or}
use Rattle.std.specs.List.{list_any}
use Rattle.sector_base.specs.declared.places.At.{At}
use Rattle.line_table.specs.Steps.{is_open}
use Rattle.meta_model.specs.declared.group.Group.{Group}
use Rattle.volume_view.specs.Places.{primary}
use Rattle.claim_table.specs.Claims.{ready_at}
use Rattle.claim_table.specs.Steps.{has_number}
use Rattle.flush_plan.specs.Plans.{flight_of, marks_of}
use Rattle.flush_waits.specs.declared.ticket.Waiting.{Waiting}
use Rattle.flush_waits.specs.Waits.{disk_waits, is_wanted}
use Rattle.piece_table.specs.declared.live.LivePiece.{LivePiece}
use Rattle.piece_table.specs.Pieces.{flying_of, is_started_stage, is_waiting_stage}
use Rattle.piece_table.specs.Steps.{live_of}
use Rattle.vg_found.specs.declared.found.Found.{Found}
use Rattle.world_acts.specs.declared.open_line.OpenLine.{OpenLine}
use Rattle.world_acts.specs.declared.open_line.Work.{Work}
use Rattle.world_acts.specs.declared.state.Core.{Core}
use Rattle.world_acts.specs.Acts.{Act, Runs, World, line_of_waiter, released_at}
use Rattle.world_acts.specs.Counts.{awaited_of, is_taken}
use Rattle.world_acts.specs.OpenLines.{Opens, left_of, open_at}
use Rattle.world_acts.specs.Orderly.{AreReleased, IsOrderly}

-- a piece that waits is deferred, one that is started has an operation in flight, and one that took place waits for a flush
pub record IsAsked (c : Core) (e : ℕ × LivePiece) : Type 0 where
  pub waits : is_waiting_stage e.1.stage ≡ true → list_any (has_number e.0) c.pieces.claims.deferred ≡ true
  pub flies : is_started_stage e.1.stage ≡ true → 0 < flying_of e.1.stage
  pub stays : is_taken e.1.stage ≡ true → 0 < awaited_of e.1.stage

-- an open line has something left, or is the one that waits for all others
abbrev pub IsUnfinished : Core → ℕ → Type 0
IsUnfinished c line = (open_at c.opens line ≡ None) ⊎ ((0 < left_of c.opens line) ⊎ (c.barrier ≡ Some line))

-- tests of numbers: none passes; this one does
abbrev pub no_one : ℕ → Bool
no_one number = false

abbrev pub just : ℕ → ℕ → Bool
just number other = other == number

-- the same lines are open, each with its volume and its work
abbrev pub kind_at : Opens → ℕ → Option (ℕ × Work)
kind_at opens line = option_map (λ (o : OpenLine). (o.key, o.work)) (open_at opens line)

abbrev pub SameLines : Opens → Opens → Type 0
SameLines old new = (line : ℕ) → kind_at new line ≡ kind_at old line

-- apart from the pieces and from the lines that pass these tests, each piece is asked for, and each open line is unfinished
pub record IsQuiet (pieces lines : ℕ → Bool) (c : Core) : Type 0 where
  pub asked : All (λ (e : ℕ × LivePiece). pieces e.0 ≡ false → IsAsked c e) c.pieces.lives
  pub unfinished : (line : ℕ) → lines line ≡ false → IsUnfinished c line

-- and the line that waits for all others finds another open
pub record IsCalm (pieces lines : ℕ → Bool) (c : Core) : Type 0 where
  pub quiet : IsQuiet pieces lines c
  pub others : (line : ℕ) → c.barrier ≡ Some line → 1 < length (filter is_open c.lines.answers)

-- by these acts the piece of which an operation has ended took place, or failed: its line, still open, may have nothing left now
pub record Settles (w : World) (number : ℕ) (acts : List Act) (v : World) : Type 0 where
  pub runs : Runs w acts v
  pub calm : IsCalm (just number) no_one w.core → IsCalm no_one (just (live_of w.core.pieces number).line) v.core
  pub opened : is_some (open_at v.core.opens (live_of w.core.pieces number).line) ≡ true
  pub barrier : v.core.barrier ≡ w.core.barrier
  pub released : AreReleased w.core → AreReleased v.core

-- no deferred piece may start
abbrev pub NoneReady : Core → Type 0
NoneReady c = ready_at c.pieces.claims ≡ length c.pieces.claims.deferred

-- what the last flush of a disk served has been released, unless it is in flight, on each disk but this one
abbrev pub AreReleasedBut : ℕ → Core → Type 0
AreReleasedBut pv c =
    (other : ℕ) → (other == pv) ≡ false → flight_of c.waits.plan other ≡ None → (disk_waits c.waits other).served ≡ []

-- the line of the first that the last flush of a disk served, and whether what that waits for lasts
abbrev pub first_released : Core → ℕ → Option (ℕ × Bool)
first_released c pv =
    option_map (λ (w : Waiting). (line_of_waiter c w.waiter, nat_le w.place (marks_of c.waits.plan pv).stable)) (released_at c pv)

-- nothing is left to do but to submit flushes
pub record IsSettled (c : Core) : Type 0 where
  pub calm : IsCalm no_one no_one c
  pub ready : NoneReady c
  pub released : AreReleased c

-- nor that
pub record IsAtRest (c : Core) : Type 0 where
  pub settled : IsSettled c
  pub flushed : (pv : ℕ) → pv < length c.waits.disks → is_wanted c.waits pv ≡ false

-- no region is closed, no volume is suspended, and no piece has more than one operation in flight
pub record IsPlain (c : Core) : Type 0 where
  pub closed : c.pieces.claims.closed ≡ None
  pub suspended : c.pieces.claims.suspended ≡ []
  pub once : All (λ (e : ℕ × LivePiece). flying_of e.1.stage ≤ 1) c.pieces.lives

-- what holds of a world between its events
pub record IsKept (w : World) : Type 0 where
  pub orderly : IsOrderly w
  pub rest : IsAtRest w.core
  pub plain : IsPlain w.core

-- what was found lies on disks of these sizes: each physical volume is on one, and each sector of a volume within it
pub record LiesOn (sizes : List ℕ) (found : Found) : Type 0 where
  pub disks : IfSome found.group (λ (g : Group). length g.pvs ≤ length found.disk_of)
  pub places :
      IfSome found.group (λ (g : Group). (lv x : ℕ) (at : At) → primary g lv x ≡ Some at
      → (slice_index_or found.disk_of at.pv 0 < length sizes) × (at.sector < slice_index_or sizes (slice_index_or found.disk_of at.pv 0) 0))
