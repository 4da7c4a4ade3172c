-- A line that was begun, and is carried on.
use Rattle.std.specs.Prelude.{◌≡◌, ◌≤◌, ◌<◌, ◌⊎◌, All, Contains, ℕ, true, is_some, List, ◌++◌, length, None, slice_get}
use Rattle.flush_plan.specs.Plans.{marks_of}
use Rattle.flush_waits.specs.declared.ticket.Waiter.TheVariants as waiter
use Rattle.flush_waits.specs.Waits.{dirty_at, disk_waits}
use Rattle.world_acts.specs.declared.state.Core.{Core}
use Rattle.world_acts.specs.Acts.{IsBorne, IsNewest, World}
use Rattle.world_acts.specs.OpenLines.{left_of, open_at, open_of}
use Rattle.world_acts.specs.Orderly.{AreReleased, IsOrderly}
use Rattle.world_acts.specs.Rooms.{more}
use Rattle.line_plans.specs.declared.preparing.NewPiece.{NewPiece}
use Rattle.line_plans.specs.Plans.{AreTickets, MayBeOf, flushes_room, pieces_room}
use Rattle.io_core.specs.Rest.{IsCalm, NoneReady, just, no_one}

-- what was written last to the line's volume on this disk lasts, or the line has failed, or it waits there for that write
abbrev pub AwaitsOn : Core → ℕ → ℕ → Type 0
AwaitsOn c line pv =
    (dirty_at c.waits (open_of c.opens line).key pv ≤ (marks_of c.waits.plan pv).stable)
    ⊎ ((is_some (open_of c.opens line).failure ≡ true)
    ⊎ Contains ((disk_waits c.waits pv).served ++ (disk_waits c.waits pv).next)
    (record { waiter = waiter.Line line; place = dirty_at c.waits (open_of c.opens line).key pv }))

-- and so on each disk
abbrev pub AwaitsAll : Core → ℕ → Type 0
AwaitsAll c line = (pv : ℕ) → pv < length c.waits.disks → AwaitsOn c line pv

-- nothing is left of the line so far, behind which nothing was entered, which has these pieces and so many tickets, and there is room for them
pub record MayCarryOn (w : World) (line : ℕ) (pieces : List NewPiece) (many : ℕ) : Type 0 where
  pub orderly : IsOrderly w
  pub opened : is_some (open_at w.core.opens line) ≡ true
  pub none : left_of w.core.opens line ≡ 0
  pub free : w.core.barrier ≡ None
  pub newest : IsNewest w.core line
  pub each : All (MayBeOf w.core.volumes w.shelf.sizes (open_of w.core.opens line) (slice_get w.core.lines.begun line)) pieces
  pub tickets : AreTickets w.core.volumes w.shelf.sizes (open_of w.core.opens line) (slice_get w.core.lines.begun line) many
  pub room : IsBorne w (more w.core.owed (more (flushes_room many) (pieces_room pieces)))
  pub spare : length pieces ≤ w.core.pieces.claims.spare
  pub calm : IsCalm no_one (just line) w.core
  pub ready : NoneReady w.core
  pub released : AreReleased w.core
