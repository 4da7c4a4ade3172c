-- What is counted: of each line what is left of it, of each piece what it waits for, and what all may still use up.
use Rattle.std.specs.Prelude.{ℕ, ◌+◌, Bool, true, false, ◌==◌, if◌then◌else◌, List, length, count_by, sum_by, Option, is_some}
use Rattle.std.specs.Option.{option_map_or}
use Rattle.flush_waits.specs.declared.ticket.Waiter.{Waiter}
use Rattle.flush_waits.specs.declared.ticket.Waiter.TheVariants as waiter
use Rattle.flush_waits.specs.declared.ticket.Waiting.{Waiting}
use Rattle.flush_waits.specs.Waits.{DiskWaits}
use Rattle.piece_table.specs.declared.live.LivePiece.{LivePiece}
use Rattle.piece_table.specs.declared.live.Stage.{Stage}
use Rattle.piece_table.specs.declared.live.Stage.TheVariants.{Taken, Waiting as Unsubmitted}
use Rattle.piece_table.specs.Pieces.{live_at}
use Rattle.world_acts.specs.declared.state.Core.{Core}
use Rattle.world_acts.specs.declared.open_line.OpenLine.{OpenLine}
use Rattle.world_acts.specs.declared.room.Room.{Room}
use Rattle.world_acts.specs.Rooms.{one, work_entries}

-- ---- waits

-- whether the line waits, or the piece
abbrev pub is_line : ℕ → Waiting → Bool
is_line line w = is_this w.waiter
  where
    is_this : Waiter → Bool
    is_this (waiter.Line n) = n == line
    is_this (waiter.Piece n) = false

abbrev pub is_piece : ℕ → Waiting → Bool
is_piece number w = is_this w.waiter
  where
    is_this : Waiter → Bool
    is_this (waiter.Line n) = false
    is_this (waiter.Piece n) = n == number

-- how often something waits that passes the test
abbrev pub waiting : (Waiting → Bool) → List DiskWaits → ℕ
waiting test disks = sum_by (λ (d : DiskWaits). count_by test d.served + count_by test d.next) disks

-- ---- lines

-- how many pieces of the line are under way
abbrev pub pieces_of : ℕ → List (ℕ × LivePiece) → ℕ
pieces_of line lives = count_by (λ (e : ℕ × LivePiece). e.1.line == line) lives

-- ---- pieces

-- how often the piece with this number waits for a flush
abbrev pub awaited_of : Stage → ℕ
awaited_of (Taken awaited) = awaited
awaited_of _ = 0

abbrev pub awaited_at : List (ℕ × LivePiece) → ℕ → ℕ
awaited_at lives number = option_map_or (λ (l : LivePiece). awaited_of l.stage) (live_at lives number) 0

-- whether nothing of it was submitted, and whether it took place
abbrev pub is_unsubmitted : Stage → Bool
is_unsubmitted (Unsubmitted sectors) = true
is_unsubmitted _ = false

abbrev pub is_taken : Stage → Bool
is_taken (Taken awaited) = true
is_taken _ = false

-- ---- room

-- of a piece
abbrev pub ops_of : LivePiece → ℕ
ops_of l = one (is_unsubmitted l.stage) + one (is_some l.ticket)

abbrev pub sectors_of : LivePiece → ℕ
sectors_of l = if is_unsubmitted l.stage then l.piece.count else 0

abbrev pub writes_of : LivePiece → ℕ
writes_of l = if is_taken l.stage then 0 else one l.piece.write

abbrev pub waits_of : LivePiece → ℕ
waits_of l = one (is_some l.ticket)

abbrev pub entries_of : LivePiece → ℕ
entries_of l = if is_taken l.stage then 0 else 1

-- of a line beside its pieces
abbrev pub line_entries : Option OpenLine → ℕ
line_entries opened = option_map_or (λ (o : OpenLine). work_entries o.work) opened 0

-- of all pieces, lines and flushes to come
abbrev pub room_of : Core → Room
room_of c = record {
  ops = sum_by (λ (e : ℕ × LivePiece). ops_of e.1) c.pieces.lives + sum_by (λ (d : DiskWaits). length d.next) c.waits.disks;
  sectors = sum_by (λ (e : ℕ × LivePiece). sectors_of e.1) c.pieces.lives;
  writes = sum_by (λ (e : ℕ × LivePiece). writes_of e.1) c.pieces.lives;
  waits = sum_by (λ (e : ℕ × LivePiece). waits_of e.1) c.pieces.lives;
  entries = sum_by (λ (e : ℕ × LivePiece). entries_of e.1) c.pieces.lives + sum_by line_entries c.opens.list;
}
