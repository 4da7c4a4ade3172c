-- Notes of writes that took place, and what waits for them to last.
use Rattle.std.specs.Prelude.{◌≡◌, ◌≤◌, ◌<◌, ◌⊎◌, ℕ, Bool, true, false, Contains, List, ◌++◌, length, Some, is_some, slice_get}
use Rattle.std.specs.Option.{option_map_or}
use Rattle.lvm_script.specs.declared.line.Line.{Line}
use Rattle.data_lines.specs.DataLines.{is_flush, is_through}
use Rattle.flush_plan.specs.Plans.{marks_of}
use Rattle.flush_waits.specs.declared.ticket.Waiter.TheVariants as waiter
use Rattle.flush_waits.specs.declared.ticket.Waiting.{Waiting}
use Rattle.flush_waits.specs.Waits.{Waits, dirty_at, disk_waits}
use Rattle.piece_table.specs.declared.live.LivePiece.{LivePiece}
use Rattle.piece_table.specs.Pieces.{live_at}
use Rattle.world_places.specs.Lives.{Written}
use Rattle.world_acts.specs.declared.open_line.OpenLine.{OpenLine}
use Rattle.world_acts.specs.declared.state.Core.{Core}
use Rattle.world_acts.specs.Counts.{is_taken}
use Rattle.world_acts.specs.OpenLines.{open_at}

-- the write lasts: a flush that was submitted behind it has completed well
abbrev pub Lasts : Waits → Written → Type 0
Lasts waits w = w.place ≤ (marks_of waits.plan w.pv).stable

-- it waits on the disk of the write, for that or a later one
pub record WaitsFor (waits : Waits) (w : Written) (who : Waiting) : Type 0 where
  pub there : Contains ((disk_waits waits w.pv).served ++ (disk_waits waits w.pv).next) who
  pub late : w.place ≤ who.place

-- a write of the line that is through: it lasts, or its piece waits for that, or the line has failed
pub record PieceWaits (c : Core) (w : Written) : Type 0 where
  pub number : ℕ
  pub live : LivePiece
  pub at : live_at c.pieces.lives number ≡ Some live
  pub line : live.line ≡ w.line
  pub who : Waiting
  pub its : who.waiter ≡ waiter.Piece number
  pub waits : WaitsFor c.waits w who

abbrev pub OwnLasts : Core → Written → OpenLine → Type 0
OwnLasts c w opened = Lasts c.waits w ⊎ ((is_some opened.failure ≡ true) ⊎ PieceWaits c w)

-- a write to the volume that a line flushes, from before that was begun: it lasts, or the line waits for that, or has failed
pub record LineWaits (c : Core) (line : ℕ) (w : Written) : Type 0 where
  pub who : Waiting
  pub its : who.waiter ≡ waiter.Line line
  pub waits : WaitsFor c.waits w who

abbrev pub OthersLast : Core → ℕ → Written → OpenLine → Type 0
OthersLast c line w opened = Lasts c.waits w ⊎ ((is_some opened.failure ≡ true) ⊎ LineWaits c line w)

-- whether the line that was begun under this number is through, or flushes a volume
abbrev pub through_at : Core → ℕ → Bool
through_at c n = option_map_or (λ (l : Line). is_through l.command) (slice_get c.lines.begun n) false

abbrev pub flushes_at : Core → ℕ → Bool
flushes_at c n = option_map_or (λ (l : Line). is_flush l.command) (slice_get c.lines.begun n) false

-- each note is of a write that has completed, no later than the last one to its volume on its disk
pub record IsNoted (c : Core) (w : Written) : Type 0 where
  pub held : w.place ≤ c.waits.plan.held
  pub last : w.place ≤ dirty_at c.waits w.piece.volume w.pv
  pub begun : w.begun ≤ length c.lines.begun
  pub line : w.line < length c.lines.begun

-- what open lines wait for of these notes, and which pieces still have tickets for that; a line for which the test passes is under
-- preparation, and isn't asked for notes of others yet
pub record AreWaited (c : Core) (but : ℕ → Bool) (notes : List Written) : Type 0 where
  pub tickets :
      (number : ℕ) (l : LivePiece) → live_at c.pieces.lives number ≡ Some l → is_taken l.stage ≡ false
      → is_some l.ticket ≡ through_at c l.line
  pub noted : (w : Written) → Contains notes w → IsNoted c w
  pub own :
      (w : Written) → Contains notes w → (opened : OpenLine) → open_at c.opens w.line ≡ Some opened → through_at c w.line ≡ true
      → OwnLasts c w opened
  pub others :
      (w : Written) → Contains notes w → (n : ℕ) (opened : OpenLine) → but n ≡ false → open_at c.opens n ≡ Some opened
      → flushes_at c n ≡ true
      → w.piece.volume ≡ opened.key → w.begun ≤ n → OthersLast c n w opened

-- notes are of writes on disks
abbrev pub AreOnDisks : ℕ → List Written → Type 0
AreOnDisks disks notes = (w : Written) → Contains notes w → w.pv < disks
