-- What holds in every state, within an event too and over a shelf that tells nothing: it gives what the calls of lower crates ask.
use Rattle.std.specs.Prelude.{◌≡◌, ◌≤◌, ◌<◌, All, AllPairs, ℕ, ◌+◌, ◌*◌, ◌==◌, nat_eq, false, true, IfSome, List, [], length, map, is_some}
use Rattle.std.specs.Prelude.{Option, None, Some, slice_get}
use Rattle.std.specs.List.{IsDistinct}
use Rattle.std.specs.Map.{keys_of}
use Rattle.line_answers.specs.declared.answer.Answer.{Answer}
use Rattle.lvm_script.specs.declared.line.Line.{Line}
use Rattle.disk_model.specs.State.{IsLawful, State}
use Rattle.line_table.specs.Steps.{is_open, last_moment}
use Rattle.flush_plan.specs.declared.records.Flush.{Flush}
use Rattle.flush_plan.specs.Plans.{IsWithin, flight_of}
use Rattle.flush_waits.specs.Waits.{DiskWaits, Waits, disk_waits}
use Rattle.piece_table.specs.declared.live.LivePiece.{LivePiece}
use Rattle.piece_table.specs.declared.live.Owner.{Owner}
use Rattle.piece_table.specs.Pieces.{AreFlying, owner_at, sectors_of}
use Rattle.world_acts.specs.declared.state.Core.{Core}
use Rattle.world_acts.specs.declared.open_line.OpenLine.{OpenLine}
use Rattle.world_acts.specs.declared.volumes.Volumes.{Volumes}
use Rattle.world_acts.specs.Acts.{IsPartOf, World}
use Rattle.world_acts.specs.Counts.{awaited_at, awaited_of, is_line, is_piece, is_taken, is_unsubmitted, pieces_of, room_of, waiting}
use Rattle.world_acts.specs.Rooms.{IsCounted}
use Rattle.world_acts.specs.OpenLines.{IsBarrier, Opens, left_of, open_at}
use Rattle.world_acts.specs.Owners.{expected, flush_at, in_flight_at, values_of}
use Rattle.world_acts.specs.Volumes.{AreLaidOut, IsPlaced, lv_of}

-- its line is open and has its volume
pub record IsOfLine (opens : Opens) (l : LivePiece) : Type 0 where
  pub opened : OpenLine
  pub is_open : open_at opens l.line ≡ Some opened
  pub key : l.piece.volume ≡ opened.key
  pub part : IsPartOf opened.work l.piece

-- the sectors that wait with it are as many as its own, and, where it writes, those that its line brings
pub record HasSectors (begun : List Line) (l : LivePiece) : Type 0 where
  pub many : is_unsubmitted l.stage ≡ true → length (sectors_of l.stage) ≡ l.piece.count
  pub brought : is_unsubmitted l.stage ≡ true → l.piece.write ≡ true → sectors_of l.stage ≡ values_of (slice_get begun l.line) l.piece

-- only a write has room to wait for a flush; once it took place it awaits one at the most, and has no room for another
pub record AwaitsOnce (l : LivePiece) : Type 0 where
  pub once : awaited_of l.stage ≤ 1
  pub spent : is_taken l.stage ≡ true → l.ticket ≡ None
  pub through : is_some l.ticket ≡ true → l.piece.write ≡ true

-- what holds of a piece under way, with its number, where these lines were begun, these are open, and this is the next number
pub record IsLive (begun : List Line) (opens : Opens) (next : ℕ) (e : ℕ × LivePiece) : Type 0 where
  pub below : e.0 < next
  pub of_line : IsOfLine opens e.1
  pub sectors : HasSectors begun e.1
  pub awaits : AwaitsOnce e.1

-- the lines that are open are those without an answer, and one that waits for all others is one of them
pub record AreOpen (begun : List Line) (answers : List (ℕ × Option Answer)) (opens : Opens) (barrier : Option ℕ) : Type 0 where
  pub many : length begun ≡ length answers
  pub opened : map is_some opens.list ≡ map is_open answers
  pub holds : IfSome barrier (IsBarrier opens)

-- the pieces under way, each under one number
pub record ArePieces (begun : List Line) (opens : Opens) (next : ℕ) (lives : List (ℕ × LivePiece)) : Type 0 where
  pub single : IsDistinct nat_eq (keys_of lives)
  pub each : All (IsLive begun opens next) lives

-- the operations in flight that are a piece's, each under one tag, are counted
pub record AreOwned (lives : List (ℕ × LivePiece)) (owners : List (ℕ × Owner)) : Type 0 where
  pub single : IsDistinct nat_eq (keys_of owners)
  pub flying : AreFlying lives owners

-- what is left of each line is counted, and what each piece waits for
pub record AreCounted (opens : Opens) (lives : List (ℕ × LivePiece)) (disks : List DiskWaits) : Type 0 where
  pub left : (line : ℕ) → left_of opens line ≡ pieces_of line lives + waiting (is_line line) disks
  pub awaited : (number : ℕ) → awaited_at lives number ≡ waiting (is_piece number) disks

-- what is owed is counted, and is spare
pub record IsSpare (c : Core) : Type 0 where
  pub owed : c.owed ≡ room_of c
  pub counted : IsCounted c.owed
  pub writes : c.owed.writes ≤ c.waits.plan.spare
  pub waits : c.owed.waits ≤ c.waits.room
  pub entries : c.owed.entries ≤ c.lines.spare_entries
  pub owners : c.owed.ops ≤ c.pieces.spare_ops

-- the flushes: the plan's places are those of writes that have completed, each flush in flight has a tag of its own, and each volume
-- has its places of last writes on all disks
pub record ArePlanned (volumes : Volumes) (w : Waits) : Type 0 where
  pub reached : All (IsWithin w.plan.held) w.plan.marks
  pub after : All (λ (f : Flush). f.after ≤ w.plan.held) w.plan.flushes
  pub marks : length w.disks ≡ length w.plan.marks
  pub tags : AllPairs (λ (f g : Flush). (f.tag == g.tag) ≡ false) w.plan.flushes
  pub dirty : (key lv : ℕ) → lv_of volumes key ≡ Some lv → key * length w.disks + length w.disks ≤ length w.dirty

-- what is kept beside the shelf agrees
pub record IsTidy (c : Core) : Type 0 where
  pub lines : AreOpen c.lines.begun c.lines.answers c.opens c.barrier
  pub pieces : ArePieces c.lines.begun c.opens c.pieces.next c.pieces.lives
  pub owners : AreOwned c.pieces.lives c.pieces.owners
  pub counts : AreCounted c.opens c.pieces.lives c.waits.disks
  pub room : IsSpare c
  pub flushes : ArePlanned c.volumes c.waits

-- whose each operation in flight is: a piece's, or a flush, and not both
pub record AreKnown (s : State) (c : Core) : Type 0 where
  pub owned : (tag : ℕ) → in_flight_at s.in_flight tag ≡ expected c tag
  pub apart : (tag : ℕ) → is_some (owner_at c.pieces.owners tag) ≡ true → flush_at c.waits.plan tag ≡ None

-- the disks, the volumes, and where the pieces stand
pub record AreOnDisks (sizes : List ℕ) (volumes : Volumes) (lives : List (ℕ × LivePiece)) (disks : List DiskWaits) : Type 0 where
  pub laid : AreLaidOut volumes sizes
  pub placed : All (λ (e : ℕ × LivePiece). IsPlaced volumes sizes e.1.piece) lives
  pub many : length disks ≡ length sizes
  pub few : length sizes ≤ 64

-- the shelf bears it
pub record IsBacked (s : State) (c : Core) : Type 0 where
  pub lawful : IsLawful s
  pub known : AreKnown s c
  pub places : AreOnDisks s.sizes c.volumes c.pieces.lives c.waits.disks
  -- what is owed is spare
  pub spare_ops : c.owed.ops ≤ s.spare_ops
  pub spare_sectors : c.owed.sectors ≤ s.spare_sectors
  -- no entry is of a later moment
  pub moments : last_moment c.lines.journal ≤ s.steps

pub record IsOrderly (w : World) : Type 0 where
  pub tidy : IsTidy w.core
  pub backed : IsBacked w.shelf w.core

-- what the last flush of a disk served has been released, unless it is in flight
abbrev pub AreReleased : Core → Type 0
AreReleased c = (pv : ℕ) → flight_of c.waits.plan pv ≡ None → (disk_waits c.waits pv).served ≡ []
