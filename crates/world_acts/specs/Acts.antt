-- Acts: an event is a list of them, and each adds one step of the shelf or one entry at the most.
use Rattle.std.specs.Prelude.{◌≡◌, ◌≤◌, ◌<◌, ◌≢◌, ◌⊎◌, All, ℕ, ◌+◌, ◌==◌, Bool, true, false, not, ◌&&◌, IsTrue, List, [], ◌∷◌, ◌++◌, length}
use Rattle.std.specs.Prelude.{IfSome, None, Option, Some, filter, is_some, option_map, slice_get}
use Rattle.std.specs.FinSet as set
use Rattle.std.specs.Option.{option_map_or}
use Rattle.sector_base.specs.declared.places.Piece.{Piece}
use Rattle.line_answers.specs.declared.answer.Answer.{Answer}
use Rattle.line_answers.specs.declared.answer.Answer.TheVariants.{PvFailed, ReadFailed}
use Rattle.lvm_script.specs.declared.line.Line.{Line}
use Rattle.data_lines.specs.DataLines.{is_flush, is_through}
use Rattle.disk_model.specs.Calls.{Completes, MakesReady, Submits}
use Rattle.disk_model.specs.Operations.{work_of}
use Rattle.disk_model.specs.State.{IsLawful, State}
use Rattle.disk_model.specs.declared.ops.Done.{Done}
use Rattle.disk_model.specs.declared.ops.Op.{Op}
use Rattle.disk_model.specs.declared.ops.Op.TheVariants.{Flush, Read as ReadOp, Write as WriteOp}
use Rattle.line_table.specs.Steps.{is_open, no_piece}
use Rattle.line_table.specs.declared.journal.EntryKind.TheVariants as kind
use Rattle.line_table.specs.declared.journal.JournalEntry.{JournalEntry}
use Rattle.claim_table.specs.Claims.{IsEntry, ready_at}
use Rattle.claim_table.specs.declared.claim.By.{By}
use Rattle.claim_table.specs.declared.claim.Entry.{Entry}
use Rattle.claim_table.specs.declared.claim.Entry.TheVariants.{Deferred}
use Rattle.flush_plan.specs.Plans.{flight_of, marks_of}
use Rattle.flush_waits.specs.declared.ticket.Waiter.{Waiter}
use Rattle.flush_waits.specs.declared.ticket.Waiter.TheVariants as waiter
use Rattle.flush_waits.specs.declared.ticket.Waiting.{Waiting}
use Rattle.flush_waits.specs.declared.waits.Awaited.TheVariants.{Lost}
use Rattle.flush_waits.specs.Waits.{awaited, dirty_at, disk_waits, is_wanted}
use Rattle.piece_table.specs.declared.live.Owner.{Owner}
use Rattle.piece_table.specs.Pieces.{claim_of, flying_at, is_started, may_start, owner_at}
use Rattle.piece_table.specs.Steps.{live_of}
use Rattle.world_acts.specs.declared.state.Core.{Core}
use Rattle.world_acts.specs.declared.open_line.OpenLine.{OpenLine}
use Rattle.world_acts.specs.declared.open_line.Work.{Work}
use Rattle.world_acts.specs.declared.open_line.Work.TheVariants.{Read, Whole, Write}
use Rattle.world_acts.specs.declared.room.Room.{Room}
use Rattle.world_acts.specs.Rooms.{IsCounted, line_room, more, piece_room, work_entries}
use Rattle.world_acts.specs.OpenLines.{IsBarrier, is_whole, left_of, open_at, open_of}
use Rattle.world_acts.specs.Owners.{piece_work, values_of}
use Rattle.world_acts.specs.Volumes.{IsPlaced, span_of}
use Rattle.world_acts.specs.Steps.{after_answers, after_asks, after_awaits, after_begins, after_ends, after_enters, after_fails}
use Rattle.world_acts.specs.Steps.{after_flush, after_flushed, after_line_fails, after_marks, after_reads, after_released, after_starts}
use Rattle.world_acts.specs.Steps.{after_wakes, after_wrote, grown}

-- a world: its shelf, and what it keeps beside
pub record World : Type 0 where
  pub shelf : State
  pub core : Core

-- the world of a shelf and of what is kept beside it
abbrev pub world : State → Core → World
world shelf core = record { shelf = shelf; core = core }

-- what happens
pub data Act : Type 0 where
  -- a line is begun, and open; a piece of it enters; it waits for what was written to its volume on a disk; it is to answer so; it is
  -- answered; it is to wait for all others, and is answered then
  Begins : Line → OpenLine → Act
  Enters : ℕ → Piece → List (List ℕ) → Option (Unit {0}) → Entry → Act
  Awaits : ℕ → ℕ → Act
  LineFails : ℕ → Answer → Act
  Answers : ℕ → Act
  Holds : ℕ → Act
  Passes : ℕ → Act
  -- the first deferred piece that may is to start; a piece starts; its operation is submitted under a tag
  Wakes : Act
  Starts : ℕ → Act
  Asks : ℕ → Op → ℕ → State → Act
  -- an operation of a piece completes; a disk has failed; the piece fails; its write took place, or its read, with these sectors
  Ends : Done → State → Act
  Marks : ℕ → Act
  Fails : ℕ → Answer → Act
  Writes : ℕ → ℕ → Act
  Reads : ℕ → List (List ℕ) → Act
  -- a flush of a disk is submitted; it ends; the first that it served waits no more
  AsksFlush : ℕ → ℕ → State → Act
  EndsFlush : Done → State → Act
  Releases : ℕ → Act
  -- more operations are ready; more is spare
  Readies : State → Act
  Grows : World → Act

-- whose the operation with this tag is, which is a piece's
abbrev pub piece_at : Core → ℕ → ℕ
piece_at c tag = option_map_or (λ (owner : Owner). owner.piece) (owner_at c.pieces.owners tag) 0

-- the first that the last flush of a disk served
abbrev pub released_at : Core → ℕ → Option Waiting
released_at c pv = slice_get (disk_waits c.waits pv).served 0

-- what is left of the core once it waits no more
abbrev pub core_released : Core → ℕ → Option Waiting → Core
core_released c pv None = c
core_released c pv (Some w) = after_released c w.waiter pv

-- the world after an act
abbrev pub after : World → Act → World
after w (Begins line opened) = record w { core = after_begins w.core line opened w.shelf.steps }
after w (Enters line piece sectors ticket entry) = record w { core = after_enters w.core line piece sectors ticket entry }
after w (Awaits line pv) =
    record w { core = after_awaits w.core line pv (dirty_at w.core.waits (open_of w.core.opens line).key pv) }
after w (LineFails line why) = record w { core = after_line_fails w.core line why }
after w (Answers line) = record w { core = after_answers w.core line w.shelf.steps }
after w (Holds line) = record w { core = record w.core { barrier = Some line } }
after w (Passes line) = record w { core = after_answers (record w.core { barrier = None }) line w.shelf.steps }
after w Wakes = record w { core = after_wakes w.core }
after w (Starts number) = record w { core = after_starts w.core number }
after w (Asks number op tag now) = record { shelf = now; core = after_asks w.core number tag }
after w (Ends done now) = record { shelf = now; core = after_ends w.core done.tag (piece_at w.core done.tag) }
after w (Marks pv) = record w { core = after_marks w.core pv }
after w (Fails number why) = record w { core = after_fails w.core number why w.shelf.steps }
after w (Writes number pv) = record w { core = after_wrote w.core number pv w.shelf.steps }
after w (Reads number sectors) = record w { core = after_reads w.core number sectors w.shelf.steps }
after w (AsksFlush pv tag now) = record { shelf = now; core = after_flush w.core pv tag }
after w (EndsFlush done now) = record { shelf = now; core = after_flushed w.core done.tag done.well }
after w (Releases pv) = record w { core = core_released w.core pv (released_at w.core pv) }
after w (Readies now) = record w { shelf = now }
after w (Grows v) = v

-- nothing differs but what is spare, of which there is no less
pub record IsGrown (w v : World) : Type 0 where
  pub lawful : IsLawful v.shelf
  pub shelf : v.shelf ≡ record w.shelf { spare_ops = v.shelf.spare_ops; spare_sectors = v.shelf.spare_sectors }
  pub core : v.core ≡ grown w.core v.core
  pub ops : w.shelf.spare_ops ≤ v.shelf.spare_ops
  pub sectors : w.shelf.spare_sectors ≤ v.shelf.spare_sectors
  pub lines : w.core.lines.spare_lines ≤ v.core.lines.spare_lines
  pub entries : w.core.lines.spare_entries ≤ v.core.lines.spare_entries
  pub opens : w.core.opens.spare ≤ v.core.opens.spare
  pub claims : w.core.pieces.claims.spare ≤ v.core.pieces.claims.spare
  pub owners : w.core.pieces.spare_ops ≤ v.core.pieces.spare_ops
  pub writes : w.core.waits.plan.spare ≤ v.core.waits.plan.spare
  pub waits : w.core.waits.room ≤ v.core.waits.room

-- so much may be owed: it can be counted, and is spare
pub record IsBorne (w : World) (room : Room) : Type 0 where
  pub counted : IsCounted room
  pub ops : room.ops ≤ w.shelf.spare_ops
  pub sectors : room.sectors ≤ w.shelf.spare_sectors
  pub writes : room.writes ≤ w.core.waits.plan.spare
  pub waits : room.waits ≤ w.core.waits.room
  pub entries : room.entries ≤ w.core.lines.spare_entries
  pub owners : room.ops ≤ w.core.pieces.spare_ops

-- a line may be begun: nothing is left of it, and there is room for it
pub record MayBegin (w : World) (opened : OpenLine) : Type 0 where
  pub none : opened.left ≡ 0
  pub lines : 0 < w.core.lines.spare_lines
  pub opens : 0 < w.core.opens.spare
  pub entry : w.core.owed.entries + work_entries opened.work < w.core.lines.spare_entries
  pub counted : IsCounted (more w.core.owed (line_room opened))

-- the piece is one of what a line does
abbrev pub IsPartOf : Work → Piece → Type 0
IsPartOf (Read start buffer) piece = (piece.write ≡ false) × (start ≤ piece.first) × (piece.first + piece.count ≤ start + length buffer)
IsPartOf Write piece = piece.write ≡ true
IsPartOf (Whole answer) piece = ⊥

-- what an entering piece needs: its line is open and does as much, it stands on a disk, its sectors are its line's, and it has a ticket
-- to wait for its flush exactly where its line is through
pub record MayEnter (w : World) (line : ℕ) (piece : Piece) (sectors : List (List ℕ)) (ticket : Option (Unit {0})) : Type 0 where
  pub opened : OpenLine
  pub is_open : open_at w.core.opens line ≡ Some opened
  pub key : piece.volume ≡ opened.key
  pub part : IsPartOf opened.work piece
  pub placed : IsPlaced w.core.volumes w.shelf.sizes piece
  pub many : length sectors ≡ piece.count
  pub brought : piece.write ≡ true → sectors ≡ values_of (slice_get w.core.lines.begun line) piece
  pub through : is_some ticket ≡ true → piece.write ≡ true
  pub waits : is_some ticket ≡ option_map_or (λ (l : Line). is_through l.command) (slice_get w.core.lines.begun line) false
  pub spare : 0 < w.core.pieces.claims.spare
  pub room : IsBorne w (more w.core.owed (piece_room piece (is_some ticket)))

-- the answer says that a disk has failed
abbrev pub TellsDisk : Answer → Type 0
TellsDisk why = (pv : ℕ) × (why ≡ PvFailed pv)

-- the disk has failed: an operation on it did, or a flush since its last one that went well
abbrev pub IsLost : Core → ℕ → Type 0
IsLost c pv = (set.contains c.failed pv ≡ true) ⊎ ((marks_of c.waits.plan pv).stable < (marks_of c.waits.plan pv).ended)

-- a line that isn't refused waits on a disk for the last write of its volume there, where no flush that has ended serves that
pub record MayAwait (w : World) (line pv : ℕ) : Type 0 where
  pub opened : OpenLine
  pub is_open : open_at w.core.opens line ≡ Some opened
  pub whole : is_whole opened.work ≡ true
  pub flushes : option_map_or (λ (l : Line). is_flush l.command) (slice_get w.core.lines.begun line) false ≡ true
  pub well : IfSome opened.failure TellsDisk
  pub disk : pv < length w.shelf.sizes
  pub behind : (marks_of w.core.waits.plan pv).ended < dirty_at w.core.waits opened.key pv
  pub other : w.core.barrier ≢ Some line
  pub room : w.core.owed.waits < w.core.waits.room
  pub spare : IsBorne w (more w.core.owed (record { ops = 1; sectors = 0; writes = 0; waits = 0; entries = 0 }))

-- what a piece that fails makes its line answer: that the disk on which it stands has failed, or, of a read, that it couldn't be read there
abbrev pub IsFailure : Core → Piece → Answer → Type 0
IsFailure c piece (PvFailed pv) = ((span_of c.volumes piece).pv ≡ pv) × (set.contains c.failed pv ≡ true)
IsFailure c piece (ReadFailed pv) = ((span_of c.volumes piece).pv ≡ pv) × (piece.write ≡ false)
IsFailure c piece _ = ⊥

-- the line that waits, or that of the piece that does
abbrev pub line_of_waiter : Core → Waiter → ℕ
line_of_waiter c (waiter.Line line) = line
line_of_waiter c (waiter.Piece number) = (live_of c.pieces number).line

-- the line of the first that the last flush of a disk served
abbrev pub line_released : Core → ℕ → Option ℕ
line_released c pv = option_map (λ (w : Waiting). line_of_waiter c w.waiter) (released_at c pv)

-- what was released lasts, or its line fails
abbrev pub IsSettledWait : Core → ℕ → Waiting → Type 0
IsSettledWait c pv it =
    (it.place ≤ (marks_of c.waits.plan pv).stable) ⊎ (is_some (open_of c.opens (line_of_waiter c it.waiter)).failure ≡ true)

-- nothing was entered since the line was begun
pub record IsNewest (c : Core) (line : ℕ) : Type 0 where
  pub older : List JournalEntry
  pub volume : ℕ
  pub moment : ℕ
  pub is : c.lines.journal ≡ older ++ record { kind = kind.Begun; line = line; piece = no_piece volume; moment = moment } ∷ []

-- a line that was just begun, flushes its volume and isn't refused may fail by a disk: the volume's last write there doesn't last
pub record FlushMayFail (c : Core) (line pv : ℕ) : Type 0 where
  pub flushes : option_map_or (λ (l : Line). is_flush l.command) (slice_get c.lines.begun line) false ≡ true
  pub well : IfSome (open_of c.opens line).failure TellsDisk
  pub newest : IsNewest c line
  pub disk : pv < length c.waits.disks
  pub unstable : (marks_of c.waits.plan pv).stable < dirty_at c.waits (open_of c.opens line).key pv

-- a line may fail by the disk whose last flush, which has ended, served it first: what it waits for is behind no flush that did well
pub record WaitMayFail (c : Core) (line pv : ℕ) : Type 0 where
  pub ended : flight_of c.waits.plan pv ≡ None
  pub first : line_released c pv ≡ Some line
  pub lost : IfSome (released_at c pv) (λ w. awaited c.waits pv w.place ≡ Lost)

-- a line may fail as a whole by a disk
abbrev pub MayLineFail : Core → ℕ → ℕ → Type 0
MayLineFail c line pv = FlushMayFail c line pv ⊎ WaitMayFail c line pv

-- it fails for a disk that has failed
pub record FailsBy (c : Core) (line : ℕ) (why : Answer) : Type 0 where
  pub pv : ℕ
  pub is : why ≡ PvFailed pv
  pub lost : IsLost c pv
  pub may : MayLineFail c line pv

-- when an act may be
abbrev pub Allowed : World → Act → Type 0
Allowed w (Begins line opened) = MayBegin w opened
Allowed w (Enters line piece sectors ticket entry) =
    MayEnter w line piece sectors ticket × IsEntry w.core.pieces.claims (claim_of w.core.pieces.next piece None) entry
Allowed w (Awaits line pv) = MayAwait w line pv
Allowed w (LineFails line why) = IsTrue (is_some (open_at w.core.opens line)) × FailsBy w.core line why
Allowed w (Answers line) = IsTrue (is_some (open_at w.core.opens line)) × (left_of w.core.opens line ≡ 0) × (w.core.barrier ≢ Some line)
Allowed w (Holds line) = (w.core.barrier ≡ None) × IsBarrier w.core.opens line
Allowed w (Passes line) = (w.core.barrier ≡ Some line) × (length (filter is_open w.core.lines.answers) ≤ 1)
Allowed w Wakes = ready_at w.core.pieces.claims < length w.core.pieces.claims.deferred
Allowed w (Starts number) = IsTrue (may_start w.core.pieces number)
Allowed w (Asks number op tag now) =
    Submits w.shelf op tag now × IsLawful now × IsTrue (may_start w.core.pieces number) ×
    (work_of op ≡ piece_work w.core (live_of w.core.pieces number))
Allowed w (Ends done now) = Completes w.shelf done now × IsLawful now × IsTrue (is_some (owner_at w.core.pieces.owners done.tag))
Allowed w (Marks pv) = pv < length w.shelf.sizes
Allowed w (Fails number why) =
    IsTrue (is_started w.core.pieces number) × (flying_at w.core.pieces number ≡ 0)
    × IsFailure w.core (live_of w.core.pieces number).piece why
Allowed w (Writes number pv) =
    IsTrue (is_started w.core.pieces number) × (flying_at w.core.pieces number ≡ 0) × (pv < length w.shelf.sizes)
    × ((live_of w.core.pieces number).piece.write ≡ true)
Allowed w (Reads number sectors) =
    IsTrue (is_started w.core.pieces number) × (flying_at w.core.pieces number ≡ 0)
    × ((live_of w.core.pieces number).piece.write ≡ false) × (length sectors ≡ (live_of w.core.pieces number).piece.count)
Allowed w (AsksFlush pv tag now) =
    Submits w.shelf (Flush pv) tag now × IsLawful now × IsTrue (is_wanted w.core.waits pv) × ((disk_waits w.core.waits pv).served ≡ [])
Allowed w (EndsFlush done now) = Completes w.shelf done now × IsLawful now × (owner_at w.core.pieces.owners done.tag ≡ None)
Allowed w (Releases pv) =
    (flight_of w.core.waits.plan pv ≡ None) × IsTrue (is_some (released_at w.core pv)) ×
    IfSome (released_at w.core pv) (IsSettledWait w.core pv)
Allowed w (Readies now) = MakesReady w.shelf now × IsLawful now
Allowed w (Grows v) = IsGrown w v

-- these acts lead from one world to another
abbrev pub Runs : World → List Act → World → Type 0
Runs w [] v = v ≡ w
Runs w (a ∷ acts) v = Allowed w a × Runs (after w a) acts v

-- what the end of a write on this disk, or of a read into these sectors, comes to: the piece takes place, or fails
abbrev pub written_acts : ℕ → ℕ → Bool → List Act
written_acts number pv true = Writes number pv ∷ []
written_acts number pv false = Marks pv ∷ Fails number (PvFailed pv) ∷ []

abbrev pub read_acts : ℕ → ℕ → List (List ℕ) → Bool → List Act
read_acts number pv sectors true = Reads number sectors ∷ []
read_acts number pv sectors false = Fails number (ReadFailed pv) ∷ []

-- and that of a flush: the disk has failed, where the flush did
abbrev pub flushed_acts : ℕ → Bool → List Act
flushed_acts pv true = []
flushed_acts pv false = Marks pv ∷ []

-- what the end of an operation comes to, where that is the piece's, or a flush
abbrev pub settling : ℕ → Op → Bool → List Act
settling number (WriteOp span sectors) well = written_acts number span.pv well
settling number (ReadOp span sectors) well = read_acts number span.pv sectors well
settling number (Flush pv) well = []

abbrev pub flushing : Op → Bool → List Act
flushing (Flush pv) well = flushed_acts pv well
flushing op well = []

-- one act
pub record Does (a : Act) (w v : World) : Type 0 where
  pub allowed : Allowed w a
  pub becomes : v ≡ after w a

-- acts that pass the test lead from one world to another
pub record Reaches (may : Act → Bool) (w v : World) : Type 0 where
  pub acts : List Act
  pub all : All (λ (a : Act). may a ≡ true) acts
  pub run : Runs w acts v

-- whether the act is the begin or the end of something: a line is begun, or an operation completes; before these more may be
-- ready, or spare
abbrev pub opens_event : Act → Bool
opens_event (Begins line opened) = true
opens_event (Ends done now) = true
opens_event (EndsFlush done now) = true
opens_event (Readies now) = true
opens_event (Grows v) = true
opens_event _ = false

-- whether more may be owed after it: a piece enters, or a line waits for a write
abbrev pub owes_more : Act → Bool
owes_more (Enters line piece sectors ticket entry) = true
owes_more (Awaits line pv) = true
owes_more _ = false

-- whether it settles what the operation that has completed came to: its piece has written, or read, or couldn't be read, or its disk has
-- failed
abbrev pub settles : Act → Bool
settles (Writes number pv) = true
settles (Reads number sectors) = true
settles (Fails number (ReadFailed pv)) = true
settles (Marks pv) = true
settles _ = false

-- whether it carries a line on that was begun; whether it goes on with what was, once an operation has completed; and whether it
-- follows once that is settled
abbrev pub carries_on : Act → Bool
carries_on a = not (opens_event a)

abbrev pub goes_on : Act → Bool
goes_on a = not (opens_event a) && not (owes_more a)

abbrev pub follows : Act → Bool
follows a = goes_on a && not (settles a)

-- these acts lead to a world, and what follows leads on
pub record SettlesAndGoes (acts : List Act) (w v : World) : Type 0 where
  pub mid : World
  pub settles : Runs w acts mid
  pub goes : Reaches follows mid v

-- whether it starts a piece, or lets it fail as it starts
abbrev pub starts : Act → Bool
starts (Starts number) = true
starts (Asks number op tag now) = true
starts (Fails number (PvFailed pv)) = true
starts _ = false

-- whether it is of a line that was begun, before that may be answered: a piece of it enters, and starts, or it waits for a flush
abbrev pub prepares : ℕ → Act → Bool
prepares line (Enters n piece sectors ticket entry) = n == line
prepares line (Awaits n pv) = n == line
prepares line (LineFails n why) = n == line
prepares line a = starts a

-- what the first of the pieces that enter and wait conflicts with
abbrev pub first_deferral : List Act → Option By
first_deferral [] = None
first_deferral (Enters line piece sectors ticket (Deferred by) ∷ acts) = Some by
first_deferral (_ ∷ acts) = first_deferral acts

-- the pieces that enter
abbrev pub pieces_entered : List Act → List Piece
pieces_entered [] = []
pieces_entered (Enters line piece sectors ticket entry ∷ acts) = piece ∷ pieces_entered acts
pieces_entered (_ ∷ acts) = pieces_entered acts

-- such acts lead from one world to another, in which these pieces enter, and the first that waits conflicts with this
pub record Prepares (line : ℕ) (pieces : List Piece) (first : Option By) (w v : World) : Type 0 where
  pub reaches : Reaches (prepares line) w v
  pub entered : pieces_entered reaches.acts ≡ pieces
  pub deferred : first_deferral reaches.acts ≡ first

-- how much is left to do: operations in flight, and those that may still be submitted
abbrev pub left_in : World → ℕ
left_in w = length w.shelf.in_flight + w.core.owed.ops
