-- What a line is to be, before it is begun.
use Rattle.std.specs.Prelude.{◌≡◌, ◌≤◌, ◌<◌, ◌⊎◌, All, ℕ, ◌+◌, false, true, is_some, List, [], ◌∷◌, length, map, replicate, Option, None}
use Rattle.std.specs.Prelude.{Some}
use Rattle.std.specs.Prelude.{nat_eq}
use Rattle.std.specs.Prelude.{find, slice_get}
use Rattle.std.specs.List.{range_with_len}
use Rattle.std.specs.Option.{option_map_or}
use Rattle.sector_base.specs.declared.places.Piece.{Piece}
use Rattle.command_table.specs.declared.command.Command.{Command}
use Rattle.command_table.specs.declared.command.Command.TheVariants as command
use Rattle.line_answers.specs.declared.answer.Answer.TheVariants as answer
use Rattle.line_answers.specs.declared.op_refusal.OpRefusal.{OpRefusal}
use Rattle.lvm_script.specs.declared.line.Line.{Line}
use Rattle.data_lines.specs.DataLines.{is_flush, is_through, range_of, value_for, writes, zero_sector}
use Rattle.meta_model.specs.declared.group.Group.{Group}
use Rattle.meta_model.specs.declared.lv.Lv.{Lv}
use Rattle.seg_place.specs.Sectors.{sectors_of}
use Rattle.piece_split.specs.Pieces.{pieces_of}
use Rattle.group_plan.specs.declared.refusal.PlanRefusal.{PlanRefusal}
use Rattle.group_plan.specs.declared.refusal.PlanRefusal.TheVariants.{NoMemory, Refused}
use Rattle.world_acts.specs.declared.open_line.OpenLine.{OpenLine}
use Rattle.world_acts.specs.declared.open_line.Work.{Work}
use Rattle.world_acts.specs.declared.open_line.Work.TheVariants.{Read, Whole, Write}
use Rattle.world_acts.specs.declared.room.Room.{Room}
use Rattle.world_acts.specs.declared.volumes.VolumeRow.{VolumeRow}
use Rattle.world_acts.specs.declared.volumes.Volumes.{Volumes}
use Rattle.world_acts.specs.declared.state.Core.{Core}
use Rattle.world_acts.specs.Acts.{IsBorne, IsPartOf, World}
use Rattle.world_acts.specs.OpenLines.{is_whole}
use Rattle.world_acts.specs.Owners.{values_of}
use Rattle.world_acts.specs.Rooms.{line_room, more, piece_room}
use Rattle.world_acts.specs.Volumes.{AreLaidOut, IsPlaced, lv_of}
use Rattle.line_plans.specs.declared.preparing.NewPiece.{NewPiece}
use Rattle.line_plans.specs.declared.preparing.Plan.{Plan}
use Rattle.line_plans.specs.Judging.{number_named, refusal_of}

-- ---- how a line is open

-- a line of which nothing is left, on the volume with this key
abbrev pub opened_on : ℕ → Work → OpenLine
opened_on key work = record { key = key; work = work; left = 0; failure = None }

-- the same of one that is refused
abbrev pub opened_refused : ℕ → OpRefusal → OpenLine
opened_refused key refusal = record { key = key; work = Whole answer.Fine; left = 0; failure = Some (answer.Refused refusal) }

-- the name of the volume with this number
abbrev pub name_at : Group → ℕ → List ℕ
name_at group lv = option_map_or (λ (row : List ℕ × Lv). row.0) (slice_get group.lvs lv) []

-- the volume of this row, with its length
abbrev pub listed_row : Group → VolumeRow → List ℕ × ℕ
listed_row group row = (name_at group row.lv, sectors_of group row.lv)

-- each visible volume with its length
abbrev pub listed_of : Volumes → List (List ℕ × ℕ)
listed_of volumes = option_map_or (λ (g : Group). map (listed_row g) volumes.rows.items) volumes.group []

-- the key of the volume with this number
abbrev pub key_of : Volumes → ℕ → ℕ
key_of volumes lv = option_map_or (λ (r : VolumeRow). r.key) (find (λ (r : VolumeRow). nat_eq r.lv lv) volumes.rows.items) 0

-- what a line does that isn't refused: a list of these volumes, a wait or a flush as a whole, a read into zeros, or a write
abbrev pub work_for : Volumes → Command → Work
work_for volumes command.List = Whole (answer.Listed (listed_of volumes))
work_for volumes (command.Read path start count) = Read start (replicate count zero_sector)
work_for volumes (command.Fill path start count value through) = Write
work_for volumes (command.Write path start hex through) = Write
work_for volumes command = Whole answer.Fine

-- the key of the volume that it names, or 0 where it names none, or one that isn't there
abbrev pub key_for : Volumes → Command → ℕ
key_for volumes command = option_map_or (key_of volumes) (number_named volumes.group command) 0

-- how the line is open: with what it does, or refused
abbrev pub opened_for : Volumes → Command → OpenLine
opened_for volumes command =
    option_map_or (opened_refused (key_for volumes command)) (refusal_of volumes.group command)
    (opened_on (key_for volumes command) (work_for volumes command))

-- its pieces, where it isn't refused and reads or writes
abbrev pub pieces_for : Volumes → Command → List Piece
pieces_for volumes command =
    option_map_or (λ (refusal : OpRefusal). [])
    (refusal_of volumes.group command)
    (option_map_or (λ (r : ℕ × ℕ). pieces_of (key_for volumes command) r.0 r.1 (writes command)) (range_of command) [])

-- ---- what it may use up

abbrev pub no_room : Room
no_room = record { ops = 0; sectors = 0; writes = 0; waits = 0; entries = 0 }

-- of so many flushes that it may wait for
abbrev pub flushes_room : ℕ → Room
flushes_room many = record { ops = many; sectors = 0; writes = 0; waits = many; entries = 0 }

-- of its pieces
abbrev pub pieces_room : List NewPiece → Room
pieces_room [] = no_room
pieces_room (new ∷ rest) = more (piece_room new.piece (is_some new.ticket)) (pieces_room rest)

-- of all
abbrev pub plan_room : Plan → Room
plan_room plan = more (more (line_room plan.opened) (flushes_room (length plan.tickets.items))) (pieces_room plan.pieces.items)

-- ---- plans

-- a piece that is to be one of this line, which is open so
pub record MayBeOf (volumes : Volumes) (sizes : List ℕ) (opened : OpenLine) (line : Option Line) (new : NewPiece) : Type 0 where
  pub key : new.piece.volume ≡ opened.key
  pub part : IsPartOf opened.work new.piece
  pub placed : IsPlaced volumes sizes new.piece
  pub many : length new.sectors ≡ new.piece.count
  pub brought : new.piece.write ≡ true → new.sectors ≡ values_of line new.piece
  pub through : is_some new.ticket ≡ true → new.piece.write ≡ true
  pub waits : is_some new.ticket ≡ option_map_or (λ (l : Line). is_through l.command) line false

-- the tickets: none, of a line that flushes no volume or is refused; or, of one that flushes a volume and isn't refused, one for each
-- disk
pub record AreNone (opened : OpenLine) (line : Option Line) (tickets : ℕ) : Type 0 where
  pub none : tickets ≡ 0
  pub refused :
      option_map_or (λ (l : Line). is_flush l.command) line false ≡ true
      → (is_whole opened.work ≡ true) × (is_some opened.failure ≡ true)

pub record AreForDisks (volumes : Volumes) (sizes : List ℕ) (opened : OpenLine) (line : Option Line) (tickets : ℕ) : Type 0 where
  pub many : tickets ≡ length sizes
  pub whole : is_whole opened.work ≡ true
  pub flushes : option_map_or (λ (l : Line). is_flush l.command) line false ≡ true
  pub well : opened.failure ≡ None
  pub stands : is_some (lv_of volumes opened.key) ≡ true

abbrev pub AreTickets : Volumes → List ℕ → OpenLine → Option Line → ℕ → Type 0
AreTickets volumes sizes opened line tickets = AreNone opened line tickets ⊎ AreForDisks volumes sizes opened line tickets

-- the plan is the line's, over disks of these sizes
pub record IsPlanned (volumes : Volumes) (sizes : List ℕ) (line : Line) (plan : Plan) : Type 0 where
  pub opened : plan.opened ≡ opened_for volumes line.command
  pub cut : map (λ (new : NewPiece). new.piece) plan.pieces.items ≡ pieces_for volumes line.command
  pub pieces : All (MayBeOf volumes sizes plan.opened (Some line)) plan.pieces.items
  pub tickets : AreTickets volumes sizes plan.opened (Some line) (length plan.tickets.items)

-- ---- plans by their parts

-- the plan of a line without pieces and flushes, which is open so
pub record IsAlone (line : OpenLine) (plan : Plan) : Type 0 where
  pub opened : plan.opened ≡ line
  pub pieces : plan.pieces.items ≡ []
  pub tickets : plan.tickets.items ≡ []

-- that of a line on the volume with this key that is refused so; want of memory makes none
abbrev pub IsRefusal : ℕ → PlanRefusal → Plan → Type 0
IsRefusal key NoMemory plan = ⊥
IsRefusal key (Refused refusal) plan = IsAlone (opened_refused key refusal) plan

-- that of a line that waits for so many flushes on the volume with this key
pub record IsFlushing (key disks : ℕ) (plan : Plan) : Type 0 where
  pub opened : plan.opened ≡ opened_on key (Whole answer.Fine)
  pub pieces : plan.pieces.items ≡ []
  pub tickets : length plan.tickets.items ≡ disks

-- that of a line with these pieces, each of which passes a test
pub record IsCut (line : OpenLine) (pieces : List Piece) (Suits : NewPiece → Type 0) (plan : Plan) : Type 0 where
  pub opened : plan.opened ≡ line
  pub cut : map (λ (new : NewPiece). new.piece) plan.pieces.items ≡ pieces
  pub suit : All Suits plan.pieces.items
  pub tickets : plan.tickets.items ≡ []

-- a piece that is read has as many sectors as it reads, and one that is written has those that the command brings, and may wait for its
-- flush where that is through
abbrev pub IsReadInto : NewPiece → Type 0
IsReadInto new = (length new.sectors ≡ new.piece.count) × (new.ticket ≡ None)

abbrev pub IsBroughtBy : Command → NewPiece → Type 0
IsBroughtBy command new =
    (new.sectors ≡ map (value_for command) (range_with_len new.piece.first new.piece.count)) × (is_some new.ticket ≡ is_through command)

-- it is the line's, over any disks over which the volumes are laid out
abbrev pub IsPlanFor : Core → Line → Plan → Type 0
IsPlanFor core line plan =
    (sizes : List ℕ) → AreLaidOut core.volumes sizes → length core.waits.disks ≡ length sizes → IsPlanned core.volumes sizes line plan

-- ---- room

-- there is room for it: for its line, for the line's entries and one for its beginning, and for its pieces
pub record HasRoomFor (w : World) (plan : Plan) : Type 0 where
  pub borne : IsBorne w (more w.core.owed (plan_room plan))
  pub lines : 0 < w.core.lines.spare_lines
  pub begun : w.core.owed.entries + (plan_room plan).entries < w.core.lines.spare_entries
  pub opens : 0 < w.core.opens.spare
  pub claims : length plan.pieces.items ≤ w.core.pieces.claims.spare

-- the tables have room for a line, for so many pieces, and for this
pub record HasTables (c : Core) (pieces : ℕ) (room : Room) : Type 0 where
  pub writes : room.writes ≤ c.waits.plan.spare
  pub waits : room.waits ≤ c.waits.room
  pub entries : room.entries < c.lines.spare_entries
  pub owners : room.ops ≤ c.pieces.spare_ops
  pub lines : 0 < c.lines.spare_lines
  pub opens : 0 < c.opens.spare
  pub claims : pieces ≤ c.pieces.claims.spare

-- the line may be begun by this plan
pub record MayBeBegun (w : World) (line : Line) (plan : Plan) : Type 0 where
  pub planned : IsPlanned w.core.volumes w.shelf.sizes line plan
  pub room : HasRoomFor w plan
