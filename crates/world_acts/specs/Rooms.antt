-- What lines may still use up, counted.
use Rattle.std.specs.Prelude.{◌≤◌, ◌<◌, ℕ, ◌+◌, ◌-◌, ◌^◌, Bool, true, false}
use Rattle.sector_base.specs.declared.places.Piece.{Piece}
use Rattle.world_acts.specs.declared.open_line.OpenLine.{OpenLine}
use Rattle.world_acts.specs.declared.open_line.Work.{Work}
use Rattle.world_acts.specs.declared.open_line.Work.TheVariants.{Whole}
use Rattle.world_acts.specs.declared.room.Room.{Room}

-- one, where the test is true
abbrev pub one : Bool → ℕ
one true = 1
one false = 0

-- each of the counts fits
pub record IsCounted (a : Room) : Type 0 where
  pub ops : a.ops < 2 ^ 64
  pub sectors : a.sectors < 2 ^ 64
  pub writes : a.writes < 2 ^ 64
  pub waits : a.waits < 2 ^ 64
  pub entries : a.entries < 2 ^ 64

-- there is as much as that
pub record Covers (a b : Room) : Type 0 where
  pub ops : b.ops ≤ a.ops
  pub sectors : b.sectors ≤ a.sectors
  pub writes : b.writes ≤ a.writes
  pub waits : b.waits ≤ a.waits
  pub entries : b.entries ≤ a.entries

-- the entries of a line beside its pieces: its answer, and its own where it takes place as a whole
abbrev pub work_entries : Work → ℕ
work_entries (Whole answer) = 2
work_entries _ = 1

-- so much more, and so much less of each
abbrev pub more : Room → Room → Room
more a b = record {
  ops = a.ops + b.ops;
  sectors = a.sectors + b.sectors;
  writes = a.writes + b.writes;
  waits = a.waits + b.waits;
  entries = a.entries + b.entries;
}

abbrev pub fewer : Room → Room → Room
fewer a b = record {
  ops = a.ops - b.ops;
  sectors = a.sectors - b.sectors;
  writes = a.writes - b.writes;
  waits = a.waits - b.waits;
  entries = a.entries - b.entries;
}

-- of a line beside its pieces
abbrev pub line_room : OpenLine → Room
line_room opened = record { ops = 0; sectors = 0; writes = 0; waits = 0; entries = work_entries opened.work }

-- of a piece that waits
abbrev pub piece_room : Piece → Bool → Room
piece_room piece through = record {
  ops = 1 + one through;
  sectors = piece.count;
  writes = one piece.write;
  waits = one through;
  entries = 1;
}

-- what a piece uses up as it is submitted, and what one doesn't that failed
abbrev pub start_room : Piece → Room
start_room piece = record { ops = 1; sectors = piece.count; writes = 0; waits = 0; entries = 0 }

abbrev pub fail_room : Piece → Bool → Room
fail_room piece through = record { ops = one through; sectors = 0; writes = one piece.write; waits = one through; entries = 1 }
