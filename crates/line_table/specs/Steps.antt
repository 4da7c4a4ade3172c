-- The lines of a run with its journal and its answers, and what each call does to them.
use Rattle.std.specs.Prelude.{ℕ, ◌-◌, Bool, false, not, List, [], ◌∷◌, ◌++◌, length, is_some, Option, None, Some, slice_get, slice_index_or}
use Rattle.std.specs.Prelude.{slice_set}
use Rattle.std.specs.Option.{option_map_or}
use Rattle.sector_base.specs.declared.places.Piece.{Piece}
use Rattle.line_answers.specs.declared.answer.Answer.{Answer}
use Rattle.lvm_script.specs.declared.line.Line.{Line}
use Rattle.line_table.specs.declared.journal.EntryKind.{EntryKind}
use Rattle.line_table.specs.declared.journal.EntryKind.TheVariants as kind
use Rattle.line_table.specs.declared.journal.JournalEntry.{JournalEntry}

-- the lines that were begun, the journal, the oldest entry first, of each line its number and its answer, if it has one, and
-- how many lines and entries are spare
pub record Lines : Type 0 where
  pub begun : List Line
  pub journal : List JournalEntry
  pub answers : List (ℕ × Option Answer)
  pub spare_lines : ℕ
  pub spare_entries : ℕ

-- no line
abbrev pub no_lines : Lines
no_lines = record { begun = []; journal = []; answers = []; spare_lines = 0; spare_entries = 0 }

-- the moment of the last of these entries, or 0
abbrev pub last_moment : List JournalEntry → ℕ
last_moment [] = 0
last_moment (e ∷ []) = e.moment
last_moment (e ∷ later ∷ es) = last_moment (later ∷ es)

-- whether a line has no answer
abbrev pub is_open : ℕ × Option Answer → Bool
is_open line = not (is_some line.1)

-- whether the line at this place was begun and has no answer
abbrev pub may_enter : Lines → ℕ → Bool
may_enter lines at = option_map_or is_open (slice_get lines.answers at) false

-- the piece of an entry that has none
abbrev pub no_piece : ℕ → Piece
no_piece volume = record { volume = volume; first = 0; count = 0; write = false }

-- one entry more
abbrev pub with_entry : Lines → EntryKind → ℕ → Piece → ℕ → Lines
with_entry lines kind line piece moment = record lines {
  journal = lines.journal ++ record { kind = kind; line = line; piece = piece; moment = moment } ∷ [];
  spare_entries = lines.spare_entries - 1;
}

-- the line was begun, and names the volume with this key
abbrev pub after_begin : Lines → Line → ℕ → ℕ → Lines
after_begin lines line volume moment = record (with_entry lines kind.Begun (length lines.begun) (no_piece volume) moment) {
  begun = lines.begun ++ line ∷ [];
  answers = lines.answers ++ (line.number, None) ∷ [];
  spare_lines = lines.spare_lines - 1;
}

-- a piece of the line took place, or a command
abbrev pub after_took : Lines → ℕ → Piece → ℕ → Lines
after_took lines line piece moment = with_entry lines kind.Took line piece moment

-- a piece of the line failed
abbrev pub after_failed : Lines → ℕ → Piece → ℕ → Lines
after_failed lines line piece moment = with_entry lines kind.Failed line piece moment

-- stands for a line where there is none
abbrev pub no_line : ℕ × Option Answer
no_line = (0, None)

-- the line was answered
abbrev pub after_answer : Lines → ℕ → Answer → ℕ → Lines
after_answer lines line answer moment = record (with_entry lines kind.Answered line (no_piece 0) moment) {
  answers = slice_set lines.answers line ((slice_index_or lines.answers line no_line).0, Some answer);
}
