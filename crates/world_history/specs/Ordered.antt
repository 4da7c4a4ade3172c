-- What the journal and the answers of a run are: those of one history in order, over any shelf.
use Rattle.std.specs.Prelude.{◌≡◌, ℕ, ◌+◌, List, [], ◌∷◌, Option}
use Rattle.line_answers.specs.declared.answer.Answer.{Answer}
use Rattle.lvm_script.specs.declared.line.Line.{Line}
use Rattle.line_table.specs.declared.journal.JournalEntry.{JournalEntry}
use Rattle.volume_history.specs.Chronicles.{ChronicleEntry}
use Rattle.volume_history.specs.Legal.{AllOrdered}
use Rattle.volume_history.specs.Runs.{journal_of, lines_of}
use Rattle.world_history.specs.Told.{answer_at}

-- the lines, the first of which stands at this place, each with its answer if it has one
abbrev pub lines_with : ℕ → List Line → List (ℕ × Option Answer) → List (Line × Option Answer)
lines_with at [] answers = []
lines_with at (line ∷ lines) answers = (line, answer_at answers at) ∷ lines_with (at + 1) lines answers

-- from a moment on, these are the journal and the lines of one history, each entry of which has its order: lines are begun in order,
-- none while a wait is open, pieces of a line are disjoint and of its range, and each line is answered once, as done exactly where all
-- of it took place
pub record IsOrderedHistory (start : ℕ) (journal : List JournalEntry) (lines : List (Line × Option Answer)) : Type 0 where
  pub entries : List ChronicleEntry
  pub journal_is : journal_of entries ≡ journal
  pub lines_is : lines_of entries entries ≡ lines
  pub ordered : AllOrdered start entries
