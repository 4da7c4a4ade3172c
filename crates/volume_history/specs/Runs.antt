-- What a run tells of its history: the promise to the administrator.
use Rattle.std.specs.Prelude.{◌≡◌, ◌≤◌, ℕ, false, List, [], ◌∷◌, ◌++◌, length, Option, option_map, unwrap_or}
use Rattle.sector_base.specs.declared.places.Piece.{Piece}
use Rattle.command_table.specs.Options.{Word}
use Rattle.line_answers.specs.declared.answer.Answer.{Answer}
use Rattle.lvm_script.specs.declared.line.Line.{Line}
use Rattle.disk_model.specs.Steps.{Record}
use Rattle.line_table.specs.declared.journal.EntryKind.TheVariants as kind
use Rattle.line_table.specs.declared.journal.JournalEntry.{JournalEntry}
use Rattle.volume_history.specs.Chronicles.{ChronicleEntry, Begun, Opened, Took, Changed, GivenUp, Failed, Answered, Chronicle, answer_in}
use Rattle.volume_history.specs.Legal.{IsLegalHistory}
use Rattle.volume_history.specs.Candidates.{IsConsistentMoment}

-- the piece of an entry that has none
abbrev pub zero_piece : ℕ → Piece
zero_piece key = record { volume = key; first = 0; count = 0; write = false }

-- the journal of the entries, the oldest first: without the notes, and without lines, versions and answers
abbrev pub journal_of : List ChronicleEntry → List JournalEntry
journal_of [] = []
journal_of (Begun moment n line key ∷ es) =
    journal_of es ++ record { kind = kind.Begun; line = n; piece = zero_piece (unwrap_or key 0); moment = moment } ∷ []
journal_of (Opened moment n version ∷ es) = journal_of es
journal_of (Took moment n piece ∷ es) = journal_of es ++ record { kind = kind.Took; line = n; piece = piece; moment = moment } ∷ []
journal_of (Changed moment n version ∷ es) =
    journal_of es ++ record { kind = kind.Took; line = n; piece = zero_piece 0; moment = moment } ∷ []
journal_of (GivenUp moment n ∷ es) = journal_of es
journal_of (Failed moment n piece ∷ es) = journal_of es ++ record { kind = kind.Failed; line = n; piece = piece; moment = moment } ∷ []
journal_of (Answered moment n answer ∷ es) =
    journal_of es ++ record { kind = kind.Answered; line = n; piece = zero_piece 0; moment = moment } ∷ []

-- the lines that were begun, in order, each with its answer if it has one
abbrev pub lines_of : List ChronicleEntry → List ChronicleEntry → List (Line × Option Answer)
lines_of all [] = []
lines_of all (Begun moment n line key ∷ es) = lines_of all es ++ (line, option_map (λ (a : ℕ × Answer). a.1) (answer_in all n)) ∷ []
lines_of all (_ ∷ es) = lines_of all es

-- what a run is: the record that the disks tell, the moment of the hand-in, the sizes and names of the disks, and the time
pub record Run : Type 0 where
  pub told : Record
  pub first : ℕ
  pub sizes : List ℕ
  pub names : List Word
  pub clock : ℕ

-- the history is that of this run
pub record IsOfRun (c : Chronicle) (run : Run) (journal : List JournalEntry) (lines : List (Line × Option Answer)) : Type 0 where
  pub told : c.origin.told ≡ run.told
  pub first : c.origin.first ≡ run.first
  pub sizes : c.origin.sizes ≡ run.sizes
  pub names : c.origin.names ≡ run.names
  pub clock : c.origin.clock ≡ run.clock
  pub journal_is : journal_of c.entries ≡ journal
  pub lines_is : lines_of c.entries c.entries ≡ lines

-- the headline: the journal and the answers are those of one legal history of plain volumes, and stopped at any moment since
-- the hand-in, scanning the disks finds one whole version of the group, in force or of the pending command, where every
-- sector of every volume is one of its candidates
pub record HasHistory (run : Run) (journal : List JournalEntry) (lines : List (Line × Option Answer)) : Type 0 where
  pub chronicle : Chronicle
  pub of_run : IsOfRun chronicle run journal lines
  pub legal : IsLegalHistory chronicle
  pub consistent : (moment : ℕ) → run.first ≤ moment → moment ≤ length run.told.steps → IsConsistentMoment chronicle moment
