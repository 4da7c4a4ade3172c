-- What a run comes to: its output and its exit status.
use Rattle.std.specs.Prelude.{◌≡◌, ℕ, Bool, true, false, List, ◌++◌, codes, decimal, Option}
use Rattle.byte_streams.specs.Streams.{WritesText}
use Rattle.command_table.specs.Options.{Word}
use Rattle.line_answers.specs.Answers.{answer_text}
use Rattle.line_answers.specs.declared.answer.Answer.{Answer}
use Rattle.line_answers.specs.declared.answer.Answer.TheVariants.{Refused, ReadFailed, PvFailed, Fenced, Stopped, NoMemory}
use Rattle.lvm_report.specs.AnswerLines.{answers_text}
use Rattle.lvm_run.specs.declared.ending.Ending.TheVariants.{SourceFailed, WordsRefused}
use Rattle.lvm_run.specs.declared.ending.Ending.TheVariants as ending
use Rattle.lvm_run.specs.declared.outcome.Outcome.{Outcome}
use Rattle.lvm_run.specs.declared.outcome.Outcome.TheVariants.{Ended, Answered, Reported}
use Rattle.lvm_run.specs.declared.output.Output.{Output}
use Rattle.lvm_run.specs.declared.output.Output.TheVariants.{Answers, Ending, Report}
use Rattle.lvm_run.specs.declared.output.Output.TheVariants as output
use Rattle.lvm_run.specs.Endings.{ending_text, status_of_ending}

-- what a run prints, whose disks have these names
abbrev pub output_of : List Word → Outcome → List ℕ
output_of names (Ended ending) = ending_text names ending
output_of names (Answered line answer) = decimal line ++ codes ": " ++ answer_text names answer ++ codes "\n"
output_of names (Reported text whole) = text

-- what is printed, where the lines have these answers
abbrev pub text_of : List Word → List (ℕ × Option Answer) → Output → List ℕ
text_of names answers Answers = answers_text names answers
text_of names answers (Ending ending) = ending_text names ending
text_of names answers (output.NoMemory line) = decimal line ++ codes ": " ++ answer_text names NoMemory ++ codes "\n"
text_of names answers (Report text) = text

-- the exit status of a line that answered, where the output was printed whole: 6 for the answers of a disk's failure
abbrev pub status_of_answer : Answer → ℕ
status_of_answer (Refused refusal) = 5
status_of_answer (ReadFailed pv) = 6
status_of_answer (PvFailed pv) = 6
status_of_answer (Fenced pv) = 6
status_of_answer (Stopped pv) = 6
status_of_answer NoMemory = 2
status_of_answer _ = 0

-- the exit status where the output was printed whole; 6 where a report stands over a disk that wasn't read
abbrev pub status_of : Outcome → ℕ
status_of (Ended ending) = status_of_ending ending
status_of (Answered line answer) = status_of_answer answer
status_of (Reported text true) = 0
status_of (Reported text false) = 6

-- the exit status where the sink failed: words without a meaning, want of memory and a source that failed come first
abbrev pub status_unprinted : Outcome → ℕ
status_unprinted (Ended WordsRefused) = 3
status_unprinted (Ended ending.NoMemory) = 2
status_unprinted (Ended SourceFailed) = 4
status_unprinted (Answered line NoMemory) = 2
status_unprinted _ = 7

-- whether it is a report
abbrev pub is_report : Outcome → Bool
is_report (Reported text whole) = true
is_report _ = false

-- the exit status, by whether the output was printed
abbrev pub status_printed : Outcome → Bool → ℕ
status_printed outcome true = status_of outcome
status_printed outcome false = status_unprinted outcome

-- it is that of line 1
abbrev pub IsOfLineOne : Outcome → Type 0
IsOfLineOne (Answered line answer) = line ≡ 1
IsOfLineOne _ = Unit {0}

-- The output is written whole, without a fault of the sink, and the status is the outcome's; or the sink failed after a
-- front of it.
abbrev pub Ends : List Word → Outcome → ℕ → Option (List ℕ) → ℕ → Option (List ℕ) → ℕ → Type 0
Ends names outcome status before faults_before after faults_after =
    (printed : Bool) × (status ≡ status_printed outcome printed)
    × WritesText before faults_before (output_of names outcome) printed after faults_after
