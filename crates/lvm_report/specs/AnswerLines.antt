-- The lines that the answers of a run are printed as.
use Rattle.std.specs.Prelude.{ℕ, List, ◌++◌, codes, decimal, flat_map, Option, None, Some}
use Rattle.command_table.specs.Options.{Word}
use Rattle.line_answers.specs.Answers.{answer_text}
use Rattle.line_answers.specs.declared.answer.Answer.{Answer}

-- the line of a line, by its number and its answer; one without an answer wasn't begun
abbrev pub answer_line : List Word → ℕ × Option Answer → List ℕ
answer_line names (number, None) = decimal number ++ codes ": not begun\n"
answer_line names (number, Some answer) = decimal number ++ codes ": " ++ answer_text names answer ++ codes "\n"

-- those of all lines of a run, in their order
abbrev pub answers_text : List Word → List (ℕ × Option Answer) → List ℕ
answers_text names answers = flat_map (answer_line names) answers
