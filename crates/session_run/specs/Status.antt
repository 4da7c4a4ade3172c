-- The exit status of a session.
use Rattle.std.specs.Prelude.{ℕ, Bool, true, false, if◌then◌else◌, List, Option, Some}
use Rattle.std.specs.List.{list_any}
use Rattle.line_answers.specs.declared.answer.Answer.{Answer}
use Rattle.line_answers.specs.declared.answer.Answer.TheVariants.{Fenced, NoMemory, PvFailed, ReadFailed, Refused, Stopped}

-- whether memory was wanted for the line; whether a disk failed; whether it was refused
abbrev pub is_wanting : Option Answer → Bool
is_wanting (Some NoMemory) = true
is_wanting _ = false

abbrev pub is_device : Option Answer → Bool
is_device (Some (ReadFailed pv)) = true
is_device (Some (PvFailed pv)) = true
is_device (Some (Fenced pv)) = true
is_device (Some (Stopped pv)) = true
is_device _ = false

abbrev pub is_refusal : Option Answer → Bool
is_refusal (Some (Refused refusal)) = true
is_refusal _ = false

-- the first of these
abbrev pub status_of_lines : List (ℕ × Option Answer) → ℕ
status_of_lines lines =
    if list_any (λ (l : ℕ × Option Answer). is_wanting l.1) lines then 2
    else if list_any (λ (l : ℕ × Option Answer). is_device l.1) lines then 6
    else if list_any (λ (l : ℕ × Option Answer). is_refusal l.1) lines then 5
    else 0
