-- The script of a session: until commands run beside reads and writes, a line that asks for one is refused.
use Rattle.std.specs.Prelude.{ℕ, All, ◌+◌, ◌-◌, Bool, true, false, not, ◌&&◌, if◌then◌else◌, List, [], ◌∷◌, take, Option, None, Some}
use Rattle.std.specs.Prelude.{option_map}
use Rattle.std.specs.Prelude.{Ok, Err, nat_lt}
use Rattle.std.specs.Option.{option_map_or, option_or}
use Rattle.command_table.specs.declared.line_fault.LineFault.{LineFault}
use Rattle.command_table.specs.declared.line_fault.LineFault.TheVariants.{SessionFull, UnknownWord}
use Rattle.command_table.specs.declared.table.CommandName.{CommandName}
use Rattle.command_table.specs.declared.table.CommandName.TheVariants as name
use Rattle.command_table.specs.Options.{Word}
use Rattle.command_table.specs.Table.{command_named, is_for_scripts}
use Rattle.lvm_script.specs.declared.line.Line.{Line}
use Rattle.lvm_script.specs.Script.{Commands, commands_from, is_comment, lines_in, most_lines, words_in}
use Rattle.world_history.specs.Told.{IsSessionLine}

-- the lines of one: each reads or writes a sector, or does something else that a world does
abbrev pub AreOfSession : List Line → Type 0
AreOfSession lines = All IsSessionLine lines

-- whether lines of this name run in a session
abbrev pub runs_named : CommandName → Bool
runs_named name.Read = true
runs_named name.Fill = true
runs_named name.Write = true
runs_named name.Flush = true
runs_named name.List = true
runs_named name.Wait = true
runs_named _ = false

-- whether the word names a command of scripts that doesn't
abbrev pub is_unrun : Word → Bool
is_unrun word = option_map_or (λ (n : CommandName). is_for_scripts n && not (runs_named n)) (command_named word) false

-- the place of the first word of a line, where it is such a name
abbrev pub unrun_in : List (Word × ℕ) → Option ℕ
unrun_in [] = None
unrun_in (first ∷ rest) = if is_unrun first.0 then Some first.1 else None

abbrev pub unrun_line : List ℕ → Option ℕ
unrun_line line = if is_comment line then None else unrun_in (words_in line)

-- the first of these lines, whose first one has this number, that begins with such a name: its number and the name's place
abbrev pub first_unrun : ℕ → List (List ℕ) → Option (ℕ × ℕ)
first_unrun number [] = None
first_unrun number (line ∷ lines) = option_or (option_map (λ place. (number, place)) (unrun_line line)) (first_unrun (number + 1) lines)

-- what is wrong with such a line, and where: where it is one too many, that
abbrev pub unrun_fault : ℕ × ℕ → LineFault × ℕ
unrun_fault unrun = if nat_lt most_lines unrun.0 then (SessionFull, 0) else (UnknownWord, unrun.1)

-- the refusal of such a line, unless a line before it is refused
abbrev pub refused_at : ℕ × ℕ → Commands → Commands
refused_at unrun (Err refusal) = Err refusal
refused_at unrun (Ok commands) = Err (unrun.0, (unrun_fault unrun).0, (unrun_fault unrun).1)

-- the commands of a script, or the first line that is refused
abbrev pub session_commands : List ℕ → Commands
session_commands text =
    option_map_or (λ (unrun : ℕ × ℕ). refused_at unrun (commands_from (take (unrun.0 - 1) (lines_in text)) 1 0))
    (first_unrun 1 (lines_in text)) (commands_from (lines_in text) 1 0)
