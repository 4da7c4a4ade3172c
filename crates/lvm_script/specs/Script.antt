-- The lines of a script.
use Rattle.std.specs.Prelude.{◌≡◌, ℕ, ◌+◌, ◌==◌, Bool, true, false, nat_lt, if◌then◌else◌, List, [], ◌∷◌, ◌++◌, length, take, drop, ◌-◌}
use Rattle.std.specs.Prelude.{filter, Option, Some, None, Result, Ok, Err}
use Rattle.std.specs.List.{slice_split}
use Rattle.command_table.specs.declared.command.Command.{Command}
use Rattle.command_table.specs.declared.table.CommandName.{CommandName}
use Rattle.command_table.specs.declared.refusal.CommandRefusal.{CommandRefusal}
use Rattle.command_table.specs.declared.refusal.CommandRefusal.TheVariants as words
use Rattle.command_table.specs.declared.line_fault.LineFault.{LineFault}
use Rattle.command_table.specs.declared.line_fault.LineFault.TheVariants.{UnknownWord, NotHere, Faulty, WrongWords, SessionFull}
use Rattle.command_table.specs.declared.request.Request.{Request}
use Rattle.command_table.specs.declared.request.Request.TheVariants.{One}
use Rattle.command_table.specs.Commands.{draws, sectors_of}
use Rattle.command_table.specs.Meaning.{at_place, meaning_of}
use Rattle.command_table.specs.Options.{Word}
use Rattle.command_table.specs.Table.{command_named, is_for_scripts}
use Rattle.lvm_script.specs.declared.line.Line.{Line}
use Rattle.lvm_script.specs.declared.script_refusal.LineRefusal.{LineRefusal}
use Rattle.lvm_script.specs.declared.script_refusal.LineRefusal.TheVariants.{NoMemory, Refused}
use Rattle.lvm_script.specs.declared.script_refusal.ScriptRefusal.{ScriptRefusal}
use Rattle.lvm_script.specs.declared.script_refusal.ScriptRefusal.TheVariants as script
use Rattle.lvm_script.specs.declared.script_refusal.ScriptRefusal.TheVariants.{LineRefused}
use Rattle.lvm_script.specs.Lines.{TakesId, line_of}

-- ---- one line

-- the parts of a line, the first of which has this place, with their places; a byte stands between two parts
abbrev pub placed_from : ℕ → List Word → List (Word × ℕ)
placed_from place [] = []
placed_from place (part ∷ parts) = (part, place) ∷ placed_from (place + length part + 1) parts

-- a part that isn't empty
abbrev pub is_word : Word → Bool
is_word [] = false
is_word (byte ∷ part) = true

-- those that aren't empty
abbrev pub some_from : ℕ → List Word → List (Word × ℕ)
some_from place parts = filter (λ part. is_word part.0) (placed_from place parts)

-- the words of a line, each with its place: what stands between spaces
abbrev pub words_in : List ℕ → List (Word × ℕ)
words_in line = some_from 0 (slice_split (λ byte. byte == 32) line)

-- a line that begins with `#`
abbrev pub is_comment : List ℕ → Bool
is_comment [] = false
is_comment (byte ∷ bytes) = byte == 35

-- the words after a command's name in this place, in a line of this length
abbrev pub line_named : Option CommandName → ℕ → ℕ → List (Word × ℕ) → Result Command (LineFault × ℕ)
line_named None place end rest = Err (UnknownWord, place)
line_named (Some name) place end rest = if is_for_scripts name then at_place end (meaning_of name rest) else Err (NotHere, place)

-- the words of a line of this length; without words it asks for nothing
abbrev pub line_of_words : ℕ → List (Word × ℕ) → Option (Result Command (LineFault × ℕ))
line_of_words end [] = None
line_of_words end (first ∷ rest) = Some (line_named (command_named first.0) first.1 end rest)

-- what a line of a script comes to: nothing for an empty line and a comment, a command, or the first refusal with its place
abbrev pub meaning_of_line : List ℕ → Option (Result Command (LineFault × ℕ))
meaning_of_line bytes = if is_comment bytes then None else line_of_words (length bytes) (words_in bytes)

-- ---- all lines

-- the most lines of a script
abbrev pub most_lines : ℕ
most_lines = 65536

-- the most sectors in all its reads and writes
abbrev pub most_sectors : ℕ
most_sectors = 524288

-- the parts without the last one, where that is empty
abbrev pub without_last_empty : List (List ℕ) → List (List ℕ)
without_last_empty [] = []
without_last_empty ([] ∷ []) = []
without_last_empty (part ∷ parts) = part ∷ without_last_empty parts

-- the lines of a script: each ends with a line feed, but the last needn't
abbrev pub lines_in : List ℕ → List (List ℕ)
lines_in text = without_last_empty (slice_split (λ byte. byte == 10) text)

-- what a line comes to: a command, or its refusal with its place
abbrev pub Meant : Type 0
Meant = Result Command (LineFault × ℕ)

-- what the line with this number comes to; one past the last number is refused whatever it holds
abbrev pub line_meant : ℕ → List ℕ → Option Meant
line_meant number line = if nat_lt most_lines number then Some (Err (SessionFull, 0)) else meaning_of_line line

-- the commands of a script with the numbers of their lines, or the first line that is refused, and why
abbrev pub Commands : Type 0
Commands = Result (List (ℕ × Command)) (ℕ × LineFault × ℕ)

-- the same with these commands before them
abbrev pub behind_all : List (ℕ × Command) → Commands → Commands
behind_all first (Ok more) = Ok (first ++ more)
behind_all first (Err refusal) = Err refusal

-- what a line comes to, where the lines before it have so many sectors: one that takes them past the most is refused
abbrev pub limited : ℕ → Option Meant → Option Meant
limited sectors (Some (Ok command)) =
    if nat_lt most_sectors (sectors + sectors_of command) then Some (Err (SessionFull, 0)) else Some (Ok command)
limited sectors meant = meant

-- the commands from a line with this number on that comes to this, by those that follow it where so many sectors stand before them
abbrev pub commands_with : ℕ → ℕ → Option Meant → (ℕ → Commands) → Commands
commands_with number sectors None after = after sectors
commands_with number sectors (Some (Err refusal)) after = Err (number, refusal.0, refusal.1)
commands_with number sectors (Some (Ok command)) after = behind_all ((number, command) ∷ []) (after (sectors + sectors_of command))

-- the commands of these lines, the first of which has this number, where the lines before it have so many sectors
unfoldable pub commands_from : List (List ℕ) → ℕ → ℕ → Commands
commands_from [] number sectors = Ok []
commands_from (line ∷ lines) number sectors =
    commands_with number sectors (limited sectors (line_meant number line)) (commands_from lines (number + 1))

-- the commands of a script
abbrev pub commands_in : List ℕ → Commands
commands_in text = commands_from (lines_in text) 1 0

-- a line's command with its number
abbrev pub numbered : Line → ℕ × Command
numbered line = (line.number, line.command)

-- these are the lines of the commands, each of which draws its id from the source of numbers as the one before left it
abbrev pub AreLines : (ℕ → List ℕ) → List (ℕ × Command) → List Line → (ℕ → List ℕ) → Type 0
AreLines before [] [] after = after ≡ before
AreLines before ((number, command) ∷ commands) (line ∷ lines) after =
    (line ≡ line_of number command before)
    × ((between : ℕ → List ℕ) × TakesId (draws command) before between × AreLines between commands lines after)
AreLines before _ _ after = ⊥

-- ---- what the code answers

-- where it isn't want of memory, words come to this refusal
abbrev pub IsRefusalOf : {A : Type 0} → Result A (LineFault × ℕ) → LineRefusal → Type 0
IsRefusalOf meant NoMemory = Unit {0}
IsRefusalOf meant (Refused fault place) = meant ≡ Err (fault, place)

-- the command that words of a command line ask for; a session and the demo are no line
abbrev pub only_command : Result Request (LineFault × ℕ) → Result Command (LineFault × ℕ)
only_command (Ok (One command)) = Ok command
only_command (Ok request) = Err (NotHere, 0)
only_command (Err refusal) = Err refusal

-- where it isn't want of memory, the line comes to this refusal
abbrev pub IsRefusal : Option Meant → LineRefusal → Type 0
IsRefusal meant NoMemory = Unit {0}
IsRefusal meant (Refused fault place) = meant ≡ Some (Err (fault, place))

-- where it isn't want of memory, the script comes to this refusal
abbrev pub IsScriptRefusal : Commands → ScriptRefusal → Type 0
IsScriptRefusal commands script.NoMemory = Unit {0}
IsScriptRefusal commands (LineRefused number fault place) = commands ≡ Err (number, fault, place)

-- what stands between these places of a line, with the first of them, if there is something
abbrev pub word_between : List ℕ → ℕ → ℕ → List (Word × ℕ)
word_between line from to = if nat_lt from to then (take (to - from) (drop from line), from) ∷ [] else []

-- the refusal of words in a line of this length
abbrev pub refusal_at : ℕ → CommandRefusal → LineRefusal
refusal_at end (words.Faulty fault place) = Refused (Faulty fault) place
refusal_at end words.WrongWords = Refused WrongWords end
refusal_at end words.NoMemory = NoMemory

-- the refusal of the line with this number in a script
abbrev pub in_line : ℕ → LineRefusal → ScriptRefusal
in_line number NoMemory = script.NoMemory
in_line number (Refused fault place) = LineRefused number fault place
