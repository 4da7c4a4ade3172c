-- How the words after a command's name are read: from left to right, each by those before it.
use Rattle.std.specs.Prelude.{ℕ, ◌+◌, Bool, ◌==◌, if◌then◌else◌, List, [], ◌∷◌, ◌++◌, map, length, Option, Some, None, codes, find, fold}
use Rattle.std.specs.List.{list_any}
use Rattle.std.specs.Borrow.{Bor}
use Rattle.std.specs.Option.{option_and_then}
use Rattle.command_table.specs.declared.fault.Fault.{Fault}
use Rattle.command_table.specs.declared.fault.Fault.TheVariants.{BadOption, BadNumber, BadCount, BadName, BadHex}
use Rattle.command_table.specs.declared.line_fault.LineFault.{LineFault}
use Rattle.command_table.specs.declared.line_fault.LineFault.TheVariants.{UnknownWord, NotHere, Faulty, WrongWords, SessionFull}
use Rattle.command_table.specs.declared.table.CommandName.{CommandName}
use Rattle.command_table.specs.declared.kind.Kind.{Kind}
use Rattle.command_table.specs.declared.kind.Kind.TheVariants.{Flag}
use Rattle.command_table.specs.declared.option_key.OptionKey.{OptionKey}
use Rattle.command_table.specs.declared.reading.Reading.{Reading}
use Rattle.command_table.specs.declared.role.Role.{Role}
use Rattle.command_table.specs.declared.role.Role.TheVariants as role
use Rattle.command_table.specs.declared.table.OptionRow.{OptionRow}
use Rattle.command_table.specs.Options.{Word, is_dashed, is_key, spells}
use Rattle.command_table.specs.Table.{argument_of, options_of}
use Rattle.command_table.specs.Values.{fault_in}

-- the words so far, taken apart: the options, those of them that have their value (an option that takes none has the empty
-- word), the option whose value the next word is, and the arguments
pub record Split : Type 0 where
  pub seen : List OptionKey
  pub given : List (OptionKey × Word)
  pub waiting : Option OptionRow
  pub arguments : List Word

-- no word yet
abbrev pub nothing_split : Split
nothing_split = record { seen = []; given = []; waiting = None; arguments = [] }

-- the option of the list that the word is
abbrev pub option_named : List OptionRow → Word → Option OptionRow
option_named rows word = find (λ row. spells row.key word) rows

-- the option is one of these
abbrev pub has_key : List OptionKey → OptionKey → Bool
has_key keys key = list_any (λ k. is_key k key) keys

-- an option that did not stand before: its value follows, if it takes one
abbrev pub role_of_row : OptionRow → Role
role_of_row row = by row.kind
  where
    by : Kind → Role
    by Flag = role.Flag row.key
    by kind = role.Option row

-- a word that begins with `-`: the option of the command that it is, where that did not stand before; and else it has no place
abbrev pub role_of_option : Split → Option OptionRow → Role
role_of_option split None = role.Stray
role_of_option split (Some row) = if has_key split.seen row.key then role.Stray else role_of_row row

-- another word: the value of the option that waits for one, and else the next argument
abbrev pub role_of_other : Split → Option OptionRow → Role
role_of_other split None = role.Argument (length split.arguments)
role_of_other split (Some row) = role.Value row

-- What the next word is: a word that begins with `-` is an option, and no other is. Another word is the value of the option
-- just before it, and else an argument.
abbrev pub role_of : List OptionRow → Split → Word → Role
role_of rows split word = if is_dashed word then role_of_option split (option_named rows word) else role_of_other split split.waiting

-- the words with one more
abbrev pub after_role : Split → Word → Role → Split
after_role split word role.Stray = record split { waiting = None }
after_role split word (role.Option row) = record split { seen = split.seen ++ row.key ∷ []; waiting = Some row }
after_role split word (role.Flag key) =
    record split { seen = split.seen ++ key ∷ []; given = split.given ++ (key, []) ∷ []; waiting = None }
after_role split word (role.Value row) = record split { given = split.given ++ (row.key, word) ∷ []; waiting = None }
after_role split word (role.Argument number) = record split { arguments = split.arguments ++ word ∷ [] }

-- no option lacks its value
abbrev pub is_complete : Split → Bool
is_complete split = length split.seen == length split.given

-- the fault of a word; an argument past the last has none of its own
abbrev pub fault_of : CommandName → Word → Role → Option Fault
fault_of name word role.Stray = Some BadOption
fault_of name word (role.Option row) = None
fault_of name word (role.Flag key) = None
fault_of name word (role.Value row) = fault_in row.kind word
fault_of name word (role.Argument number) = option_and_then (λ k. fault_in k word) (argument_of name number)

-- the words so far, and the first of them that is faulty, by its place
pub record Read : Type 0 where
  pub split : Split
  pub fault : Option (Fault × ℕ)

-- no word yet, and no fault
abbrev pub nothing_read : Read
nothing_read = record { split = nothing_split; fault = None }

-- the first fault: that of an earlier word, or else that of the next, by its place
abbrev pub first_fault : Option (Fault × ℕ) → Option Fault → ℕ → Option (Fault × ℕ)
first_fault (Some fault) next place = Some fault
first_fault None None place = None
first_fault None (Some fault) place = Some (fault, place)

-- the words with one more, and the first fault of them
abbrev pub after_word : CommandName → Read → Word × ℕ → Read
after_word name read word = record {
  split = after_role read.split word.0 (role_of (options_of name) read.split word.0);
  fault = first_fault read.fault (fault_of name word.0 (role_of (options_of name) read.split word.0)) word.1;
}

-- the words of a command, each with its place, read from left to right
abbrev pub read : CommandName → List (Word × ℕ) → Read
read name words = fold (after_word name) nothing_read words

-- words with their numbers, from this one on
abbrev pub numbered_from : ℕ → List Word → List (Word × ℕ)
numbered_from number [] = []
numbered_from number (word ∷ words) = (word, number) ∷ numbered_from (number + 1) words

-- the words that the code holds, with their places
abbrev pub placed : List (Bor Word × ℕ) → List (Word × ℕ)
placed words = map (λ pair. (pair.0.now, pair.1)) words

-- what the code holds of the words
abbrev pub split_by : Reading → Split
split_by reading = record {
  seen = reading.seen.items;
  given = map (λ pair. (pair.0, pair.1.now)) reading.given.items;
  waiting = reading.waiting;
  arguments = map (λ word. word.now) reading.arguments.items;
}

-- what the code holds of the words, with the first fault of them
abbrev pub read_by : Reading → Read
read_by reading = record { split = split_by reading; fault = reading.fault }

-- the word that a fault prints as
abbrev pub fault_word : Fault → Word
fault_word BadOption = codes "BadOption"
fault_word BadNumber = codes "BadNumber"
fault_word BadCount = codes "BadCount"
fault_word BadName = codes "BadName"
fault_word BadHex = codes "BadHex"

-- and that of the fault of a line
abbrev pub line_fault_word : LineFault → Word
line_fault_word UnknownWord = codes "UnknownWord"
line_fault_word NotHere = codes "NotHere"
line_fault_word (Faulty fault) = fault_word fault
line_fault_word WrongWords = codes "WrongWords"
line_fault_word SessionFull = codes "SessionFull"
