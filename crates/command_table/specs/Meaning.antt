-- What the words of a command mean.
use Rattle.std.specs.Prelude.{ℕ, ◌+◌, ◌^◌, length, nat_lt, if◌then◌else◌, List, [], ◌∷◌, Option, Some, None, Result, Ok, Err, option_map}
use Rattle.std.specs.Prelude.{is_some, option_and_then}
use Rattle.command_table.specs.declared.command.Command.{Command}
use Rattle.command_table.specs.declared.request.Request.{Request}
use Rattle.command_table.specs.declared.request.Request.TheVariants.{One, Session, Demo}
use Rattle.command_table.specs.declared.fault.Fault.{Fault}
use Rattle.command_table.specs.declared.table.CommandName.{CommandName}
use Rattle.command_table.specs.declared.table.CommandName.TheVariants as name
use Rattle.command_table.specs.declared.option_key.OptionKey.TheVariants as key
use Rattle.command_table.specs.declared.refusal.CommandRefusal.{CommandRefusal}
use Rattle.command_table.specs.declared.refusal.CommandRefusal.TheVariants.{Faulty, WrongWords}
use Rattle.command_table.specs.declared.line_fault.LineFault.{LineFault}
use Rattle.command_table.specs.declared.line_fault.LineFault.TheVariants as fault
use Rattle.command_table.specs.Options.{Word}
use Rattle.command_table.specs.Table.{command_named, is_for_words}
use Rattle.command_table.specs.Values.{is_group_name, number_of}
use Rattle.command_table.specs.Words.{Read as ReadWords, Split, is_complete, numbered_from, read}
use Rattle.command_table.specs.Given.{OptionValues, number, one_word, value_in}
use Rattle.command_table.specs.Commands.{command_by_name}

-- the number, where it fits 32 bits
abbrev pub narrow : ℕ → Option ℕ
narrow n = if nat_lt n (2 ^ 32) then Some n else None

-- how many workers are to run
abbrev pub workers_in : OptionValues → Option ℕ
workers_in given = option_and_then narrow (number given key.Workers)

-- a session with so many workers on the group of this name
abbrev pub session_on : OptionValues → Option ℕ → Word → Option Request
session_on given None vg = None
session_on given (Some workers) vg = if is_group_name vg then Some (Session (record {
  group = vg;
  workers = workers;
  disk_threads = is_some (given key.DiskThreads);
  status = is_some (given key.Status);
})) else None

-- `--workers W` and a group, and what else is asked for
abbrev pub session : OptionValues → List Word → Option Request
session given arguments = option_and_then (session_on given (workers_in given)) (one_word arguments)

-- the demo of these numbers
abbrev pub demo_of : Option ℕ → Option ℕ → Option ℕ → Option Request
demo_of (Some seed) (Some lines) (Some workers) = Some (Demo seed lines workers)
demo_of _ _ _ = None

-- a seed, how many lines, and how many workers
abbrev pub demo : List Word → Option Request
demo (seed ∷ lines ∷ workers ∷ []) = demo_of (number_of seed) (number_of lines) (option_and_then narrow (number_of workers))
demo _ = None

-- what the words of this name ask for: a session, the demo, or one command
abbrev pub request_by_name : CommandName → OptionValues → List Word → Option Request
request_by_name name.Session given arguments = session given arguments
request_by_name name.Demo given arguments = demo arguments
request_by_name name given arguments = option_map One (command_by_name name given arguments)

-- ---- readings

-- the command, where no word of it is faulty
abbrev pub command_of : CommandName → Split → Option Command
command_of name split = if is_complete split then command_by_name name (value_in split.given) split.arguments else None

-- what words come to: a meaning, or the first refusal
abbrev pub meaning_with : {A : Type 0} → Option (Fault × ℕ) → Option A → Result A CommandRefusal
meaning_with (Some fault) meaning = Err (Faulty fault.0 fault.1)
meaning_with None (Some meaning) = Ok meaning
meaning_with None None = Err WrongWords

-- the meaning of the words after a command's name, each with its place
abbrev pub meaning_of : CommandName → List (Word × ℕ) → Result Command CommandRefusal
meaning_of name words = meaning_with (read name words).fault (command_of name (read name words).split)

-- the meaning or the refusal of words that end there: words that are wrong as a whole have their place at the end
abbrev pub at_place : {A : Type 0} → ℕ → Result A CommandRefusal → Result A (LineFault × ℕ)
at_place end (Ok meaning) = Ok meaning
at_place end (Err (Faulty f place)) = Err (fault.Faulty f, place)
at_place end (Err refusal) = Err (fault.WrongWords, end)

-- what the words ask for, where no word is faulty
abbrev pub request_of : CommandName → Split → Option Request
request_of name split = if is_complete split then request_by_name name (value_in split.given) split.arguments else None

-- the same of what was read
abbrev pub request_read : CommandName → ReadWords → Result Request CommandRefusal
request_read name read = meaning_with read.fault (request_of name read.split)

-- what the words after a command's name ask for
abbrev pub request_named : Option CommandName → List Word → Result Request (LineFault × ℕ)
request_named None rest = Err (fault.UnknownWord, 0)
request_named (Some name) rest =
    if is_for_words name then at_place (length rest + 1) (request_read name (read name (numbered_from 1 rest))) else Err (fault.NotHere, 0)

-- what the words of a command line ask for, the first of which is the command's name, or the first refusal with the place of
-- its word, from 0
abbrev pub meaning_of_words : List Word → Result Request (LineFault × ℕ)
meaning_of_words [] = Err (fault.WrongWords, 0)
meaning_of_words (first ∷ rest) = request_named (command_named first) rest
