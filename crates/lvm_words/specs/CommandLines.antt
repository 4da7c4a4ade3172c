-- What the words of a command line mean.
use Rattle.std.specs.Prelude.{◌≡◌, ⊤, ℕ, Bool, false, List, Option, Some, None, Result, Ok, Err, IfSome, option_map, option_and_then}
use Rattle.std.specs.Result.{result_ok}
use Rattle.lvm_id.specs.LvmId.{IsId}
use Rattle.command_table.specs.declared.line_fault.LineFault.{LineFault}
use Rattle.command_table.specs.declared.request.Request.{Request}
use Rattle.command_table.specs.declared.request.Request.TheVariants as request
use Rattle.command_table.specs.Commands.{draws}
use Rattle.command_table.specs.Meaning.{meaning_of_words}
use Rattle.command_table.specs.Options.{Word}
use Rattle.lvm_script.specs.Lines.{line_of}
use Rattle.lvm_words.specs.declared.asked.Asked.{Asked}
use Rattle.lvm_words.specs.declared.asked.Task.{Task}
use Rattle.lvm_words.specs.declared.asked.Task.TheVariants.{One, Session, Demo}
use Rattle.lvm_words.specs.declared.command_line.CommandLine.{CommandLine}
use Rattle.lvm_words.specs.declared.fault.WordsFault.{WordsFault}
use Rattle.lvm_words.specs.declared.fault.WordsFault.TheVariants.{Disks, Command}
use Rattle.lvm_words.specs.Disks.{Front, disks_front}

-- what the words after the pairs ask for, of the disks that the pairs name
abbrev pub of_disks : Front → Option CommandLine
of_disks front = option_map (λ request. record { names = front.names; request = request }) (result_ok (meaning_of_words front.rest))

-- what a command line asks for, and of which disks, where the words have a meaning
abbrev pub command_line_of : List Word → Option CommandLine
command_line_of words = option_and_then of_disks (disks_front words)

-- ---- what a run is to do

-- the task that is asked for, where a source of numbers gives these: one command is line 1, and draws its id
abbrev pub task_of : Request → (ℕ → List ℕ) → Task
task_of (request.One command) upcoming = One (line_of 1 command upcoming)
task_of (request.Session session) upcoming = Session session
task_of (request.Demo seed lines workers) upcoming = Demo seed lines workers

-- what a task was asked for by
abbrev pub request_in : Task → Request
request_in (One line) = request.One line.command
request_in (Session session) = request.Session session
request_in (Demo seed lines workers) = request.Demo seed lines workers

-- the command line that it was asked for by
abbrev pub line_in : Asked → CommandLine
line_in asked = record { names = asked.names; request = request_in asked.task }

-- whether an id is drawn for it
abbrev pub draws_id : Request → Bool
draws_id (request.One command) = draws command
draws_id _ = false

-- the id that a line drew is one
abbrev pub HasId : Task → Type 0
HasId (One line) = IfSome line.id IsId
HasId _ = ⊤

-- ---- faults

-- what is wrong with the words after the pairs, by the place of the faulty word among these
abbrev pub IsCommandFault : Result Request (LineFault × ℕ) → Option WordsFault → Type 0
IsCommandFault (Ok request) None = ⊤
IsCommandFault (Err refusal) (Some (Command fault place)) = refusal ≡ (fault, place)
IsCommandFault _ _ = ⊥

-- what is wrong with a command line: its words name no disks, or those after the pairs are wrong; or nothing
abbrev pub IsFaultOf : Option Front → Option WordsFault → Type 0
IsFaultOf None (Some Disks) = ⊤
IsFaultOf (Some front) fault = IsCommandFault (meaning_of_words front.rest) fault
IsFaultOf _ _ = ⊥
