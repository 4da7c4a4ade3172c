-- How the disks of a run are opened, and how it ends where they can't be.
use Rattle.std.specs.Prelude.{ℕ, Bool, false, ◌&&◌, Option, Some, None}
use Rattle.command_table.specs.declared.request.Request.{Request}
use Rattle.command_table.specs.declared.request.Request.TheVariants.{One, Session}
use Rattle.command_table.specs.Commands.{changes}
use Rattle.lvm_words.specs.declared.command_line.CommandLine.{CommandLine}
use Rattle.file_shelf.specs.declared.opening.OpenFault.{OpenFault}
use Rattle.file_shelf.specs.declared.opening.OpenFault.TheVariants.{NoMemory, File}
use Rattle.lvm_run.specs.Commands.{is_built}
use Rattle.lvm_run.specs.Sessions.{is_built_session}

-- what is asked for runs, and changes something
abbrev pub changes_by : Request → Bool
changes_by (One command) = is_built command && changes command
changes_by (Session session) = is_built_session session
changes_by _ = false

-- the command line asks for a command that runs and changes something, or for a session that runs
abbrev pub changes_disks : Option CommandLine → Bool
changes_disks None = false
changes_disks (Some line) = changes_by line.request

-- the exit status: 2 for want of memory, and 6 where a file can't be opened as a disk
abbrev pub opening_status : OpenFault → ℕ
opening_status NoMemory = 2
opening_status (File number cause) = 6
