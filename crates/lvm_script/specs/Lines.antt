-- Lines: commands with their number, and with the id that they draw.
use Rattle.std.specs.Prelude.{◌≡◌, ℕ, ◌+◌, Bool, true, false, if◌then◌else◌, List, ◌++◌, Some, None}
use Rattle.lvm_id.specs.LvmId.{id_of_words}
use Rattle.command_table.specs.declared.command.Command.{Command}
use Rattle.command_table.specs.declared.command.Command.TheVariants.{Vgcfgrestore}
use Rattle.command_table.specs.Commands.{draws}
use Rattle.lvm_script.specs.declared.line.Line.{Line}

-- the line with this number and command, whose id is that of the next four numbers of the source, where it draws one
abbrev pub line_of : ℕ → Command → (ℕ → List ℕ) → Line
line_of number command upcoming = record {
  number = number;
  id = if draws command then Some (id_of_words (upcoming 4)) else None;
  command = command;
}

-- a source of numbers before and after: it has moved on by exactly the four of an id where one was drawn, and else not at all
abbrev pub TakesId : Bool → (ℕ → List ℕ) → (ℕ → List ℕ) → Type 0
TakesId true before after = (n : ℕ) → before (4 + n) ≡ before 4 ++ after n
TakesId false before after = after ≡ before

-- the line with this text in place of its own, where it restores a group from a text
abbrev pub with_text : List ℕ → Line → Line
with_text text line = record line { command = put line.command }
  where
    put : Command → Command
    put (Vgcfgrestore vg own) = Vgcfgrestore vg text
    put command = command
