-- What is said of a command that changes something.
use Rattle.std.proofs.Common.{◌≡◌, Bool, true, ap}
use Rattle.command_table.specs.declared.command.Command.{Command}
use Rattle.command_table.specs.Commands.{changes}
use Rattle.lvm_run.specs.Changing.{changing}
use Rattle.lvm_run.specs.Commands.{row_by, spec_of}

pub spec_of_changing : (command : Command) → changes command ≡ true → spec_of command ≡ changing command
spec_of_changing command change = ap (λ (b : Bool). row_by b command) change
