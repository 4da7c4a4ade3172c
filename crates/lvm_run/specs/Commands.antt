-- What is said of each command: a row for each of them, and a file for each that changes nothing.
pub mod Lvs
pub mod Pvck
pub mod Pvs
pub mod Vgcfgbackup
pub mod Vgck
pub mod Vgs
use Rattle.std.specs.Prelude.{◌≡◌, Bool, true, false, [], None}
use Rattle.command_table.specs.declared.command.Command.{Command}
use Rattle.command_table.specs.declared.command.Command.TheVariants as command
use Rattle.lvm_run.specs.Changing.{changing}
use Rattle.lvm_run.specs.CommandSpec.{CommandSpec, AtNothing, no_inputs}
use Rattle.lvm_run.specs.Commands.Lvs.{lvs}
use Rattle.lvm_run.specs.Commands.Pvck.{pvck}
use Rattle.lvm_run.specs.Commands.Pvs.{pvs}
use Rattle.lvm_run.specs.Commands.Vgcfgbackup.{vgcfgbackup}
use Rattle.lvm_run.specs.Commands.Vgck.{vgck}
use Rattle.lvm_run.specs.Commands.Vgs.{vgs}
use Rattle.command_table.specs.Commands.{CommandKind, Move, Scripted, changes, kind_of}

-- the kinds of commands that are built: moves and what stands in scripts alone aren't yet
abbrev kind_is_built : CommandKind → Bool
kind_is_built Move = false
kind_is_built Scripted = false
kind_is_built _ = true

-- the commands that are built; words that ask for another are refused until it is
abbrev pub is_built : Command → Bool
is_built command = kind_is_built (kind_of command)

-- of a command that isn't built nothing is said: words that ask for it are refused before
abbrev unbuilt : CommandSpec
unbuilt = record {
  flushes = false;
  looks = AtNothing;
  scan = λ context image unread scanned. ⊥;
  takes = λ context found given. given ≡ no_inputs;
  refusal = λ context found given. None;
  repairs = λ found. [];
  stuck = λ found. None;
  zeros = λ context found given. [];
  batches = λ context found given. [];
  clears = λ context found given. [];
  keeps = λ context found given base image. ⊥;
  reads = λ context image spans. ⊥;
  finds = λ context found given image. ⊥;
  clearing = λ context found given base image. ⊥;
  cleared = λ context found given image. ⊥;
  reports = λ context found image text. ⊥;
}

-- the rows of the reports
abbrev report_spec : Command → CommandSpec
report_spec (command.Pvck pv) = pvck pv
report_spec (command.Vgcfgbackup vg) = vgcfgbackup vg
report_spec command.Pvs = pvs
report_spec command.Vgs = vgs
report_spec command.Lvs = lvs
report_spec command.Vgck = vgck
report_spec _ = unbuilt

-- the row of a command, by whether it changes something
abbrev pub row_by : Bool → Command → CommandSpec
row_by true c = changing c
row_by false c = report_spec c

-- what is said of a command: its row, with its arguments, which is one for all commands that change something
abbrev pub spec_of : Command → CommandSpec
spec_of c = row_by (changes c) c
