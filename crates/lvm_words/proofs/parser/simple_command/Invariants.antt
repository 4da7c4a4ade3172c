use Rattle.std.proofs.Common.{◌≡◌, take}
use Rattle.clap.specs.Simple.{app_of}
use Rattle.lvm_words.specs.Parser.{app_with, option_rules}
use Rattle.lvm_words.proofs.parser.simple_command.Given as goal

abbrev pub invariant-loop-row : goal.invariant-loop-row
invariant-loop-row l = app_of l.command ≡ app_with (option_rules (take l.row-index l.rows))
