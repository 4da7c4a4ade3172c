use Rattle.std.proofs.Common.{◌≡◌, take}
use Rattle.command_table.specs.Options.{words_in}
use Rattle.command_table.proofs.commands.names_of.Given as goal

abbrev pub invariant-loop-word : goal.invariant-loop-word
invariant-loop-word l = l.names.items ≡ words_in (take l.word-index l.words)
