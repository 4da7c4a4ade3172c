use Rattle.std.proofs.Common.{◌≡◌, drop}
use Rattle.command_table.specs.Options.{words_in}
use Rattle.lvm_words.specs.Parser.{arguments_pass}
use Rattle.lvm_words.proofs.request.arguments_pass.Given as goal

abbrev pub invariant-loop-number : goal.invariant-loop-number
invariant-loop-number l = arguments_pass l.name l.number (words_in (drop l.number l.words)) ≡ arguments_pass l.name 0 (words_in l.words)
