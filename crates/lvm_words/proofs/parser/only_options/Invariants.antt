use Rattle.std.proofs.Common.{◌≡◌, [], drop}
use Rattle.command_table.specs.Options.{words_of}
use Rattle.lvm_words.proofs.Strays.{fine_from}
use Rattle.lvm_words.proofs.parser.only_options.Given as goal

abbrev pub invariant-loop-word : goal.invariant-loop-word
invariant-loop-word l = fine_from l.rows l.seen.items (words_of (drop l.word-index l.words)) ≡ fine_from l.rows [] (words_of l.words)
