use Rattle.std.proofs.Common.{◌≡◌, take}
use Rattle.clap.specs.Walk.{texts}
use Rattle.command_table.specs.Options.{words_in}
use Rattle.lvm_words.proofs.request.bytes_of.Given as goal

abbrev pub invariant-loop-word : goal.invariant-loop-word
invariant-loop-word l = words_in l.bytes.items ≡ texts (take l.word-index l.words)
