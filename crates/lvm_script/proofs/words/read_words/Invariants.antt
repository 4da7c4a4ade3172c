use Rattle.std.proofs.Common.{◌≡◌, ◌+◌, take}
use Rattle.command_table.specs.Options.{words_of}
use Rattle.command_table.specs.Words.{numbered_from, read, read_by}
use Rattle.lvm_script.proofs.words.read_words.Given as goal

abbrev pub invariant-loop-word : goal.invariant-loop-word
invariant-loop-word l =
    (read_by l.reading ≡ read l.name (numbered_from 1 (words_of (take l.word-index l.words)))) × (l.number ≡ 1 + l.word-index)
