use Rattle.std.proofs.Common.{◌≡◌, take}
use Rattle.command_table.specs.Words.{placed, read, read_by}
use Rattle.command_table.proofs.meaning.read_placed.Given as goal

abbrev pub invariant-loop-word : goal.invariant-loop-word
invariant-loop-word l = read_by l.reading ≡ read l.name (placed (take l.word-index l.words))
