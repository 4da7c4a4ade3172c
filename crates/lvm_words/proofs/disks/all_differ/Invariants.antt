-- None of the names that are behind stands twice, and the set has just these.
use Rattle.std.proofs.Common.{drop}
use Rattle.command_table.specs.Options.{words_of}
use Rattle.lvm_words.proofs.Differing.{DifferIn}
use Rattle.lvm_words.proofs.disks.all_differ.Given as goal

abbrev pub invariant-loop-at : goal.invariant-loop-at
invariant-loop-at l = DifferIn l.behind (words_of (drop l.at l.names))
