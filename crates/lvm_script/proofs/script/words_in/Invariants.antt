use Rattle.command_table.specs.Words.{placed}
use Rattle.lvm_script.proofs.LineWords.{Named}
use Rattle.lvm_script.proofs.script.words_in.Given as goal

abbrev pub invariant-loop-at : goal.invariant-loop-at
invariant-loop-at l = Named l.line l.from l.at (placed l.words.items)
