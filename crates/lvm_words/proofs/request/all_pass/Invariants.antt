use Rattle.std.proofs.Common.{◌≡◌, drop}
use Rattle.std.specs.List.{list_all}
use Rattle.clap.specs.Walk.{texts}
use Rattle.lvm_words.specs.Parser.{value_passes}
use Rattle.lvm_words.proofs.request.all_pass.Given as goal

abbrev pub invariant-loop-word : goal.invariant-loop-word
invariant-loop-word l = list_all (value_passes l.kind) (texts (drop l.word-index l.words)) ≡ list_all (value_passes l.kind) (texts l.words)
