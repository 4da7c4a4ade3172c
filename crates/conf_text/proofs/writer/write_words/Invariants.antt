use Rattle.std.proofs.Common.{map, take}
use Rattle.conf_text.specs.Entries.{Text}
use Rattle.conf_text.specs.Lists.{list_begun}
use Rattle.conf_text.proofs.writer.write_words.Given as goal

abbrev pub invariant-loop-at : goal.invariant-loop-at
invariant-loop-at g l = g.S.TextSink.Adds l.fn.sink (list_begun l.key (map (λ word. Text word.now) (take l.at l.words))) l.sink
