use Rattle.std.proofs.Common.{◌≡◌, ◌≤◌, length, take, map}
use Rattle.conf_text.specs.Entries.{Text}
use Rattle.conf_text.specs.Lists.{list_begun}
use Rattle.meta_print.specs.WordsSet.{words_set}
use Rattle.meta_print.proofs.words.write_words_set.Given as goal

abbrev pub invariant-loop-is_set : goal.invariant-loop-is_set
invariant-loop-is_set g l = record {
  text : g.S.TextSink.Adds l.fn.sink (list_begun l.key (map Text (words_set (take l.is_set-index l.words)))) l.sink;
  counts : l.count ≡ length (words_set (take l.is_set-index l.words));
  within : l.count ≤ l.is_set-index;
}
