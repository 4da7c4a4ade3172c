use Rattle.std.proofs.Common.{◌+◌, ◌∙◌, ap, ap₂, take, arith}
use Rattle.command_table.specs.Options.{words_of}
use Rattle.command_table.specs.Words.{after_word, numbered_from, read}
use Rattle.command_table.proofs.Numbered.{read_more}
use Rattle.lvm_script.proofs.words.read_words.Goals as goal

pub loop-word-preserved : goal.loop-word-preserved
loop-word-preserved c = (
  c.in_ok-take.ensures
      ∙ ap (λ r. after_word c.args.name r (c.as_bytes.result.now, c.loop-word.number)) c.loop-word.invariant.0
      ∙ ap₂ (λ w n. after_word c.args.name (read c.args.name (numbered_from 1 (words_of (take c.loop-word.word-index c.args.words.now))))
      (w, n))
      c.as_bytes.ensures.value c.loop-word.invariant.1
      ∙ read_more c.args.name c.args.words.now c.loop-word.word-index c.word-item.result c.loop-word-test.true c.word-item.is,
  ap (λ n. n + 1) c.loop-word.invariant.1 ∙ omega arith,
)
