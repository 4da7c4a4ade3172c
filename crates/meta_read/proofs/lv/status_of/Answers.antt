use Rattle.std.proofs.Common.{◌∙◌}
use Rattle.meta_model.proofs.StatusWords.{lv_words_set}
use Rattle.meta_read.proofs.lv.status_of.Goals as goal

pub returns : goal.returns
returns c =
    c.of.ensures
    ∙ rw (
      c.set-7.ensures tt,
      c.set-6.ensures tt,
      c.set-5.ensures tt,
      c.set-4.ensures tt,
      c.set-3.ensures tt,
      c.set-2.ensures tt,
      c.set.ensures tt,
      c.empty-set.ensures tt,
      c.has_word.ensures,
      c.has_word-2.ensures,
      c.has_word-3.ensures,
      c.has_word-4.ensures,
      c.has_word-5.ensures,
      c.has_word-6.ensures,
      c.has_word-7.ensures,
    ) (lv_words_set _ _ _ _ _ _ _)
