use Rattle.std.proofs.Common.{◌∙◌}
use Rattle.meta_model.proofs.StatusWords.{vg_words_set}
use Rattle.meta_read.proofs.group.status_of.Goals as goal

pub returns : goal.returns
returns c =
    c.of.ensures
    ∙ rw (
      c.set-3.ensures tt,
      c.set-2.ensures tt,
      c.set.ensures tt,
      c.empty-set.ensures tt,
      c.has_word.ensures,
      c.has_word-2.ensures,
      c.has_word-3.ensures,
    ) (vg_words_set _ _ _)
