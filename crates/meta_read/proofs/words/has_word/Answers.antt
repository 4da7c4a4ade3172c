use Rattle.std.proofs.Common.{◌∙◌}
use Rattle.meta_read.proofs.WordLists.{list_any-among}
use Rattle.meta_read.proofs.words.has_word.Goals as goal

pub returns : goal.returns
returns c = c.contains.ensures.value ∙ list_any-among c.args.words.now c.args.word.now
