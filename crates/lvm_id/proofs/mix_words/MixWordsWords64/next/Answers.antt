use Rattle.lvm_id.proofs.MixedWords.{splitmix_words-more}
use Rattle.lvm_id.proofs.mix_words.MixWordsWords64.next.Goals as goal

pub returns : goal.returns
returns c n = rw c.mix.ensures (splitmix_words-more c.args.self.now.state n)
