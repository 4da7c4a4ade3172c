use Rattle.std.proofs.Common.{refl}
use Rattle.lvm_id.specs.Words.{splitmix_output}
use Rattle.lvm_id.proofs.mix_words.mix.Goals as goal

pub returns : goal.returns
unfolding splitmix_output
returns c = refl
