use Rattle.conf_text.proofs.Reprinted as proved
use Rattle.conf_text.proofs.laws.printed_again.Goals as goal

pub returns : goal.returns
returns c = proved.printed_again
