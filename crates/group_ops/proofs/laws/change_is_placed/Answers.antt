use Rattle.group_ops.proofs.PlacedChanges as lemma
use Rattle.group_ops.proofs.laws.change_is_placed.Goals as goal

pub returns : goal.returns
returns c = lemma.change_is_placed
