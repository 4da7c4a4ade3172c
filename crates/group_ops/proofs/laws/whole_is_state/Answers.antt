use Rattle.group_ops.proofs.WholeState as lemma
use Rattle.group_ops.proofs.laws.whole_is_state.Goals as goal

pub returns : goal.returns
returns c = lemma.whole_is_state
