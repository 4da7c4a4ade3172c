use Rattle.conf_text.proofs.Causes.{one_tree, tree_or_cause, one_cause}
use Rattle.conf_text.proofs.reading.one_outcome.Goals as goal

pub returns : goal.returns
returns c = record { trees = one_tree; refused = tree_or_cause; causes = one_cause }
