use Rattle.conf_text.proofs.OneOutcome.{same_tokens, not_both, same_cause}
use Rattle.conf_text.proofs.laws.one_token_outcome.Goals as goal

pub returns : goal.returns
returns c = record { tokens = same_tokens; refused = not_both; causes = same_cause }
