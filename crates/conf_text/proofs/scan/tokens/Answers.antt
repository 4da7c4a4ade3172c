use Rattle.conf_text.proofs.OneOutcome.{taken_tokens, taken_cause}
use Rattle.conf_text.proofs.scan.tokens.Goals as goal

pub returns-in-Ok : goal.returns-in-Ok
returns-in-Ok c = rw c.from_vec.ensures (taken_tokens c.args.text.now _ c.in-Ok.ensures)

pub returns-in-Err : goal.returns-in-Err
returns-in-Err c = taken_cause c.args.text.now _ c.in-Err.ensures
