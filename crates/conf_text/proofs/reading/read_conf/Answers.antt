use Rattle.std.proofs.Common.{sym, subst}
use Rattle.conf_text.specs.Grammar.{IsTextOf}
use Rattle.conf_text.proofs.Causes.{read_text, fails_cause}
use Rattle.conf_text.proofs.reading.read_conf.Goals as goal

pub returns-in-Ok : goal.returns-in-Ok
returns-in-Ok c = subst (IsTextOf c.args.text.now) (sym c.from_vec.ensures) (read_text c.args.text.now _ c.in-Ok.ensures)

pub returns-in-Err : goal.returns-in-Err
returns-in-Err c = fails_cause c.args.text.now c.in-Err.refusal c.in-Err.ensures
