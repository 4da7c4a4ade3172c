-- The flush and its completion are the steps.
use Rattle.disk_model.proofs.KeptSectors.{keeps_told_flush}
use Rattle.disk_model.proofs.carry_out.flush.Goals as goal

pub returns-then-run_one-clause-keeps : goal.returns-then-run_one-clause-keeps
returns-then-run_one-clause-keeps g c = keeps_told_flush _ _ c.args.disk c.run_one.result _ c.run_one.ensures c.if-run_one.true

pub returns-else-run_one-clause-keeps : goal.returns-else-run_one-clause-keeps
returns-else-run_one-clause-keeps g c = keeps_told_flush _ _ c.args.disk c.run_one.result _ c.run_one.ensures c.if-run_one.false
