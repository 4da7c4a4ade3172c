use Rattle.std.proofs.Common.{refl}
use Rattle.command_table.specs.declared.command.Command.TheVariants as command
use Rattle.line_plans.proofs.Planned.{whole_planned}
use Rattle.line_plans.proofs.preparing.plan_of.Goals as goal

pub returns-in-Wait : goal.returns-in-Wait
returns-in-Wait c = whole_planned c.args.core.now c.args.line.now c.whole.result command.Wait c.in-Wait.is refl c.whole.ensures
