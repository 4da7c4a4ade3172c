use Rattle.std.proofs.Common.{Some, None, refl}
use Rattle.command_table.proofs.GivenValues.{value_found}
use Rattle.command_table.proofs.given_options.GivenOptions.value.Goals as goal

pub returns-in-Some : goal.returns-in-Some
returns-in-Some c = value_found c.args.self.now.pairs.now c.args.self.now.pairs.now c.args.key (Some c.in-Some.pair) refl c.in-Some.ensures

pub returns-in-None : goal.returns-in-None
returns-in-None c = value_found c.args.self.now.pairs.now c.args.self.now.pairs.now c.args.key None refl c.in-None.ensures
