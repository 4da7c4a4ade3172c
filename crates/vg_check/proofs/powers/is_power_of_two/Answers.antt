use Rattle.vg_check.proofs.OneBit.{decided}
use Rattle.vg_check.proofs.powers.is_power_of_two.Goals as goal

pub returns : goal.returns
returns c = decided c.args.n c.is_power_of_two.result c.is_power_of_two.ensures
