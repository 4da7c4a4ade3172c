use Rattle.vg_repair.proofs.Nothing.{leaves_all as holds}
use Rattle.vg_repair.proofs.laws.leaves_all.Goals as goal

pub returns : goal.returns
returns c = λ found shape stale strays old. holds found shape stale strays old
