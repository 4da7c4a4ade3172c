use Rattle.vg_found.proofs.ShapedAreas.{areas_shaped}
use Rattle.vg_found.proofs.laws.areas_are_shaped.Goals as goal

pub returns : goal.returns
returns c = λ disks each. areas_shaped disks each
