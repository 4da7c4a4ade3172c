use Rattle.scan_rules.proofs.SameShape.{same_shape}
use Rattle.scan_rules.proofs.laws.shape_is_of_headers.Goals as goal

pub returns : goal.returns
returns c = λ group disks others same shape. same_shape group disks others same shape
