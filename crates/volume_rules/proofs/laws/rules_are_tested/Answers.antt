use Rattle.volume_rules.proofs.ApartInOrder.{apart_in_order}
use Rattle.volume_rules.proofs.NamedVolumes.{depth_by_rounds}
use Rattle.volume_rules.proofs.MovingVolumes.{moving_is}
use Rattle.volume_rules.proofs.laws.rules_are_tested.Goals as goal

pub returns-clause-legs : goal.returns-clause-legs
returns-clause-legs c = λ group. apart_in_order group

pub returns-clause-depth : goal.returns-clause-depth
returns-clause-depth c = λ group. depth_by_rounds group

pub returns-clause-moving : goal.returns-clause-moving
returns-clause-moving c = λ group lv depth. moving_is group lv depth
