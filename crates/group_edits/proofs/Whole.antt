-- What each next version of a group is to be.
use Rattle.std.proofs.Common.{◌≢◌, ◌<◌, ◌≤◌, arith}
use Rattle.meta_model.specs.Standing.{HasTree}
use Rattle.meta_model.specs.declared.group.Group.{Group}
use Rattle.volume_rules.specs.Rules.{IsAccepted}
use Rattle.volume_rules.specs.declared.rule.Rule.TheVariants.{Numbers}

-- the group keeps all rules, and a tree stands for it
pub record IsWhole (group : Group) : Type 0 where
  pub accepted : IsAccepted group
  pub tree : HasTree group

-- a group whose number isn't the last has one for a further version
pub seqno_below : (group : Group) → IsAccepted group → group.seqno ≢ 4294967295 → group.seqno < 4294967295
seqno_below group accepted other = let most : group.seqno ≤ 4294967295 = (accepted Numbers).seqno.1 in omega (arith, most, other)
