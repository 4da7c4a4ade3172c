use Rattle.std.proofs.Common.{◌↔◌, Bool, IsTrue, All, List, ℕ, refl, subst}
use Rattle.meta_model.specs.declared.group.Group.{Group}
use Rattle.meta_model.specs.declared.pv.Pv.{Pv}
use Rattle.meta_model.specs.declared.lv.Lv.{Lv}
use Rattle.volume_rules.specs.Rules.{LvIsSmall, NumbersAreAllowed, PvIsSmall}
use Rattle.vg_check.specs.OwnNumbers.{OwnNumbersAreAllowed}
use Rattle.vg_check.proofs.numbers.numbers_are_allowed.Goals as goal

abbrev VolumesAreSmall : Group → Type 0
VolumesAreSmall group = All (λ (pv : List ℕ × Pv). PvIsSmall pv.1) group.pvs × All (λ (lv : List ℕ × Lv). LvIsSmall lv.1) group.lvs

decided : (group : Group) (result : Bool) → OwnNumbersAreAllowed group → IsTrue result ↔ VolumesAreSmall group
    → IsTrue result ↔ NumbersAreAllowed group
decided group result own volumes = (
  λ yes. record { seqno = own.0; extent_size = own.1; limits = own.2; pvs = (volumes.0 yes).0; lvs = (volumes.0 yes).1 },
  λ allowed. volumes.1 (allowed.pvs, allowed.lvs),
)

pub returns-then-own_numbers_are_allowed : goal.returns-then-own_numbers_are_allowed
returns-then-own_numbers_are_allowed c =
    decided c.args.group.now c.volumes_are_small.result (c.if-own_numbers_are_allowed.ensures.0 refl)
    (subst (λ (group : Group). IsTrue c.volumes_are_small.result ↔ VolumesAreSmall group) c.group.view_is c.volumes_are_small.ensures)
