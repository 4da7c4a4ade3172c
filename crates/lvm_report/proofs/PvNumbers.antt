-- The number at an id is that of the first physical volume with it.
use Rattle.std.proofs.Common.{◌≡◌, ℕ, ◌<◌, List, length, Option, None, Some, sym, ◌∙◌}
use Rattle.std.specs.Prelude.{IfSome}
use Rattle.std.specs.FinMap as map
use Rattle.std.proofs.lemmas.Iterator.Adapters.{position_from-zero}
use Rattle.meta_model.specs.declared.group.Group.{Group}
use Rattle.id_index.specs.Ids.{has_id, pvs_by_id}
use Rattle.id_index.proofs.Found.{found_at, pv_number}
use Rattle.lvm_report.specs.Volumes.{number_with}

pub number_is : (group : Group) (id : List ℕ) → map.get (pvs_by_id 0 group.pvs) id ≡ number_with group id
number_is group id =
    pv_number id 0 group.pvs
    ∙ sym (position_from-zero (has_id id) group.pvs)

pub number_within : (group : Group) (id : List ℕ) (got : Option ℕ) → got ≡ map.get (pvs_by_id 0 group.pvs) id
    → IfSome got (λ number. number < length group.pvs)
number_within group id None is = tt
number_within group id (Some number) is = (found_at (has_id id) group.pvs number (sym (pv_number id 0 group.pvs) ∙ sym is)).0
