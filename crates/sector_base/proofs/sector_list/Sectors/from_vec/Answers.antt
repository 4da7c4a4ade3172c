use Rattle.std.proofs.Common.{List, ℕ, subst}
use Rattle.std.specs.List.{All}
use Rattle.sector_base.specs.Sectors.{IsSector}
use Rattle.sector_base.proofs.sector_list.Sectors.from_vec.Goals as goal

pub invariant_of-result : goal.invariant_of-result
invariant_of-result c = subst (λ (l : List (List ℕ)). All IsSector l) c.deref.ensures.value c.see_each.ensures
