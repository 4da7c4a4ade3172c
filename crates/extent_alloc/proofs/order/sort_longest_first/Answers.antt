use Rattle.std.proofs.Common.{rules}
use Rattle.std.proofs.lemmas.List.Sorted.{IsNonDecreasingBy-from_sort_by_key}
use Rattle.extent_alloc.specs.Taking.{shortness}
use Rattle.extent_alloc.proofs.order.sort_longest_first.Goals as goal

pub returns : goal.returns
returns c = (
  c.sort_by_key.ensures.permutation,
  IsNonDecreasingBy-from_sort_by_key shortness _ c.in_ok-sort_by_key.ensures.sorted
      (λ a r q k. search rules),
)
