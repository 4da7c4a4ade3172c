use Rattle.std.proofs.Common.{rules, ◌+◌, ◌*◌, ◌^◌}
use Rattle.std.specs.List.Sorted.{IsNonDecreasingBy}
use Rattle.std.proofs.lemmas.List.Sorted.{IsNonDecreasingBy-from_sort_by_key, All-permutation}
use Rattle.volume_rules.specs.Sorting.{CanBeSorted}
use Rattle.volume_rules.proofs.Permuted.{in_order}
use Rattle.volume_rules.proofs.runs.sort_runs.Goals as goal

pub returns-clause-order : goal.returns-clause-order
returns-clause-order c =
    let sorted : IsNonDecreasingBy (λ run. run.on * 2 ^ 64 + run.first) c.sort_unstable_by_key.new.self =
    IsNonDecreasingBy-from_sort_by_key (λ run. run.on * 2 ^ 64 + run.first) _ c.sort_unstable_by_key.ensures.sorted
    (λ a r q k. search rules) in
    in_order _ (All-permutation CanBeSorted _ _ c.sort_unstable_by_key.ensures.permutation c.requires) sorted
