use Rattle.std.proofs.lemmas.List.Sorted.{All-permutation}
use Rattle.volume_rules.specs.Sorting.{CanBeSorted}
use Rattle.volume_rules.proofs.Permuted.{sorted_tells}
use Rattle.volume_rules.proofs.runs.lie_apart.Goals as goal

pub neighbours_lie_apart-requires : goal.neighbours_lie_apart-requires
neighbours_lie_apart-requires c = All-permutation CanBeSorted _ _ c.sort_runs.ensures.moved c.requires

pub returns-clause-apart : goal.returns-clause-apart
returns-clause-apart c =
    let both = sorted_tells _ _ c.requires c.sort_runs.ensures.moved c.sort_runs.ensures.order in
    (λ is. both.0 (c.neighbours_lie_apart.ensures.0 is), λ apart. c.neighbours_lie_apart.ensures.1 (both.1 apart))
