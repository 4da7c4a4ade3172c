use Rattle.std.proofs.Common.{List, sym, subst, ◌∙◌}
use Rattle.std.specs.Prelude.{All}
use Rattle.std.specs.List.Sorted.{IsPermutation}
use Rattle.meta_model.specs.declared.extent_span.ExtentSpan.{ExtentSpan}
use Rattle.volume_rules.specs.Sorting.{CanBeSorted}
use Rattle.extent_map.specs.FreeRuns.{AreFreeRuns}
use Rattle.extent_map.proofs.FreeExtents.{sorted_are_free, sorted_stand}
use Rattle.extent_map.proofs.LegsOnVolume.{can_sort}
use Rattle.extent_map.proofs.free.free_beside.Goals as goal

pub sort_runs-requires : goal.sort_runs-requires
sort_runs-requires c =
    subst (All CanBeSorted) (sym c.requires.runs)
    (can_sort c.args.group.now c.args.pv (c.get.result.0.now, c.get.result.1.now) c.requires.accepted c.get.ensures)

pub gaps_between-requires : goal.gaps_between-requires
gaps_between-requires c =
    let moved = subst (λ (xs : List ExtentSpan). IsPermutation xs c.sort_runs.new.runs) c.requires.runs c.sort_runs.ensures.moved in
    sorted_stand c.args.group.now c.args.pv (c.get.result.0.now, c.get.result.1.now) c.sort_runs.new.runs c.requires.accepted c.get.ensures
    moved c.sort_runs.ensures.order

pub returns : goal.returns
returns c =
    let moved = subst (λ (xs : List ExtentSpan). IsPermutation xs c.sort_runs.new.runs) c.requires.runs c.sort_runs.ensures.moved in
    subst (AreFreeRuns c.args.group.now c.args.pv) (sym (c.from_vec.ensures ∙ c.in_ok-free.ensures))
    (sorted_are_free c.args.group.now c.args.pv (c.get.result.0.now, c.get.result.1.now) c.sort_runs.new.runs c.requires.accepted
    c.get.ensures moved c.sort_runs.ensures.order)
