use Rattle.std.proofs.Common.{◌≡◌, ◌++◌, [], ◌∷◌, All, List, get_or, refl, sym, ap₂, subst, take, take_all, ◌∙◌}
use Rattle.std.proofs.lemmas.List.Sorted.{All-permutation}
use Rattle.extent_alloc.specs.AllRuns.{AreTakenAt, runs_at}
use Rattle.extent_alloc.specs.Laying.{PartEnds, RunEnds, laid_on, whole_part}
use Rattle.extent_alloc.specs.Taking.{IsLongestFirst}
use Rattle.extent_alloc.specs.declared.part.Part.{Part}
use Rattle.extent_alloc.specs.declared.part.PvRun.{PvRun}
use Rattle.extent_alloc.proofs.AllRuns.{taken_one_more}
use Rattle.extent_alloc.proofs.MoreLegsGiven.{laid_more}
use Rattle.extent_alloc.proofs.PartEnds.{laid_end_small, whole_ends}
use Rattle.extent_alloc.proofs.Walks.{take_more}
use Rattle.extent_alloc.proofs.more_legs.on_each.Goals as goal

pub loop-pv-init : goal.loop-pv-init
loop-pv-init c = (subst (All PartEnds) (sym c.in_ok-parts.ensures) (whole_ends c.args.extents), ([], tt, c.in_ok-parts.ensures))

pub lay-requires-clause-parts : goal.lay-requires-clause-parts
lay-requires-clause-parts c = subst (All PartEnds) (sym c.deref.ensures.value) c.loop-pv.invariant.0

pub lay-requires-clause-runs : goal.lay-requires-clause-runs
lay-requires-clause-runs c =
    let pv = get_or c.args.pvs.now c.loop-pv.pv-index 0 in
    let leg : List PvRun = c.sort_longest_first.new.runs.items in
    let sorted : IsLongestFirst (runs_at c.args.all.now pv) leg =
    subst (λ some. IsLongestFirst some leg) c.in_ok-runs.ensures c.in_ok-sort_longest_first.ensures in
    subst (All RunEnds) (sym c.deref_mut.ensures.value)
    (All-permutation RunEnds (runs_at c.args.all.now pv) leg sorted.0 (c.requires.ends c.loop-pv.pv-index 0 c.loop-pv-test.true))

pub loop-pv-preserved : goal.loop-pv-preserved
loop-pv-preserved c =
    let kept = c.loop-pv.invariant.1 in
    let all = c.args.all.now in
    let pvs = c.args.pvs.now in
    let pv = get_or pvs c.loop-pv.pv-index 0 in
    let leg : List PvRun = c.sort_longest_first.new.runs.items in
    let sorted : IsLongestFirst (runs_at all pv) leg =
    subst (λ some. IsLongestFirst some leg) c.in_ok-runs.ensures c.in_ok-sort_longest_first.ensures in
    let laid : c.in_ok-parts-2.parts.items ≡ laid_on c.loop-pv.parts.items leg =
    c.in_ok-parts-2.ensures ∙ ap₂ (λ (parts : List Part) (runs : List PvRun). laid_on parts runs) c.deref.ensures.value
    c.deref_mut.ensures.value in (
      subst (All PartEnds) (sym laid) (laid_end_small c.loop-pv.parts.items leg c.loop-pv.invariant.0
          (All-permutation RunEnds (runs_at all pv) leg sorted.0 (c.requires.ends c.loop-pv.pv-index 0 c.loop-pv-test.true))),
      (
        kept.0 ++ leg ∷ [],
        subst (λ some. AreTakenAt all some (kept.0 ++ leg ∷ [])) (sym (take_more pvs c.loop-pv.pv-index 0 c.loop-pv-test.true))
            (taken_one_more all (take c.loop-pv.pv-index pvs) kept.0 pv leg kept.1 sorted),
        laid ∙ ap₂ (λ (parts : List Part) (runs : List PvRun). laid_on parts runs) kept.2 refl
            ∙ sym (laid_more (whole_part c.args.extents) kept.0 leg),
      ),
    )

pub returns : goal.returns
returns c =
    let kept = c.loop-pv.invariant.1 in (
      kept.0,
      subst (λ some. AreTakenAt c.args.all.now some kept.0) (take_all c.loop-pv.pv-index c.args.pvs.now c.loop-pv-test.false) kept.1,
      kept.2,
    )
