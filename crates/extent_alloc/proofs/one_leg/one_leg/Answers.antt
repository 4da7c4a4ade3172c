use Rattle.std.proofs.Common.{◌≡◌, ◌≤◌, ◌&&◌, All, List, false, nat_lt, sym, ap, ap₂, subst, ◌∙◌, arith}
use Rattle.std.proofs.lemmas.Bool.{and_left, and_right, le-ltb}
use Rattle.extent_alloc.specs.Few.{AreFew}
use Rattle.extent_alloc.specs.Free.{free_on, longest, total}
use Rattle.extent_alloc.specs.Giving.{IsGiven}
use Rattle.extent_alloc.specs.Laying.{RunEnds, laid_on, whole_part}
use Rattle.extent_alloc.specs.Refusals.{one_leg_refusal}
use Rattle.extent_alloc.specs.Taking.{IsTaken}
use Rattle.extent_alloc.specs.Usable.{usable_pvs}
use Rattle.extent_alloc.specs.declared.part.Part.{Part}
use Rattle.extent_alloc.specs.declared.part.PvRun.{PvRun}
use Rattle.extent_alloc.proofs.AllRuns.{all_there, found_free}
use Rattle.extent_alloc.proofs.FreeOn.{usable_total}
use Rattle.extent_alloc.proofs.OneLegGiven.{long_where, not_refused, one_leg_given}
use Rattle.extent_alloc.proofs.Taken.{fine_end, taken_fine, usable_fine}
use Rattle.extent_alloc.proofs.WhyRefused.{no_run, no_space}
use Rattle.extent_alloc.proofs.one_leg.one_leg.Goals as goal
use Rattle.extent_alloc.proofs.one_leg.one_leg.Goals.{else-want-via-then-want+else-longest-need, else-want-via-else-want}

pub free_on-requires : goal.free_on-requires
free_on-requires c = all_there c.args.group.now c.args.want.now c.in_ok-all.all c.args.pvs.now c.in_ok-all.ensures c.requires.pvs

pub total-free-requires : goal.total-free-requires
total-free-requires c =
    let runs : c.deref.result.now ≡ free_on c.args.group.now (usable_pvs c.args.group.now c.args.want.now) =
    c.deref.ensures.value ∙ found_free c.args.group.now c.args.want.now c.in_ok-all.all c.args.pvs.now _ c.in_ok-all.ensures
    c.requires.pvs c.in_ok-runs.ensures in
    omega (arith, ap total runs, usable_total c.args.group.now c.args.want.now c.requires.accepted)

pub returns-then-free-need : goal.returns-then-free-need
returns-then-free-need c =
    let group = c.args.group.now in
    let want = c.args.want.now in
    let found : c.in_ok-runs.runs.items ≡ free_on group (usable_pvs group want) =
    found_free group want c.in_ok-all.all c.args.pvs.now _ c.in_ok-all.ensures c.requires.pvs c.in_ok-runs.ensures in
    ap (one_leg_refusal want) (ap (free_on group) c.requires.pvs ∙ sym found)
    ∙ no_space want c.in_ok-runs.runs.items c.total-free.result (c.total-free.ensures ∙ ap total c.deref.ensures.value)
    c.if-free-need.true

pub returns-then-longest-need : goal.returns-then-longest-need
returns-then-longest-need c =
    let group = c.args.group.now in
    let want = c.args.want.now in
    let found : c.in_ok-runs.runs.items ≡ free_on group (usable_pvs group want) =
    found_free group want c.in_ok-all.all c.args.pvs.now _ c.in_ok-all.ensures c.requires.pvs c.in_ok-runs.ensures in
    let enough : want.extents ≤ total c.in_ok-runs.runs.items =
    omega (arith, c.if-free-need.false, c.total-free.ensures, ap total c.deref.ensures.value) in
    ap (one_leg_refusal want) (ap (free_on group) c.requires.pvs ∙ sym found)
    ∙ no_run want c.in_ok-runs.runs.items c.longest-longest.result enough c.if-want.true
    (c.longest-longest.ensures ∙ ap longest c.deref-2.ensures.value) c.if-longest-need.true

pub lay-requires-clause-runs : goal.lay-requires-clause-runs
lay-requires-clause-runs c =
    let taken =
    subst (λ runs. IsTaken c.args.want.now.extents runs c.in_ok-taken.taken.items)
    (found_free c.args.group.now c.args.want.now c.in_ok-all.all c.args.pvs.now _ c.in_ok-all.ensures c.requires.pvs
    c.in_ok-runs.ensures) c.in_ok-taken.ensures in
    subst (All RunEnds) (sym c.deref_mut.ensures.value)
    (fine_end c.args.group.now c.args.want.now c.in_ok-taken.taken.items
    (taken_fine c.args.group.now c.args.want.now c.args.want.now.extents
    (free_on c.args.group.now (usable_pvs c.args.group.now c.args.want.now)) c.in_ok-taken.taken.items taken
    (usable_fine c.args.group.now c.args.want.now c.requires.accepted)))

pub returns : goal.returns
returns c =
    let group = c.args.group.now in
    let want = c.args.want.now in
    let runs : List PvRun = free_on group (usable_pvs group want) in
    let found : c.in_ok-runs.runs.items ≡ runs =
    found_free group want c.in_ok-all.all c.args.pvs.now _ c.in_ok-all.ensures c.requires.pvs c.in_ok-runs.ensures in
    let taken = subst (λ some. IsTaken want.extents some c.in_ok-taken.taken.items) found c.in_ok-taken.ensures in
    let enough : want.extents ≤ total runs =
    omega (arith, c.if-free-need.false, c.total-free.ensures, ap total (c.deref.ensures.value ∙ found)) in
    let tested : c.longest-longest.result ≡ longest runs = c.longest-longest.ensures ∙ ap longest (c.deref-2.ensures.value ∙ found) in
    let long : (want.contiguous && nat_lt (longest runs) want.extents) ≡ false =
    elim c.else-want.branch [
      | else-want-via-then-want+else-longest-need w ↦ and_right _ _
          (le-ltb (longest runs) want.extents (omega (arith, tested, w.if-longest-need.false)))
      | else-want-via-else-want w ↦ and_left _ _ w.if-want.false
    ] in
    let given =
    one_leg_given group want c.in_ok-taken.taken.items c.requires.accepted c.requires.request c.requires.legs enough
    (λ contiguous. long_where want.contiguous (longest runs) want.extents contiguous long) taken in
    let laid : c.in_ok-lay.field-0.items ≡ laid_on (whole_part want.extents) c.in_ok-taken.taken.items =
    c.in_ok-lay.ensures ∙ ap₂ (λ (parts : List Part) (some : List PvRun). laid_on parts some)
    (c.deref-3.ensures.value ∙ c.in_ok-parts.ensures) c.deref_mut.ensures.value in (
      subst (IsGiven group want) (sym laid) given.0,
      subst (AreFew group want) (sym laid) given.1,
      ap (one_leg_refusal want) (ap (free_on group) c.requires.pvs) ∙ not_refused want runs enough long,
    )
