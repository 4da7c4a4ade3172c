use Rattle.std.proofs.Common.{◌≡◌, ◌<◌, ◌≤◌, All, List, length, length-take-le, filter, take, refl, sym, ap, subst, ◌∙◌, arith, ℕ}
use Rattle.extent_alloc.specs.AllRuns.{AreTakenAt}
use Rattle.extent_alloc.specs.Few.{AreFew, first_fit, has_room}
use Rattle.extent_alloc.specs.Giving.{IsGiven}
use Rattle.extent_alloc.specs.Refusals.{more_legs_refusal}
use Rattle.extent_alloc.specs.Taking.{AreTaken}
use Rattle.extent_alloc.specs.Usable.{usable_pvs}
use Rattle.extent_alloc.proofs.AllRuns.{all_there, free_ends, free_few, found_roomy, taken_there}
use Rattle.extent_alloc.proofs.FirstFit.{fit_below, fit_differ, fit_long, fit_roomy, several_not_refused}
use Rattle.extent_alloc.proofs.MoreLegsGiven.{legs_given}
use Rattle.extent_alloc.proofs.WhyRefused.{too_few}
use Rattle.extent_alloc.proofs.more_legs.more_legs.Goals as goal

pub with_room-requires-clause-stand : goal.with_room-requires-clause-stand
with_room-requires-clause-stand c =
    all_there c.args.group.now c.args.want.now c.in_ok-all.all c.args.pvs.now c.in_ok-all.ensures c.requires.pvs

pub with_room-requires-clause-few : goal.with_room-requires-clause-few
with_room-requires-clause-few c k d lt =
    let there = with_room-requires-clause-stand c k d lt in
    free_few c.args.group.now c.in_ok-all.all _ c.requires.accepted c.in_ok-all.ensures (omega (arith, there, c.in_ok-all.ensures.count))

pub returns-then-len-want : goal.returns-then-len-want
returns-then-len-want c =
    let group = c.args.group.now in
    let want = c.args.want.now in
    let found : c.in_ok-pvs.pvs.items ≡ filter (has_room group want) (usable_pvs group want) =
    found_roomy group want c.in_ok-all.all c.args.pvs.now _ c.in_ok-all.ensures c.requires.pvs c.in_ok-pvs.ensures in
    let few : c.len-then-len-want.result < want.legs = omega (arith, c.if-len-want.true, c.len.ensures, c.len-then-len-want.ensures) in
    ap (λ pvs. more_legs_refusal want (filter (has_room group want) pvs)) c.requires.pvs ∙ ap (more_legs_refusal want) (sym found)
    ∙ too_few want c.in_ok-pvs.pvs.items c.len-then-len-want.result (omega (arith, c.len-then-len-want.ensures)) few

pub on_each-requires-clause-stand : goal.on_each-requires-clause-stand
on_each-requires-clause-stand c =
    let group = c.args.group.now in
    let want = c.args.want.now in
    let fit : c.deref.result.now ≡ filter (has_room group want) (usable_pvs group want) =
    c.deref.ensures.value ∙ found_roomy group want c.in_ok-all.all c.args.pvs.now _ c.in_ok-all.ensures c.requires.pvs
    c.in_ok-pvs.ensures in
    subst (λ n. All (λ pv. pv < n) (take want.legs c.deref.result.now)) (sym c.in_ok-all.ensures.count)
    (subst (λ some. All (λ pv. pv < length group.pvs) (take want.legs some)) (sym fit) (fit_below group want))

pub on_each-requires-clause-ends : goal.on_each-requires-clause-ends
on_each-requires-clause-ends c k d lt =
    let there = on_each-requires-clause-stand c k d lt in
    free_ends c.args.group.now c.in_ok-all.all _ c.requires.accepted c.in_ok-all.ensures (omega (arith, there, c.in_ok-all.ensures.count))

pub returns : goal.returns
returns c =
    let group = c.args.group.now in
    let want = c.args.want.now in
    let first : List ℕ = first_fit group want (usable_pvs group want) in
    let found : c.in_ok-pvs.pvs.items ≡ filter (has_room group want) (usable_pvs group want) =
    found_roomy group want c.in_ok-all.all c.args.pvs.now _ c.in_ok-all.ensures c.requires.pvs c.in_ok-pvs.ensures in
    let enough : want.legs ≤ length (filter (has_room group want) (usable_pvs group want)) =
    omega (arith, c.if-len-want.false, c.len.ensures, ap (λ (some : List ℕ). length some) found) in
    let laid = c.in_ok-on_each.ensures in
    let taken : AreTaken group first laid.0 =
    taken_there group c.in_ok-all.all first laid.0 c.in_ok-all.ensures (fit_below group want)
    (subst (λ some. AreTakenAt c.in_ok-all.all (take want.legs some) laid.0) (c.deref.ensures.value ∙ found) laid.1) in
    let given =
    legs_given group want first laid.0 c.requires.accepted c.requires.request c.requires.legs refl
    (length-take-le want.legs (filter (has_room group want) (usable_pvs group want)) enough) (fit_roomy group want)
    (fit_long group want) (fit_differ group want) taken in (
      subst (IsGiven group want) (sym laid.2) given.0,
      subst (AreFew group want) (sym laid.2) given.1,
      ap (λ some. more_legs_refusal want (filter (has_room group want) some)) c.requires.pvs
          ∙ several_not_refused want (filter (has_room group want) (usable_pvs group want)) enough,
    )
