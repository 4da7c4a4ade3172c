use Rattle.std.proofs.Common.{◌≡◌, ◌++◌, ◌+◌, ◌-◌, append-nil, sym, ap, ◌∙◌, arith, length}
use Rattle.std.specs.List.{filter, range_with_len}
use Rattle.volume_rules.specs.declared.rule.Rule.TheVariants.{Volumes}
use Rattle.extent_alloc.specs.Usable.{is_usable}
use Rattle.extent_alloc.proofs.Walks.{kept, passed, range_next}
use Rattle.extent_alloc.proofs.usable.usable_pvs.Goals as goal
use Rattle.extent_alloc.proofs.usable.usable_pvs.Goals.{then-is_usable+in_ok-push, else-is_usable}

pub is_usable-requires-clause-sources : goal.is_usable-requires-clause-sources
is_usable-requires-clause-sources c =
    c.sources-sources.ensures c.loop-pv.pv (omega (arith, c.loop-pv-test.true, c.pv_count-pv-end.ensures, (c.requires Volumes).pvs.1))

pub loop-pv-preserved : goal.loop-pv-preserved
loop-pv-preserved c =
    let p = is_usable c.args.group.now c.args.want.now in
    let count = length c.args.group.now.pvs in
    let rest = range_with_len (c.loop-pv.pv + 1) (count - (c.loop-pv.pv + 1)) in
    let next =
    ap (λ some. c.loop-pv.pvs.items ++ filter p some)
    (sym (range_next c.loop-pv.pv count (omega (arith, c.loop-pv-test.true, c.pv_count-pv-end.ensures)))) in
    elim c.if-is_usable.branch [
      | then-is_usable+in_ok-push w ↦
          ap (λ some. some ++ filter p rest) (ap (λ v. v.items) w.pvs-is ∙ w.in_ok-push.ensures.items)
          ∙ kept p c.loop-pv.pvs.items rest c.loop-pv.pv (sym c.is_usable.ensures ∙ w.if-is_usable.true) ∙ next ∙ c.loop-pv.invariant
      | else-is_usable w ↦
          ap (λ v. v.items ++ filter p rest) w.pvs-is
          ∙ passed p c.loop-pv.pvs.items rest c.loop-pv.pv (sym c.is_usable.ensures ∙ w.if-is_usable.false) ∙ next ∙ c.loop-pv.invariant
    ]

pub returns : goal.returns
returns c =
    let p = is_usable c.args.group.now c.args.want.now in
    let over : length c.args.group.now.pvs - c.loop-pv.pv ≡ 0 = omega (arith, c.loop-pv-test.false, c.pv_count-pv-end.ensures) in
    sym (ap (λ n. c.loop-pv.pvs.items ++ filter p (range_with_len c.loop-pv.pv n)) over ∙ append-nil c.loop-pv.pvs.items)
    ∙ c.loop-pv.invariant
