use Rattle.std.proofs.Common.{◌≡◌, ◌+◌, ◌-◌, refl, sym, arith}
use Rattle.claim_table.proofs.Halving.{halving_down, halving_found_bound, halving_over, halving_up}
use Rattle.claim_table.proofs.regions.has_region.Goals as goal

pub loop-low-preserved-in-Less : goal.loop-low-preserved-in-Less
loop-low-preserved-in-Less g c =
    let more : c.compare.new.steps - c.args.steps.now ≡ (c.loop-low.steps - c.args.steps.now) + 1 =
    omega (arith, c.compare.ensures.step, c.loop-low.invariant.1) in (
      halving_up c.args.regions.now c.args.region c.loop-low.low c.loop-low.high (c.loop-low.steps - c.args.steps.now)
          (c.compare.new.steps - c.args.steps.now) _ _ c.requires c.loop-low.invariant.0 c.loop-low-test.true refl more
          (sym c.in-Less.ensures.answer),
      omega (arith, c.compare.ensures.step, c.loop-low.invariant.1),
    )

pub returns-in-Equal-clause-bound : goal.returns-in-Equal-clause-bound
returns-in-Equal-clause-bound g c =
    let more : c.compare.new.steps - c.args.steps.now ≡ (c.loop-low.steps - c.args.steps.now) + 1 =
    omega (arith, c.compare.ensures.step, c.loop-low.invariant.1) in
    halving_found_bound c.args.regions.now c.args.region c.loop-low.low c.loop-low.high (c.loop-low.steps - c.args.steps.now)
    (c.compare.new.steps - c.args.steps.now) c.loop-low.invariant.0 c.loop-low-test.true more

pub loop-low-preserved : goal.loop-low-preserved
loop-low-preserved g c =
    let more : c.compare.new.steps - c.args.steps.now ≡ (c.loop-low.steps - c.args.steps.now) + 1 =
    omega (arith, c.compare.ensures.step, c.loop-low.invariant.1) in (
      halving_down c.args.regions.now c.args.region c.loop-low.low c.loop-low.high (c.loop-low.steps - c.args.steps.now)
          (c.compare.new.steps - c.args.steps.now) _ _ c.requires c.loop-low.invariant.0 c.loop-low-test.true refl more
          (sym c.in-Greater.ensures.answer),
      omega (arith, c.compare.ensures.step, c.loop-low.invariant.1),
    )

pub returns-clause-answer : goal.returns-clause-answer
returns-clause-answer g c =
    sym (halving_over c.args.regions.now c.args.region c.loop-low.low c.loop-low.high (c.loop-low.steps - c.args.steps.now)
    c.loop-low.invariant.0 c.loop-low-test.false)
