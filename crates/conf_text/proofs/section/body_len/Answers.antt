use Rattle.std.proofs.Common.{map, arith}
use Rattle.conf_text.specs.Views.{entry_view}
use Rattle.conf_text.proofs.Bodies.{seen_at, body_ends, body_goes_on}
use Rattle.conf_text.proofs.section.body_len.Goals as goal

pub returns-in-None-clause-place : goal.returns-in-None-clause-place
returns-in-None-clause-place c =
    let xs = c.args.entries.now in
    let here = seen_at entry_view xs c.loop-at.at c.index-entries-at.result c.loop-at-test.true c.index-entries-at.is in
    body_ends c.loop-at.deep c.loop-at.at (map entry_view xs) here c.in-None.ensures.step.0 c.in-None.ensures.step.1 c.loop-at.invariant.1

pub loop-at-preserved : goal.loop-at-preserved
loop-at-preserved c =
    let xs = c.args.entries.now in
    let here = seen_at entry_view xs c.loop-at.at c.index-entries-at.result c.loop-at-test.true c.index-entries-at.is in (
      omega (arith, c.in-Some.ensures.bound),
      body_goes_on c.loop-at.deep c.in-Some.next c.loop-at.at (map entry_view xs) here (c.in-Some.ensures.step _) c.loop-at.invariant.1,
    )
