use Rattle.std.proofs.Common.{◌≡◌, ◌<◌, ◌≤◌, ◌↔◌, ℕ, ◌+◌, ◌-◌, ◌/◌, Bool, false, IsTrue, length, ⊎_elim, sym, subst, ◌∙◌, arith}
use Rattle.std.proofs.lemmas.Bool.{cases_lt, true≢false}
use Rattle.seg_place.proofs.Halving.{HasHalved, IsBetween, all_between, halves_down, halves_more, halves_up, none_halved, one_left}
use Rattle.seg_place.proofs.segment_search.number_with.Goals as goal

pub loop-high-init : goal.loop-high-init
loop-high-init g c =
    let between = all_between c.args.segments.now c.args.extent c.requires.follow c.requires.within in
    record {
      between = subst (IsBetween c.args.segments.now c.args.extent 0) (sym c.len-high.ensures) between;
      halved =
          subst (λ (n : ℕ). HasHalved (length c.args.segments.now) 0 n c.args.steps.now c.args.steps.now) (sym c.len-high.ensures)
          (none_halved (length c.args.segments.now) c.args.steps.now (omega (arith, between.order)));
    }

pub loop-high-preserved-then-is_at_most : goal.loop-high-preserved-then-is_at_most
loop-high-preserved-then-is_at_most g c =
    let low = c.loop-high.low in
    let high = c.loop-high.high in
    let middle = c.loop-high.low + (c.loop-high.high - c.loop-high.low) / 2 in
    let old = c.loop-high.invariant in
    let answer = c.is_at_most.ensures.answer in
    let found = answer.0 in
    let begun : found.start ≤ c.args.extent = answer.2.0 c.if-is_at_most.true in
    record {
      between = halves_up c.args.segments.now c.args.extent low high middle found old.between (omega arith) answer.1 begun;
      halved =
          subst (HasHalved (length c.args.segments.now) middle high c.args.steps.now) (sym c.is_at_most.ensures.step)
          (halves_more (length c.args.segments.now) low high middle high c.args.steps.now c.loop-high.steps (omega arith) (omega arith)
          old.halved);
    }

past : (test : Bool) (start extent : ℕ) → IsTrue test ↔ (start ≤ extent) → test ≡ false → extent < start
past test start extent is fails = ⊎_elim (λ less. less) (λ within. absurd (true≢false (sym (is.1 within) ∙ fails))) (cases_lt extent start)

pub loop-high-preserved : goal.loop-high-preserved
loop-high-preserved g c =
    let low = c.loop-high.low in
    let high = c.loop-high.high in
    let middle = c.loop-high.low + (c.loop-high.high - c.loop-high.low) / 2 in
    let old = c.loop-high.invariant in
    let answer = c.is_at_most.ensures.answer in
    let found = answer.0 in
    let later : c.args.extent < found.start = past c.is_at_most.result found.start c.args.extent answer.2 c.if-is_at_most.false in
    record {
      between = halves_down c.args.segments.now c.args.extent low high middle found old.between (omega arith) answer.1 later;
      halved =
          subst (HasHalved (length c.args.segments.now) low middle c.args.steps.now) (sym c.is_at_most.ensures.step)
          (halves_more (length c.args.segments.now) low high low middle c.args.steps.now c.loop-high.steps (omega arith) (omega arith)
          old.halved);
    }

pub returns-clause-found : goal.returns-clause-found
returns-clause-found g c =
    one_left c.args.segments.now c.args.extent c.loop-high.low c.loop-high.high c.requires.follow c.requires.within
    c.loop-high.invariant.between (omega arith)
