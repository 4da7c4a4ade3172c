-- A volume more has a segment, and no more than are left.
use Rattle.std.proofs.Common.{◌≤◌, List, ℕ, length, refl, arith}
use Rattle.std.proofs.lemmas.Bool.{false≢true}
use Rattle.meta_model.specs.declared.lv.Lv.{Lv}
use Rattle.list_laws.proofs.ItemWalks.{all_more, row_of_all, sum_more, sum_so_far}
use Rattle.vg_check.proofs.counts.lvs_have_few_segments.Goals as goal

abbrev segments_in : List ℕ × Lv → ℕ
segments_in row = length row.1.segments

abbrev HasSegment : List ℕ × Lv → Type 0
HasSegment row = 1 ≤ length row.1.segments

pub returns-then-not-more_are_allowed : goal.returns-then-not-more_are_allowed
returns-then-not-more_are_allowed c = (
  λ no. absurd (false≢true no),
  λ few.
      let some = row_of_all HasSegment c.args.lvs.now c.loop-number.number _ c.get.ensures few.1 in
      let within = sum_so_far segments_in c.args.lvs.now c.loop-number.number _ c.get.ensures in
      c.if-not-more_are_allowed.ensures.1 (omega arith, omega (arith, few.0)),
)

pub loop-number-preserved : goal.loop-number-preserved
loop-number-preserved c =
    let more = c.if-not-more_are_allowed.ensures.0 refl in
    let next = sum_more segments_in c.args.lvs.now c.loop-number.number _ c.get.ensures in
    record {
      counted = omega arith;
      few = more.1;
      some = all_more HasSegment c.args.lvs.now c.loop-number.number _ c.loop-number.invariant.some c.get.ensures (omega arith);
    }
