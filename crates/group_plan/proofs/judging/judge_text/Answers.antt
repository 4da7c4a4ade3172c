use Rattle.std.proofs.Common.{◌<◌, ℕ, length, Option, Some, None, arith}
use Rattle.std.specs.Prelude.{IfSome}
use Rattle.mda_header.specs.declared.header.Locn.{Locn}
use Rattle.mda_header.specs.Header.{IsInside}
use Rattle.mda_header.specs.HeaderBytes.{IsNoneOrInside}
use Rattle.group_plan.proofs.judging.judge_text.Goals as goal

inside : (size : ℕ) (committed : Option Locn) → IfSome committed (IsInside size) → IsNoneOrInside size committed
inside size None is = tt
inside size (Some locn) is = is

pub plan_next-requires-clause-area : goal.plan_next-requires-clause-area
plan_next-requires-clause-area c =
    let within : c.loop-area.area-index < length c.args.areas.now = omega arith in (c.requires.areas c.loop-area.area-index _ within).0

pub plan_next-requires-clause-committed : goal.plan_next-requires-clause-committed
plan_next-requires-clause-committed c =
    let within : c.loop-area.area-index < length c.args.areas.now = omega arith in
    inside _ _ (c.requires.areas c.loop-area.area-index _ within).1
