-- The sectors are judged by where they end.
use Rattle.std.proofs.Common.{ℕ, Some, sym, ap, ◌∙◌, arith}
use Rattle.std.specs.Option.{option_and_then}
use Rattle.line_answers.specs.declared.op_refusal.OpRefusal.TheVariants.{PastEnd}
use Rattle.line_plans.specs.Judging.{past_end}
use Rattle.line_plans.proofs.Judged.{ends_past, ends_within}
use Rattle.line_plans.proofs.judging.judge_end.Goals as goal

pub returns-then-end-length : goal.returns-then-end-length
returns-then-end-length c =
    λ volume. ap (option_and_then (λ (r : ℕ × ℕ). past_end c.args.group.now r (c.args.lv, volume))) c.in-Some.is
    ∙ ends_past c.args.group.now (c.in-Some.start, c.in-Some.count) (c.args.lv, volume) c.saturating_add-end.result c.requires
    c.saturating_add-end.ensures (omega (arith, c.sectors-length.ensures, c.if-end-length.true))
    ∙ ap (λ (n : ℕ). Some (PastEnd c.saturating_add-end.result n)) (sym c.sectors-length.ensures)

pub returns : goal.returns
returns c =
    λ volume. ap (option_and_then (λ (r : ℕ × ℕ). past_end c.args.group.now r (c.args.lv, volume))) c.in-Some.is
    ∙ ends_within c.args.group.now (c.in-Some.start, c.in-Some.count) (c.args.lv, volume) c.saturating_add-end.result c.requires
    c.saturating_add-end.ensures (omega (arith, c.sectors-length.ensures, c.if-end-length.false))
