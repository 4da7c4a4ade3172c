use Rattle.std.proofs.Common.{ℕ, Bool, List, Option, cond, sym, ap, ◌∙◌}
use Rattle.vg_plans.specs.Vgcfgrestore.{lesser}
use Rattle.vg_plans.proofs.same_group.lesser.Goals as goal

pub returns-then-is_at_most : goal.returns-then-is_at_most
returns-then-is_at_most c =
    sym (ap (λ (least : Option (List ℕ)). lesser least c.args.id.now) c.in-Some.is
    ∙ ap (λ (b : Bool). cond b c.in-Some.other c.args.id.now) (sym c.is_at_most.ensures ∙ c.if-is_at_most.true))

pub returns-else-is_at_most : goal.returns-else-is_at_most
returns-else-is_at_most c =
    sym (ap (λ (least : Option (List ℕ)). lesser least c.args.id.now) c.in-Some.is
    ∙ ap (λ (b : Bool). cond b c.in-Some.other c.args.id.now) (sym c.is_at_most.ensures ∙ c.if-is_at_most.false))
