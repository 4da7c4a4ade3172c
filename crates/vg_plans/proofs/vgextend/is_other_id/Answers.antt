use Rattle.std.proofs.Common.{Bool, ◌||◌, sym, ap, ◌∙◌}
use Rattle.std.specs.FinMap as map
use Rattle.group_plan.proofs.FoundIds.{found_lv}
use Rattle.group_plan.specs.Ids.{has_lv_id}
use Rattle.vg_plans.proofs.vgextend.is_other_id.Goals as goal

pub returns-else-same_id : goal.returns-else-same_id
returns-else-same_id c =
    c.contains.ensures
    ∙ ap (λ ids. map.contains_key ids c.args.id.now) c.requires
    ∙ found_lv c.args.group.now c.args.id.now
    ∙ ap (λ (b : Bool). b || has_lv_id c.args.group.now c.args.id.now) (sym c.if-same_id.false ∙ c.same_id.ensures)
