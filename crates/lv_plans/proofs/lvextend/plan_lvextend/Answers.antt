use Rattle.std.proofs.Common.{List, [], ◌∷◌, Option, Some, sym, subst}
use Rattle.std.specs.Option.{option_and_then, option_map_or}
use Rattle.line_answers.specs.declared.op_refusal.OpRefusal.TheVariants.{UnknownGroup}
use Rattle.meta_model.specs.declared.group.Group.{Group}
use Rattle.extent_alloc.specs.declared.part.Part.{Part}
use Rattle.group_edits.specs.LongerVolume.{longer_volume}
use Rattle.group_plan.specs.Committing.{no_change, version_change}
use Rattle.lv_plans.specs.Lvextend.{extend_asks, extend_in_rows}
use Rattle.lv_plans.specs.Allocating.{PlansWith}
use Rattle.lv_plans.proofs.lvextend.plan_lvextend.Goals as goal

pub returns-in-Some : goal.returns-in-Some
returns-in-Some c =
    subst
    (λ (o : Option Group).
    PlansWith (option_and_then (extend_asks c.args.state.now c.args.path.now c.args.growth c.args.pvs.now) o)
    (λ (given : List Part). option_map_or (λ (g : Group). extend_in_rows c.args.state.now c.args.path.now c.args.growth c.args.pvs.now
    c.args.now g given) o (Some (UnknownGroup c.args.path.now.vg) ∷ []))
    (λ (given : List Part). option_map_or (λ (g : Group). version_change c.args.state.now (longer_volume c.args.path.now.lv given g)) o
    (no_change c.args.state.now)) c.extend.result)
    (sym c.in-Some.is) c.extend.ensures
