use Rattle.std.proofs.Common.{[], ◌∷◌, Some}
use Rattle.line_answers.specs.declared.op_refusal.OpRefusal.TheVariants.{BadRule}
use Rattle.volume_rules.specs.Rules.{number_of}
use Rattle.group_plan.proofs.Chained.{refused_front}
use Rattle.vg_plans.specs.Vgcfgrestore.{both_rows}
use Rattle.vg_plans.proofs.vgcfgrestore.refuse_broken.Goals as goal

pub returns-in-Err : goal.returns-in-Err
returns-in-Err c =
    refused_front (both_rows c.args.state.now c.args.found.now c.args.said.now) (Some (BadRule (number_of c.args.rule)) ∷ []) _
    c.in-Err.ensures
