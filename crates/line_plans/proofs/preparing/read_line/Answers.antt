-- Its sectors can be counted, and what it is cut into is its plan.
use Rattle.std.proofs.Common.{false, Some, refl}
use Rattle.std.proofs.lemmas.Result.{IfOk-weaker}
use Rattle.command_table.specs.declared.command.Command.TheVariants as command
use Rattle.line_plans.specs.Plans.{IsPlanFor}
use Rattle.line_plans.proofs.Planned.{read_planned, refused_planned, sectors_fit}
use Rattle.line_plans.proofs.preparing.read_line.Goals as goal

pub read_plan-requires : goal.read_plan-requires
read_plan-requires c =
    sectors_fit c.args.core.now.volumes (command.Read c.args.path.now c.args.start c.args.count) c.args.path.now
    (Some (c.args.start, c.args.count)) false (record { volume = refl; sectors = refl; kind = refl }) c.in-Ok.row c.in-Ok.ensures.0
    c.in-Ok.ensures.1 c.args.start c.args.count refl c.requires.laid.0 c.requires.laid.1

pub returns-in-Ok : goal.returns-in-Ok
returns-in-Ok c =
    let laws = c.pieces_cover_requests.ensures in
    IfOk-weaker c.read_plan.result _ (IsPlanFor c.args.core.now c.args.line.now)
    (λ plan made. read_planned c.args.core.now c.args.line.now c.args.path.now c.in-Ok.row c.args.start c.args.count plan laws.cover
    laws.request laws.cut c.in-Ok.ensures.1 c.requires.reads c.in-Ok.ensures.0 made) c.read_plan.ensures

pub returns-in-Err : goal.returns-in-Err
returns-in-Err c =
    IfOk-weaker c.refused_plan.result _ (IsPlanFor c.args.core.now c.args.line.now)
    (λ plan made. refused_planned c.args.core.now.volumes (command.Read c.args.path.now c.args.start c.args.count) c.args.path.now
    (Some (c.args.start, c.args.count)) false (record { volume = refl; sectors = refl; kind = refl }) c.args.core.now c.args.line.now plan
    c.in-Err.why refl c.requires.reads c.in-Err.ensures made)
    c.refused_plan.ensures
