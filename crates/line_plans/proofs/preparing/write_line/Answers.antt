-- Its sectors can be counted, and what it is cut into is its plan.
use Rattle.std.proofs.Common.{true, Some, refl}
use Rattle.std.proofs.lemmas.Result.{IfOk-weaker}
use Rattle.line_plans.specs.Plans.{IsPlanFor}
use Rattle.line_plans.proofs.Planned.{refused_planned, sectors_fit, write_planned}
use Rattle.line_plans.proofs.preparing.write_line.Goals as goal

pub write_plan-requires-clause-fits : goal.write_plan-requires-clause-fits
write_plan-requires-clause-fits c =
    sectors_fit c.args.core.now.volumes c.args.line.now.command c.args.path.now (Some (c.args.start, c.args.count)) true
    (record { volume = c.requires.volume; sectors = c.requires.range; kind = c.requires.writes }) c.in-Ok.row c.in-Ok.ensures.0
    c.in-Ok.ensures.1 c.args.start c.args.count refl c.requires.laid.0 c.requires.laid.1

pub returns-in-Ok : goal.returns-in-Ok
returns-in-Ok c =
    let laws = c.pieces_cover_requests.ensures in
    IfOk-weaker c.write_plan.result _ (IsPlanFor c.args.core.now c.args.line.now)
    (λ plan made. write_planned c.args.core.now c.args.line.now c.args.path.now c.in-Ok.row c.args.start c.args.count plan laws.cover
    laws.request laws.cut c.in-Ok.ensures.1
    (record { volume = c.requires.volume; sectors = c.requires.range; kind = c.requires.writes }) c.in-Ok.ensures.0 made)
    c.write_plan.ensures

pub returns-in-Err : goal.returns-in-Err
returns-in-Err c =
    IfOk-weaker c.refused_plan.result _ (IsPlanFor c.args.core.now c.args.line.now)
    (λ plan made. refused_planned c.args.core.now.volumes c.args.line.now.command c.args.path.now (Some (c.args.start, c.args.count)) true
    (record { volume = c.requires.volume; sectors = c.requires.range; kind = c.requires.writes }) c.args.core.now c.args.line.now plan
    c.in-Err.why refl refl c.in-Err.ensures made)
    c.refused_plan.ensures
