-- What it waits for is its plan.
use Rattle.std.proofs.Common.{ℕ, false, None, refl, subst}
use Rattle.std.proofs.lemmas.Result.{IfOk-weaker}
use Rattle.command_table.specs.declared.command.Command.TheVariants as command
use Rattle.line_plans.specs.Plans.{IsFlushing, IsPlanFor}
use Rattle.line_plans.proofs.Planned.{flush_planned, refused_planned}
use Rattle.line_plans.proofs.preparing.flush_line.Goals as goal

pub returns-in-Ok : goal.returns-in-Ok
returns-in-Ok c =
    IfOk-weaker c.flush_plan.result (IsFlushing c.in-Ok.row.key c.disks.result) (IsPlanFor c.args.core.now c.args.line.now)
    (λ plan made. flush_planned c.args.core.now.volumes (command.Flush c.args.path.now) c.args.path.now None false
    (record { volume = refl; sectors = refl; kind = refl }) c.in-Ok.row c.in-Ok.ensures.0 c.in-Ok.ensures.1 c.args.core.now
    c.args.line.now plan refl c.requires.flushes refl refl refl
    (subst (λ (n : ℕ). IsFlushing c.in-Ok.row.key n plan) c.disks.ensures made))
    c.flush_plan.ensures

pub returns-in-Err : goal.returns-in-Err
returns-in-Err c =
    IfOk-weaker c.refused_plan.result _ (IsPlanFor c.args.core.now c.args.line.now)
    (λ plan made. refused_planned c.args.core.now.volumes (command.Flush c.args.path.now) c.args.path.now None false
    (record { volume = refl; sectors = refl; kind = refl }) c.args.core.now c.args.line.now plan c.in-Err.why refl c.requires.flushes
    c.in-Err.ensures made)
    c.refused_plan.ensures
