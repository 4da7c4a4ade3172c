use Rattle.std.proofs.Common.{ℕ, List, sym, subst}
use Rattle.command_table.specs.declared.command.Command.{Command}
use Rattle.lvm_script.specs.declared.line.Line.{Line}
use Rattle.lv_plans.specs.Lvcreate.{lvcreate_asks, lvcreate_change, lvcreate_rows}
use Rattle.lv_plans.specs.Allocating.{PlansWith}
use Rattle.group_ops.proofs.NoZeros.{adds_none, zeroes_nothing}
use Rattle.group_ops.specs.Planning.{asks_of, change_of, rows_of}
use Rattle.group_ops.proofs.planning.plan.Goals as goal

pub returns-in-Lvcreate-clause-plans : goal.returns-in-Lvcreate-clause-plans
returns-in-Lvcreate-clause-plans c =
    subst (λ (command : Command). PlansWith (asks_of c.args.state.now (line command)) (rows_of c.args.state.now (line command) c.args.now)
    (change_of c.args.state.now (line command) c.args.now) c.plan_lvcreate.result) (sym c.in-Lvcreate.is)
    (subst (λ (id : List ℕ). PlansWith (lvcreate_asks c.args.state.now id c.in-Lvcreate.new)
    (lvcreate_rows c.args.state.now id c.in-Lvcreate.new c.args.now) (lvcreate_change c.args.state.now id c.in-Lvcreate.new c.args.now)
    c.plan_lvcreate.result)
    c.drawn.ensures.value c.plan_lvcreate.ensures.plans)
  where
    line : Command → Line
    line command = record { number = c.args.line.now.number; id = c.args.line.now.id; command = command }

-- ---- a line that creates no volume

pub plan_others-requires-clause-others : goal.plan_others-requires-clause-others
plan_others-requires-clause-others c = adds_none c.args.line.now.command c.in_default.not-Lvcreate

pub returns-in_default-clause-zeros : goal.returns-in_default-clause-zeros
returns-in_default-clause-zeros c =
    zeroes_nothing c.args.state.now c.args.line.now c.args.now c.plan_others.result c.requires.planned
    (adds_none c.args.line.now.command c.in_default.not-Lvcreate) c.plan_others.ensures
