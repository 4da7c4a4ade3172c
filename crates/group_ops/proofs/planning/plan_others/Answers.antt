use Rattle.std.proofs.Common.{ℕ, List, sym, subst}
use Rattle.command_table.specs.declared.command.Command.{Command}
use Rattle.lvm_script.specs.declared.line.Line.{Line}
use Rattle.lv_plans.specs.Lvextend.{lvextend_asks, lvextend_change, lvextend_rows}
use Rattle.lv_plans.specs.Allocating.{PlansWith}
use Rattle.group_ops.specs.Planning.{asks_of, change_of, rows_of}
use Rattle.group_ops.proofs.planning.plan_others.Goals as goal

pub returns-in-Lvextend : goal.returns-in-Lvextend
returns-in-Lvextend c =
    subst (λ (command : Command). PlansWith (asks_of c.args.state.now (line command)) (rows_of c.args.state.now (line command) c.args.now)
    (change_of c.args.state.now (line command) c.args.now) c.plan_lvextend.result) (sym c.in-Lvextend.is)
    (subst (λ (pvs : List (List ℕ)). PlansWith (lvextend_asks c.args.state.now c.in-Lvextend.path c.in-Lvextend.growth pvs)
    (lvextend_rows c.args.state.now c.in-Lvextend.path c.in-Lvextend.growth pvs c.args.now)
    (lvextend_change c.args.state.now c.in-Lvextend.path.lv) c.plan_lvextend.result)
    c.as_slice-in-Lvextend.ensures c.plan_lvextend.ensures)
  where
    line : Command → Line
    line command = record { number = c.args.line.now.number; id = c.args.line.now.id; command = command }
