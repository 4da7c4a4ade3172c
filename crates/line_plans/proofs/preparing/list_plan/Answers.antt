use Rattle.std.proofs.Common.{ℕ, List, refl, subst}
use Rattle.command_table.specs.declared.command.Command.TheVariants as command
use Rattle.line_answers.specs.declared.answer.Answer.TheVariants.{Listed}
use Rattle.world_acts.specs.declared.open_line.Work.TheVariants.{Whole}
use Rattle.line_plans.specs.Plans.{IsAlone, opened_on}
use Rattle.line_plans.proofs.Planned.{whole_planned}
use Rattle.line_plans.proofs.preparing.list_plan.Goals as goal

pub returns : goal.returns
returns c =
    whole_planned c.args.core.now c.args.line.now c.whole.result command.List c.requires.lists refl
    (subst (λ (l : List (List ℕ × ℕ)). IsAlone (opened_on 0 (Whole (Listed l))) c.whole.result) c.in_ok-list.ensures c.whole.ensures)
