-- The volume on the path has a row.
use Rattle.std.proofs.Common.{Option, ap, ◌∙◌}
use Rattle.meta_model.specs.declared.group.Group.{Group}
use Rattle.group_plan.specs.Judging.{first_refusal}
use Rattle.line_plans.specs.Judging.{rows_on}
use Rattle.line_plans.proofs.FoundRows.{has_row, is_found}
use Rattle.line_plans.proofs.Judged.{names_group}
use Rattle.line_plans.proofs.judging.judge.Goals as goal

pub with_number-requires : goal.with_number-requires
with_number-requires c = c.requires.1.sorted

pub unreachable-requires : goal.unreachable-requires
unreachable-requires c =
    has_row c.args.volumes.now c.in-Some.group c.args.path.now c.in_ok-lv.lv c.in-Some.is c.in_ok-lv.ensures.1 c.requires.0 c.requires.1
    c.in-None.ensures

pub returns : goal.returns
returns c = (
  ap (λ (o : Option Group). first_refusal (rows_on o c.args.path.now c.args.writes c.args.range)) c.in-Some.is ∙ c.in_ok-lv.ensures.0,
  is_found c.args.volumes.now c.in-Some.group c.args.path.now c.in_ok-lv.lv c.in-Some.is c.in_ok-lv.ensures.1
      (names_group c.in-Some.group c.args.path.now c.args.writes c.args.range c.in_ok-lv.ensures.0) c.args.range
      c.in-Some-with_number.row c.in-Some-with_number.ensures c.in_ok-lv.ensures.2,
)
