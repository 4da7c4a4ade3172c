use Rattle.std.proofs.Common.{◌∙◌, ap, map}
use Rattle.std.proofs.lemmas.List.{take_all}
use Rattle.line_plans.specs.Plans.{listed_row}
use Rattle.line_plans.proofs.preparing.listed_in.Goals as goal

pub returns : goal.returns
returns c =
    c.from_vec.ensures ∙ c.loop-row.invariant
    ∙ ap (map (listed_row c.args.group.now)) (take_all c.loop-row.row-index c.args.rows.now c.loop-row-test.false)
