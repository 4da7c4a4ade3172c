use Rattle.std.proofs.Common.{sym, ◌∙◌}
use Rattle.line_plans.proofs.Writable.{found_within, writable_by}
use Rattle.line_plans.proofs.judging.is_writable.Goals as goal

pub get-requires : goal.get-requires
get-requires c = found_within c.args.group.now c.args.path.now.lv c.in-Some.lv (sym c.in-Some.is ∙ c.requires)

pub returns-in-Some : goal.returns-in-Some
returns-in-Some c =
    c.is_writable.ensures
    ∙ writable_by c.args.group.now c.args.path.now.lv c.in-Some.lv (c.get.result.0.now, c.get.result.1.now) (sym c.in-Some.is ∙ c.requires)
    c.get.ensures
