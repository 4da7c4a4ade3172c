use Rattle.scan_rules.specs.Flat.{refused_in}
use Rattle.scan_rules.proofs.Steps.{kept_more, passed_more}
use Rattle.std.proofs.Common.{◌∙◌}
use Rattle.scan_rules.proofs.refusals.push_refusals.Goals as goal

pub loop-area-preserved-in-Continue-1 : goal.loop-area-preserved-in-Continue-1
loop-area-preserved-in-Continue-1 c =
    c.in_ok-push.ensures.items
    ∙ kept_more (refused_in c.args.disk) c.loop-area.refused.items c.args.refused.now.items c.loop-area.yielded c.in-Some.area
    c.in-Some-refusal_of.refusal c.loop-area.invariant c.in-Some-refusal_of.ensures

pub loop-area-preserved : goal.loop-area-preserved
loop-area-preserved c =
    passed_more (refused_in c.args.disk) c.loop-area.refused.items c.args.refused.now.items c.loop-area.yielded c.in-Some.area
    c.loop-area.invariant c.in_default.ensures
