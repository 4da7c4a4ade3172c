use Rattle.std.proofs.Common.{subst}
use Rattle.flush_plan.specs.Plans.{Plan, SaysOfOthers}
use Rattle.flush_plan.proofs.Forgotten.{says_of_others}
use Rattle.flush_plan.proofs.plan.FlushPlan.forget.Goals as goal

pub returns-clause-others : goal.returns-clause-others
returns-clause-others c =
    let before : Plan = record {
      last = c.self.inside.last.entries;
      marks = c.self.inside.marks.items;
      flushes = c.self.inside.flushes.items;
      held = c.self.inside.held;
      spare = c.self.inside.spare;
      spare_flushes = c.self.inside.spare_flushes;
    } in
    subst (λ (old : Plan). SaysOfOthers old (record before { last = c.swap_remove.new.self.entries }) c.args.number c.args.pv)
    c.self.view_is
    (says_of_others before c.swap_remove.new.self.entries c.args.number c.args.pv (λ q apart. c.swap_remove.ensures.updates.2 q apart))
