use Rattle.std.proofs.Common.{sym, subst}
use Rattle.flush_plan.specs.Plans.{Plan}
use Rattle.flush_waits.proofs.Kept.{Kept, kept_forgot}
use Rattle.flush_waits.proofs.waits.FlushWaits.forget.Goals as goal

pub invariant_of-self : goal.invariant_of-self
invariant_of-self c =
    subst (λ (p : Plan). Kept p c.self.inside.disks.items c.self.inside.dirty.items c.self.inside.waited c.self.inside.room)
    (sym c.forget.ensures.after)
    (kept_forgot c.self.inside.plan c.self.inside.disks.items c.self.inside.dirty.items c.self.inside.waited c.self.inside.room
    c.args.number c.args.pv c.self.invariant)
