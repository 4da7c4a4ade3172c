use Rattle.std.proofs.Common.{◌<◌, length, sym, subst}
use Rattle.flush_plan.specs.Plans.{Plan}
use Rattle.flush_waits.specs.Waits.{Waits}
use Rattle.flush_waits.proofs.Kept.{Kept, kept_wrote}
use Rattle.flush_waits.proofs.waits.FlushWaits.wrote.Goals as goal

pub invariant_of-self : goal.invariant_of-self
invariant_of-self c =
    let lt = subst (λ (w : Waits). c.args.pv < length w.disks) (sym c.self.view_is) c.requires.disk in
    subst (λ (p : Plan). Kept p c.self.inside.disks.items c.self.inside.dirty.items c.self.inside.waited c.self.inside.room)
    (sym c.wrote.ensures)
    (kept_wrote c.self.inside.plan c.self.inside.disks.items c.self.inside.dirty.items c.self.inside.waited c.self.inside.room
    c.args.number c.args.pv lt c.self.invariant)
