use Rattle.std.proofs.Common.{◌≡◌, ◌<◌, [], length, get_or, set, None, sym, ap, ◌∙◌, subst}
use Rattle.flush_plan.specs.Plans.{Plan, flight_of}
use Rattle.flush_plan.specs.Steps.{after_submitted}
use Rattle.flush_waits.specs.Waits.{DiskWaits, Waits, none_waits}
use Rattle.flush_waits.proofs.InOrder.{spare_flush}
use Rattle.flush_waits.proofs.Kept.{Kept, any_default, kept_submitted}
use Rattle.flush_waits.proofs.waits.FlushWaits.submitted.Goals as goal

pub submitted-requires-clause-spare : goal.submitted-requires-clause-spare
submitted-requires-clause-spare c =
    spare_flush c.self.inside.plan c.self.inside.disks.items c.args.pv
    (subst (λ (w : Waits). c.args.pv < length w.disks) (sym c.self.view_is) c.requires.disk)
    (subst (λ (w : Waits). flight_of w.plan c.args.pv ≡ None) (sym c.self.view_is) c.requires.none) c.self.invariant.0

pub invariant_of-self : goal.invariant_of-self
invariant_of-self c =
    let disks = c.self.inside.disks.items in
    let pv = c.args.pv in
    let lt : pv < length disks = subst (λ (w : Waits). pv < length w.disks) (sym c.self.view_is) c.requires.disk in
    let none = subst (λ (w : Waits). flight_of w.plan pv ≡ None) (sym c.self.view_is) c.requires.none in
    let queue : c.advance.new.self ≡ record { served = (get_or disks pv none_waits).next; next = [] } =
    c.advance.ensures
    ∙ ap (λ (d : DiskWaits). record { served = d.next; next = [] })
    (c.index_mut.ensures.value ∙ any_default disks pv c.index_mut.result.now none_waits lt) in
    subst (λ (p : Plan). Kept p (set disks pv c.advance.new.self) c.self.inside.dirty.items c.self.inside.waited c.self.inside.room)
    (sym c.submitted.ensures)
    (subst (λ (d : DiskWaits). Kept (after_submitted c.self.inside.plan pv c.args.tag) (set disks pv d) c.self.inside.dirty.items
    c.self.inside.waited c.self.inside.room) (sym queue)
    (kept_submitted c.self.inside.plan disks c.self.inside.dirty.items c.self.inside.waited c.self.inside.room pv c.args.tag lt none
    c.self.invariant))
