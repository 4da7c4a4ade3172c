use Rattle.std.proofs.Common.{◌≡◌, ◌≤◌, ◌<◌, ◌+◌, ◌-◌, [], ◌∷◌, ◌++◌, length, get_or, set, sym, ap, ◌∙◌, subst}
use Rattle.flush_waits.specs.Waits.{DiskWaits, Waits, none_waits}
use Rattle.flush_waits.proofs.Kept.{Kept, any_default, kept_next, kept_served}
use Rattle.flush_waits.proofs.waits.FlushWaits.wait.Goals as goal

pub invariant_of-self-in-Served : goal.invariant_of-self-in-Served
invariant_of-self-in-Served c =
    let disks = c.self.inside.disks.items in
    let pv = c.args.pv in
    let lt : pv < length disks = subst (λ (v : Waits). pv < length v.disks) (sym c.self.view_is) c.requires.disk in
    let some : 0 < c.self.inside.room = subst (λ (v : Waits). 0 < v.room) (sym c.self.view_is) c.requires.room in
    let queue : c.serve.new.self
    ≡ record (get_or disks pv none_waits) {
      served = (get_or disks pv none_waits).served ++ record { waiter = c.args.waiter; place = c.args.place } ∷ [];
    } =
    c.serve.ensures
    ∙ ap (λ (d : DiskWaits). record d { served = d.served ++ record { waiter = c.args.waiter; place = c.args.place } ∷ [] })
    (c.index_mut.ensures.value ∙ any_default disks pv c.index_mut.result.now none_waits lt) in
    subst (λ (d : DiskWaits). Kept c.self.inside.plan (set disks pv d) c.self.inside.dirty.items (c.self.inside.waited + 1)
    (c.self.inside.room - 1)) (sym queue)
    (kept_served c.self.inside.plan disks c.self.inside.dirty.items c.self.inside.waited c.self.inside.room pv
    (record { waiter = c.args.waiter; place = c.args.place }) c.args.self.now (ap (λ (v : Waits). v.plan) (sym c.self.view_is)) lt some
    (sym c.in-Served.ensures) c.self.invariant)

pub invariant_of-self-in-Unserved : goal.invariant_of-self-in-Unserved
invariant_of-self-in-Unserved c =
    let disks = c.self.inside.disks.items in
    let pv = c.args.pv in
    let lt : pv < length disks = subst (λ (v : Waits). pv < length v.disks) (sym c.self.view_is) c.requires.disk in
    let some : 0 < c.self.inside.room = subst (λ (v : Waits). 0 < v.room) (sym c.self.view_is) c.requires.room in
    let held = subst (λ (v : Waits). c.args.place ≤ v.plan.held) (sym c.self.view_is) c.requires.completed in
    let queue : c.defer.new.self
    ≡ record (get_or disks pv none_waits) {
      next = (get_or disks pv none_waits).next ++ record { waiter = c.args.waiter; place = c.args.place } ∷ [];
    } =
    c.defer.ensures
    ∙ ap (λ (d : DiskWaits). record d { next = d.next ++ record { waiter = c.args.waiter; place = c.args.place } ∷ [] })
    (c.index_mut-in-Unserved.ensures.value ∙ any_default disks pv c.index_mut-in-Unserved.result.now none_waits lt) in
    subst (λ (d : DiskWaits). Kept c.self.inside.plan (set disks pv d) c.self.inside.dirty.items (c.self.inside.waited + 1)
    (c.self.inside.room - 1)) (sym queue)
    (kept_next c.self.inside.plan disks c.self.inside.dirty.items c.self.inside.waited c.self.inside.room pv
    (record { waiter = c.args.waiter; place = c.args.place }) c.args.self.now (ap (λ (v : Waits). v.plan) (sym c.self.view_is)) lt some
    held (sym c.in-Unserved.ensures) c.self.invariant)
