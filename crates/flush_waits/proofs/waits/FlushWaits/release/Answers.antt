use Rattle.std.proofs.Common.{◌≡◌, ◌<◌, length, get_or, set, drop, sym, ap, ◌∙◌, subst}
use Rattle.flush_waits.specs.Waits.{DiskWaits, Waits, none_waits}
use Rattle.flush_waits.proofs.Kept.{Kept, any_default, kept_released}
use Rattle.flush_waits.proofs.waits.FlushWaits.release.Goals as goal

pub invariant_of-self : goal.invariant_of-self
invariant_of-self c =
    let disks = c.self.inside.disks.items in
    let pv = c.args.pv in
    let lt : pv < length disks = subst (λ (w : Waits). pv < length w.disks) (sym c.self.view_is) c.requires.disk in
    let queue : c.pop.new.self ≡ record (get_or disks pv none_waits) { served = drop 1 (get_or disks pv none_waits).served } =
    c.pop.ensures.rest
    ∙ ap (λ (d : DiskWaits). record d { served = drop 1 d.served })
    (c.index_mut.ensures.value ∙ any_default disks pv c.index_mut.result.now none_waits lt) in
    subst (λ (d : DiskWaits). Kept c.self.inside.plan (set disks pv d) c.self.inside.dirty.items c.self.inside.waited c.self.inside.room)
    (sym queue)
    (kept_released c.self.inside.plan disks c.self.inside.dirty.items c.self.inside.waited c.self.inside.room pv lt c.self.invariant)
