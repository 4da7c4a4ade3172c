use Rattle.std.proofs.Common.{◌≡◌, ◌<◌, ◌*◌, ◌^◌, ℕ, List, max, replicate, sym, ap, ◌∙◌, subst, arith, rules}
use Rattle.flush_plan.specs.Plans.{Plan}
use Rattle.flush_plan.specs.Steps.{new_plan}
use Rattle.flush_waits.specs.Waits.{DiskWaits, none_waits}
use Rattle.flush_waits.proofs.Kept.{Kept, kept_new}
use Rattle.flush_waits.proofs.waits.FlushWaits.new.Goals as goal

pub invariant_of-result : goal.invariant_of-result
invariant_of-result c =
    let few : c.args.disks < 2 ^ 32 = omega (arith, c.ranges.disks.fits) in
    let plan : c.reserve.new.self ≡ record (new_plan c.args.disks) { spare = max 0 0; spare_flushes = max c.from.result 0 } =
    c.in_ok-reserve.ensures.ok
    ∙ ap (λ (p : Plan). record p { spare = max 0 p.spare; spare_flushes = max c.from.result p.spare_flushes }) c.in_ok-plan.ensures in
    let queues : c.loop.queues.items ≡ replicate c.args.disks none_waits = search rules in
    let dirty : c.in_ok-dirty.dirty.items ≡ replicate (c.args.volumes * c.args.disks) 0 = search rules in
    subst (λ (p : Plan). Kept p c.loop.queues.items c.in_ok-dirty.dirty.items 0 0) (sym plan)
    (subst (λ (ds : List DiskWaits). Kept (record (new_plan c.args.disks) { spare = max 0 0; spare_flushes = max c.from.result 0 }) ds
    c.in_ok-dirty.dirty.items 0 0) (sym queues)
    (subst (λ (xs : List ℕ). Kept (record (new_plan c.args.disks) { spare = max 0 0; spare_flushes = max c.from.result 0 })
    (replicate c.args.disks none_waits) xs 0 0) (sym dirty)
    (kept_new c.args.disks (c.args.volumes * c.args.disks) (max 0 0) (max c.from.result 0) few (omega (arith, c.from.ensures)))))
