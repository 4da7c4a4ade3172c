use Rattle.std.proofs.Common.{◌≡◌, None, sym, subst}
use Rattle.std.specs.Prelude.{IsTrue}
use Rattle.flush_plan.specs.Plans.{Plan, flight_of, flush_of, is_in_flight, marks_of}
use Rattle.flush_waits.specs.Waits.{Waits}
use Rattle.flush_waits.proofs.InOrder.{none_after_flushed, none_after_lost, stable_after}
use Rattle.flush_waits.proofs.Kept.{Kept, kept_flushed, kept_lost}
use Rattle.flush_waits.proofs.waits.FlushWaits.ended.Goals as goal

pub invariant_of-self : goal.invariant_of-self
invariant_of-self c =
    let flies = subst (λ (w : Waits). IsTrue (is_in_flight w.plan c.args.tag)) (sym c.self.view_is) c.requires in
    subst (λ (p : Plan). Kept p c.self.inside.disks.items c.self.inside.dirty.items c.self.inside.waited c.self.inside.room)
    (sym c.flushed.ensures)
    (kept_flushed c.self.inside.plan c.self.inside.disks.items c.self.inside.dirty.items c.self.inside.waited c.self.inside.room
    c.args.tag flies c.self.invariant)

pub invariant_of-self-else-well : goal.invariant_of-self-else-well
invariant_of-self-else-well c =
    let flies = subst (λ (w : Waits). IsTrue (is_in_flight w.plan c.args.tag)) (sym c.self.view_is) c.requires in
    subst (λ (p : Plan). Kept p c.self.inside.disks.items c.self.inside.dirty.items c.self.inside.waited c.self.inside.room)
    (sym c.lost.ensures)
    (kept_lost c.self.inside.plan c.self.inside.disks.items c.self.inside.dirty.items c.self.inside.waited c.self.inside.room c.args.tag
    flies c.self.invariant)

pub returns-then-well-clause-none : goal.returns-then-well-clause-none
returns-then-well-clause-none c =
    let flies = subst (λ (w : Waits). IsTrue (is_in_flight w.plan c.args.tag)) (sym c.self.view_is) c.requires in
    subst (λ (w : Waits). flight_of c.flushed.new.self (flush_of w.plan c.args.tag).pv ≡ None) c.self.view_is
    (subst (λ (p : Plan). flight_of p (flush_of c.self.inside.plan c.args.tag).pv ≡ None) (sym c.flushed.ensures)
    (none_after_flushed c.self.inside.plan c.self.inside.disks.items c.args.tag flies c.self.invariant.0))

pub returns-else-well-clause-none : goal.returns-else-well-clause-none
returns-else-well-clause-none c =
    let flies = subst (λ (w : Waits). IsTrue (is_in_flight w.plan c.args.tag)) (sym c.self.view_is) c.requires in
    subst (λ (w : Waits). flight_of c.lost.new.self (flush_of w.plan c.args.tag).pv ≡ None) c.self.view_is
    (subst (λ (p : Plan). flight_of p (flush_of c.self.inside.plan c.args.tag).pv ≡ None) (sym c.lost.ensures)
    (none_after_lost c.self.inside.plan c.self.inside.disks.items c.args.tag flies c.self.invariant.0))

pub returns-then-well-clause-stable : goal.returns-then-well-clause-stable
returns-then-well-clause-stable c is =
    let flies = subst (λ (w : Waits). IsTrue (is_in_flight w.plan c.args.tag)) (sym c.self.view_is) c.requires in
    subst (λ (w : Waits). (marks_of c.flushed.new.self (flush_of w.plan c.args.tag).pv).stable
    ≡ (marks_of c.flushed.new.self (flush_of w.plan c.args.tag).pv).ended) c.self.view_is
    (subst (λ (p : Plan). (marks_of p (flush_of c.self.inside.plan c.args.tag).pv).stable
    ≡ (marks_of p (flush_of c.self.inside.plan c.args.tag).pv).ended) (sym c.flushed.ensures)
    (stable_after c.self.inside.plan c.self.inside.disks.items c.args.tag flies c.self.invariant.0))
