use Rattle.std.proofs.Common.{Some, sym, ◌∙◌, arith, true≢false}
use Rattle.world_acts.specs.declared.state.Core.{Core}
use Rattle.world_acts.specs.Acts.{World, world}
use Rattle.io_core.proofs.LineBegins.{IsHeld, begins_so, holds_so, may_begin, may_carry}
use Rattle.io_core.proofs.beginning.begin.Goals as goal
use Rattle.io_core.proofs.beginning.begin.Goals.{else-is_wait-via-then-is_wait+else-open_count-gt1, else-is_wait-via-else-is_wait}

pub open_line-place-requires : goal.open_line-place-requires
open_line-place-requires g c =
    let r = c.requires in
    let w : World = world (g.S.Shelf.state c.args.shelf.now) c.args.core.now in
    record {
      orderly = r.orderly;
      may =
          may_begin w c.args.line c.args.plan
          (record { orderly = r.orderly; settled = r.settled; free = r.free; may = r.may });
    }

pub returns-then-open_count-gt1 : goal.returns-then-open_count-gt1
returns-then-open_count-gt1 g c =
    let r = c.requires in
    let w : World = world (g.S.Shelf.state c.args.shelf.now) c.args.core.now in
    let d : Core = c.open_line-place.new.core in
    let is : IsHeld w c.args.line (world w.shelf (record d { barrier = Some c.open_line-place.result })) =
    holds_so w c.args.line c.args.plan d c.open_line-place.result
    (record { orderly = r.orderly; settled = r.settled; free = r.free; may = r.may }) (r.holds c.if-is_wait.true)
    (r.waits c.if-is_wait.true)
    c.open_line-place.ensures.after c.open_line-place.ensures.place
    (omega (arith, c.open_count.ensures, c.if-open_count-gt1.true)) in
    record { begins = is.begins; settled = is.settled }

pub carry_on-first-requires : goal.carry_on-first-requires
carry_on-first-requires g c =
    let r = c.requires in
    record {
      may =
          may_carry (world (g.S.Shelf.state c.args.shelf.now) c.args.core.now) c.args.line c.args.plan
          (record { orderly = r.orderly; settled = r.settled; free = r.free; may = r.may }) c.open_line-place.new.core
          c.open_line-place.result c.open_line-place.ensures.after c.open_line-place.ensures.place;
    }

pub returns : goal.returns
returns g c =
    let r = c.requires in
    let w : World = world (g.S.Shelf.state c.args.shelf.now) c.args.core.now in
    let e = c.carry_on-first in
    record {
      begins =
          begins_so w c.args.line c.args.plan
          (record { orderly = r.orderly; settled = r.settled; free = r.free; may = r.may }) c.open_line-place.new.core
          (world (g.S.Shelf.state e.new.shelf) e.new.core) c.open_line-place.result e.result c.how_begun.result
          c.open_line-place.ensures.after c.open_line-place.ensures.place
          (record { carried = e.ensures.carried; settled = e.ensures.settled }) c.how_begun.ensures (λ waits.
          elim c.else-is_wait.branch [
            | else-is_wait-via-then-is_wait+else-open_count-gt1 b ↦ omega (arith, b.open_count.ensures, b.if-open_count-gt1.false)
            | else-is_wait-via-else-is_wait b ↦ absurd (true≢false (sym (r.all waits) ∙ b.if-is_wait.false))
          ]);
      settled = e.ensures.settled;
    }
