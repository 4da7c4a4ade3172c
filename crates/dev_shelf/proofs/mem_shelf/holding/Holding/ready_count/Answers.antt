use Rattle.std.proofs.Common.{◌≤◌, Bool, length, not, arith}
use Rattle.dev_shelf.specs.declared.mem_shelf.recorded.RecordedOp.{RecordedOp}
use Rattle.dev_shelf.specs.RowHolds.{is_held_at}
use Rattle.dev_shelf.proofs.ReadyPlaces.{few_pass}
use Rattle.dev_shelf.proofs.mem_shelf.holding.Holding.ready_count.Goals as goal

pub overflow_add-count : goal.overflow_add-count
overflow_add-count c =
    let ops = c.args.row.now.in_flight in
    let p : RecordedOp → Bool = λ op. not (is_held_at c.args.self.now c.args.row.now.steps.items op) in
    let few : c.loop-op.count ≤ length ops.items = few_pass p ops.items c.loop-op.op-index c.loop-op.count c.loop-op.invariant in
    omega (arith, few, ops.ok.0)
