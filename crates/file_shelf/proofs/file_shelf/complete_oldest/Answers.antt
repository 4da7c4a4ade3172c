-- The oldest operation leaves the queue, and its completion is counted.
use Rattle.op_queue.specs.Queue.{state_of}
use Rattle.op_queue.proofs.Completion.{carried_out}
use Rattle.op_queue.proofs.Removed.{has_tag}
use Rattle.file_shelf.proofs.file_shelf.complete_oldest.Goals as goal

pub complete-requires : goal.complete-requires
complete-requires g c =
    let whole = c.args.queue.now in (
      whole,
      0,
      carried_out whole 0 c.take-tag.result.tag c.take-tag.result.op c.carry_out-op.result.0 c.take-tag.new.self c.take-tag.ensures
          c.carry_out-op.ensures.work
          (c.carry_out-op.ensures.lies whole.sizes.items c.take-tag.ensures.lies),
    )

pub returns-clause-sizes : goal.returns-clause-sizes
returns-clause-sizes g c =
    let whole = c.args.queue.now in
    (c.complete.ensures.completes whole 0 (carried_out whole 0 c.take-tag.result.tag c.take-tag.result.op c.carry_out-op.result.0
    c.take-tag.new.self c.take-tag.ensures c.carry_out-op.ensures.work
    (c.carry_out-op.ensures.lies whole.sizes.items c.take-tag.ensures.lies))).completes.sizes

pub returns-clause-cases : goal.returns-clause-cases
returns-clause-cases g c =
    let whole = c.args.queue.now in
    (c.complete.ensures.completes whole 0 (carried_out whole 0 c.take-tag.result.tag c.take-tag.result.op c.carry_out-op.result.0
    c.take-tag.new.self c.take-tag.ensures c.carry_out-op.ensures.work
    (c.carry_out-op.ensures.lies whole.sizes.items c.take-tag.ensures.lies))).completes

pub returns-clause-ready : goal.returns-clause-ready
returns-clause-ready g c =
    let whole = c.args.queue.now in
    let completes =
    c.complete.ensures.completes whole 0 (carried_out whole 0 c.take-tag.result.tag c.take-tag.result.op c.carry_out-op.result.0
    c.take-tag.new.self c.take-tag.ensures c.carry_out-op.ensures.work
    (c.carry_out-op.ensures.lies whole.sizes.items c.take-tag.ensures.lies)) in
    has_tag (state_of whole).in_flight 0 _ completes.here completes.which
