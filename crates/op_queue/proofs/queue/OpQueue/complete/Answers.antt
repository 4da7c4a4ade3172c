-- The fault is counted, and the step.
use Rattle.std.proofs.Common.{◌≡◌, ℕ, ◌+◌, not, ◌==◌, ◌&&◌, slice_index_or, subst, refl}
use Rattle.std.specs.Prelude.{if◌then◌else◌}
use Rattle.op_queue.specs.declared.queue.OpQueue.{OpQueue}
use Rattle.op_queue.proofs.Completion.{good_after, completes_at}
use Rattle.op_queue.proofs.queue.OpQueue.complete.Goals as goal

pub returns-clause-good : goal.returns-clause-good
returns-clause-good c =
    good_after c.requires.0 c.requires.1 c.args.tag c.args.op c.args.well c.args.self.now _ c.requires.2 refl refl refl refl refl refl
    c.count_fault.ensures.len
    (λ p. subst (λ (n : ℕ). slice_index_or c.count_fault.new.faults.items p 0
    ≡ (if not c.args.well && (n == p) then slice_index_or c.args.self.now.faults.items p 0
    + 1 else slice_index_or c.args.self.now.faults.items p 0)) c.disk_of.ensures (c.count_fault.ensures.each p))

pub returns-clause-completes : goal.returns-clause-completes
returns-clause-completes c =
    let rest = c.args.self.now in
    let new : OpQueue = record rest { faults = c.count_fault.new.faults; steps = rest.steps + 1 } in
    λ whole at taken. completes_at whole at c.args.tag c.args.op c.args.well rest new taken refl refl refl refl refl refl
    c.count_fault.ensures.len
    (λ p. subst (λ (n : ℕ). slice_index_or c.count_fault.new.faults.items p 0
    ≡ (if not c.args.well && (n == p) then slice_index_or c.args.self.now.faults.items p 0
    + 1 else slice_index_or c.args.self.now.faults.items p 0)) c.disk_of.ensures (c.count_fault.ensures.each p))
