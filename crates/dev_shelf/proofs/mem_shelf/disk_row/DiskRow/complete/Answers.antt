use Rattle.std.proofs.Common.{Bool, is_some, None, false, Option, is_none, not, true, Some, ℕ, List, ◌≡◌, ◌∷◌, [], replicate, unwrap_or}
use Rattle.std.proofs.Common.{refl, sym, ap, subst, ◌∙◌}
use Rattle.disk_model.specs.declared.ops.Done.{Done}
use Rattle.disk_model.specs.Steps.{Step, Work, Completed, now_after}
use Rattle.disk_model.specs.Operations.{work_of}
use Rattle.disk_model.specs.Calls.{Completes}
use Rattle.op_queue.specs.Queue.{state_of as queue_state}
use Rattle.op_queue.specs.Completing.{CompletesAt}
use Rattle.op_queue.proofs.Removed.{has_tag}
use Rattle.dev_shelf.specs.declared.mem_shelf.disk_row.DiskRow.{DiskRow}
use Rattle.dev_shelf.specs.Plan.{FailsAsPlanned, failure_of}
use Rattle.dev_shelf.specs.DiskRow.{image_of, state_of, steps_of}
use Rattle.dev_shelf.proofs.RowCompletes.{carried_out_on, steps_ended, completes_ended, good_ended}
use Rattle.dev_shelf.proofs.mem_shelf.disk_row.DiskRow.complete.Goals as goal

pub complete-requires : goal.complete-requires
complete-requires c =
    let old = c.args.self.now in (
      old.queue,
      c.args.at,
      carried_out_on old c.args.at c.take-tag.result.tag c.take-tag.result.op c.carry_out-op.result c.take-tag.new.self
          c.requires.good c.take-tag.ensures c.carry_out-op.ensures.work c.carry_out-op.ensures.lies,
    )

pub returns-clause-good : goal.returns-clause-good
returns-clause-good c =
    let old = c.args.self.now in
    let done : Done = record { tag = c.take-tag.result.tag; op = c.carry_out-op.result; well = c.is_none-well.result } in
    let new : DiskRow =
    record old {
      current = c.carry_out-op.new.disks;
      queue = c.complete.new.self;
      in_flight = c.remove-recorded.new.self;
      steps = c.push_reserved.new.self;
    } in
    let taken =
    carried_out_on old c.args.at c.take-tag.result.tag c.take-tag.result.op c.carry_out-op.result c.take-tag.new.self c.requires.good
    c.take-tag.ensures c.carry_out-op.ensures.work c.carry_out-op.ensures.lies in
    let completes : CompletesAt (queue_state old.queue) c.args.at done (queue_state c.complete.new.self) =
    subst (λ (d : Done). CompletesAt (queue_state old.queue) c.args.at d (queue_state c.complete.new.self)) c.complete.ensures.done
    (c.complete.ensures.completes old.queue c.args.at taken) in
    good_ended old new c.args.at c.remove-recorded.result done c.unwrap_or-fresh.result c.requires.good completes
    c.remove-recorded.ensures.value c.remove-recorded.ensures.items c.push_reserved.ensures.items refl refl
    c.complete.ensures.good
    (λ pv s. subst (λ (w : Work). image_of new.current.items pv s
    ≡ now_after (image_of old.current.items) (Completed 0 w done.well (replicate c.unwrap_or-fresh.result true) ∷ []) pv s)
    (sym c.carry_out-op.ensures.work) (c.carry_out-op.ensures.now pv s))
    c.carry_out-op.ensures.shape c.remove-recorded.ensures.len c.remove-recorded.ensures.capacity c.push_reserved.ensures.len
    c.push_reserved.ensures.capacity

pub returns-clause-completes : goal.returns-clause-completes
returns-clause-completes c =
    let old = c.args.self.now in
    let done : Done = record { tag = c.take-tag.result.tag; op = c.carry_out-op.result; well = c.is_none-well.result } in
    let new : DiskRow =
    record old {
      current = c.carry_out-op.new.disks;
      queue = c.complete.new.self;
      in_flight = c.remove-recorded.new.self;
      steps = c.push_reserved.new.self;
    } in
    let taken =
    carried_out_on old c.args.at c.take-tag.result.tag c.take-tag.result.op c.carry_out-op.result c.take-tag.new.self c.requires.good
    c.take-tag.ensures c.carry_out-op.ensures.work c.carry_out-op.ensures.lies in
    let completes : CompletesAt (queue_state old.queue) c.args.at done (queue_state c.complete.new.self) =
    subst (λ (d : Done). CompletesAt (queue_state old.queue) c.args.at d (queue_state c.complete.new.self)) c.complete.ensures.done
    (c.complete.ensures.completes old.queue c.args.at taken) in
    subst (λ (d : Done). Completes (state_of old) d (state_of new)) (sym c.complete.ensures.done)
    (completes_ended old new c.args.at c.remove-recorded.result done c.unwrap_or-fresh.result c.requires.good completes
    c.remove-recorded.ensures.value c.remove-recorded.ensures.items c.push_reserved.ensures.items refl refl c.carry_out-op.ensures.read)

pub returns-clause-ready : goal.returns-clause-ready
returns-clause-ready c =
    let old = c.args.self.now in
    let taken =
    carried_out_on old c.args.at c.take-tag.result.tag c.take-tag.result.op c.carry_out-op.result c.take-tag.new.self c.requires.good
    c.take-tag.ensures c.carry_out-op.ensures.work c.carry_out-op.ensures.lies in
    let completes = c.complete.ensures.completes old.queue c.args.at taken in
    has_tag (queue_state old.queue).in_flight c.args.at _ completes.here completes.which

-- what is not some is none
none_if : (b : Bool) (o : Option ℕ) → is_some o ≡ not b → b ≡ is_none o
none_if true None h = refl
none_if true (Some x) h = cc
none_if false None h = cc
none_if false (Some x) h = refl

pub returns-clause-fails : goal.returns-clause-fails
returns-clause-fails c =
    let old = c.args.self.now in
    let done : Done = record { tag = c.take-tag.result.tag; op = c.carry_out-op.result; well = c.is_none-well.result } in
    let new : DiskRow =
    record old {
      current = c.carry_out-op.new.disks;
      queue = c.complete.new.self;
      in_flight = c.remove-recorded.new.self;
      steps = c.push_reserved.new.self;
    } in
    let taken =
    carried_out_on old c.args.at c.take-tag.result.tag c.take-tag.result.op c.carry_out-op.result c.take-tag.new.self c.requires.good
    c.take-tag.ensures c.carry_out-op.ensures.work c.carry_out-op.ensures.lies in
    let completes : CompletesAt (queue_state old.queue) c.args.at done (queue_state c.complete.new.self) =
    subst (λ (d : Done). CompletesAt (queue_state old.queue) c.args.at d (queue_state c.complete.new.self)) c.complete.ensures.done
    (c.complete.ensures.completes old.queue c.args.at taken) in
    let fresh : c.unwrap_or-fresh.result ≡ unwrap_or (failure_of old.fails.items done.tag) 0 =
    c.unwrap_or-fresh.ensures ∙ ap (λ (o : Option ℕ). unwrap_or o 0) c.planned_failure-failure.ensures in
    subst (λ (d : Done). FailsAsPlanned (state_of old) old.fails.items d (state_of new)) (sym c.complete.ensures.done)
    (record {
      well = none_if _ _ c.is_none-well.ensures ∙ ap (λ (o : Option ℕ). is_none o) c.planned_failure-failure.ensures;
      told =
          ap (λ (l : List Step). Some (record { opened = image_of old.opened.items; steps = l }))
          (steps_ended old new c.args.at c.remove-recorded.result done c.unwrap_or-fresh.result c.requires.good completes
          c.remove-recorded.ensures.value c.remove-recorded.ensures.items c.push_reserved.ensures.items refl refl
          ∙ ap (λ (n : ℕ). Completed done.tag (work_of done.op) done.well (replicate n true) ∷ steps_of old) fresh);
    })
