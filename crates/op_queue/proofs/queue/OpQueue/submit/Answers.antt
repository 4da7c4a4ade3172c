-- The operation is the newest in flight.
use Rattle.std.proofs.Common.{◌≡◌, ◌++◌, ℕ, List, [], ◌∷◌, map, arith, refl}
use Rattle.std.proofs.lemmas.List.{map-append}
use Rattle.std.proofs.lemmas.List.Elements.{Contains-append_left}
use Rattle.disk_model.specs.Record.{Operation}
use Rattle.disk_model.specs.Operations.{work_of}
use Rattle.disk_model.specs.State.{tags_of}
use Rattle.op_queue.specs.Queue.{operation_of}
use Rattle.op_queue.proofs.queue.OpQueue.submit.Goals as goal

pub returns-clause-submits : goal.returns-clause-submits
returns-clause-submits c =
    let old = c.args.self.now in
    let o : Operation = record { tag = old.next_tag; work = work_of c.args.op } in
    let before : List Operation = map operation_of old.waiting.items in
    let queued : map operation_of c.push_back_reserved.new.self.items ≡ before ++ o ∷ [] =
    rw c.push_back_reserved.ensures.items (map-append operation_of old.waiting.items (_ ∷ [])) in
    let tag_of : Operation → ℕ = λ p. p.tag in
    record {
      fresh = omega arith;
      next = omega arith;
      in_flight = queued;
      ready = λ tag was. rw (queued, map-append tag_of before (o ∷ [])) (Contains-append_left (tags_of before) (old.next_tag ∷ []) tag was);
      told = refl;
      spare_ops = omega arith;
      spare_sectors = omega arith;
      steps = refl;
      faults = refl;
      sizes = refl;
    }
