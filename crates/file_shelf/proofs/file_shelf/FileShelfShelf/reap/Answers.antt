-- All operations in flight are ready.
use Rattle.std.proofs.Common.{◌≡◌, List, [], ◌∷◌, Option, refl}
use Rattle.std.specs.Prelude.{IsNone, ◌↔◌}
use Rattle.disk_model.specs.Record.{Operation}
use Rattle.disk_model.specs.State.{tags_of}
use Rattle.disk_model.proofs.Reaping.{reaps_or_stays}
use Rattle.op_queue.specs.Queue.{state_of}
use Rattle.file_shelf.proofs.file_shelf.FileShelfShelf.reap.Goals as goal

none_ready : {X : Type 0} (answer : Option X) (operations : List Operation) → (IsNone answer ↔ (operations ≡ []))
    → IsNone answer ↔ (tags_of operations ≡ [])
none_ready answer [] none = (λ is. refl, λ is. none.1 refl)
none_ready answer (operation ∷ operations) none = (
  λ is. let empty : (operation ∷ operations) ≡ [] = none.0 is in absurd cc,
  λ (is : (tags_of (operation ∷ operations)) ≡ []). absurd cc,
)

pub returns : goal.returns
returns g c =
    let old = state_of c.args.self.now.queue in
    reaps_or_stays old (state_of c.complete_oldest.new.queue) c.complete_oldest.result
    (none_ready c.complete_oldest.result old.in_flight c.complete_oldest.ensures.none) c.complete_oldest.ensures.cases
    c.complete_oldest.ensures.ready
