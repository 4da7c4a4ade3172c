use Rattle.std.proofs.Common.{◌≡◌, ◌<◌, ◌%◌, ℕ, Bool, List, length, drop, filter, not, slice_index, refl, sym, ap, subst}
use Rattle.std.proofs.Common.{◌∙◌}
use Rattle.std.proofs.lemmas.Grind.{get_or_default_zero}
use Rattle.std.proofs.lemmas.Nat.{mod_below}
use Rattle.std.proofs.lemmas.List.Kept.{AllPairs-filter}
use Rattle.disk_model.specs.Record.{Operation}
use Rattle.op_queue.specs.QueueInvariant.{lawful_of as queue_lawful}
use Rattle.op_queue.proofs.Removed.{oldest_first}
use Rattle.dev_shelf.specs.declared.plan.Fail.{Fail}
use Rattle.dev_shelf.specs.DiskRow.{state_of, steps_of}
use Rattle.dev_shelf.specs.MemShelf.{plan_left, state_of_shelf}
use Rattle.dev_shelf.specs.Plan.{PlanLeft, is_held}
use Rattle.dev_shelf.proofs.HeldCalls.{completes_back}
use Rattle.dev_shelf.proofs.ReadyRecord.{positive, ready_many, ready_same, tags_same}
use Rattle.dev_shelf.proofs.mem_shelf.MemShelf.complete_ready.Goals as goal

pub nonzero_rem-pick : goal.nonzero_rem-pick
nonzero_rem-pick c =
    let shelf = c.args.self.now in
    let n = c.ready_count-ready.result in
    positive n (state_of_shelf shelf).ready (ready_many (plan_left shelf) shelf.holding shelf.row n refl refl shelf.good
    c.ready_count-ready.ensures) c.requires

pub place_of_ready-at-requires : goal.place_of_ready-at-requires
place_of_ready-at-requires c =
    let shelf = c.args.self.now in
    let n = c.ready_count-ready.result in
    let some : 0 < n =
    positive n (state_of_shelf shelf).ready (ready_many (plan_left shelf) shelf.holding shelf.row n refl refl shelf.good
    c.ready_count-ready.ensures) c.requires in
    subst (λ (m : ℕ). c.next_of-pick.result % n < m) c.ready_count-ready.ensures (mod_below c.next_of-pick.result n some)

pub returns-clause-completes : goal.returns-clause-completes
returns-clause-completes c =
    completes_back (plan_left c.args.self.now) c.args.self.now.row c.complete.new.self c.complete.result c.complete.ensures.completes

pub returns-clause-ready : goal.returns-clause-ready
returns-clause-ready c =
    let shelf = c.args.self.now in
    let ready = (state_of_shelf shelf).ready in
    let n = c.ready_count-ready.result in
    let k = c.next_of-pick.result % n in
    let many : n ≡ length ready = ready_many (plan_left shelf) shelf.holding shelf.row n refl refl shelf.good c.ready_count-ready.ensures in
    let within : k < length ready = subst (λ (m : ℕ). k < m) many (mod_below c.next_of-pick.result n (positive n ready many c.requires)) in
    let tag : c.complete.result.tag ≡ slice_index ready k =
    c.complete.ensures.which
    ∙ ap (λ (l : List ℕ). slice_index l c.place_of_ready-at.result) (tags_same shelf.row shelf.good)
    ∙ c.place_of_ready-at.ensures.which
    ∙ ap (λ (l : List ℕ). slice_index l k) (sym (ready_same (plan_left shelf) shelf.holding shelf.row refl refl shelf.good)) in
    (k, within, get_or_default_zero ready k c.complete.result.tag within ∙ sym tag)

pub returns-clause-plan : goal.returns-clause-plan
returns-clause-plan c =
    let shelf = c.args.self.now in
    let plan = plan_left shelf in
    let ready = (state_of_shelf shelf).ready in
    let n = c.ready_count-ready.result in
    let many : n ≡ length ready = ready_many plan shelf.holding shelf.row n refl refl shelf.good c.ready_count-ready.ensures in
    let place : c.next_of-pick.result % n ≡ slice_index plan.picks 0 % length ready =
    ap (λ (m : ℕ). c.next_of-pick.result % m) many ∙ ap (λ (p : ℕ). p % length ready) c.next_of-pick.ensures.number in
    let p : Operation → Bool = λ o. not (is_held plan (steps_of shelf.row) o) in
    let left : List ℕ → List Fail → PlanLeft = λ picks fails. record plan { picks = picks; fails = fails; vain = 0 } in
    record {
      oldest_first =
          oldest_first (filter p (state_of shelf.row).in_flight)
          (AllPairs-filter (λ (o q : Operation). o.tag < q.tag) p (state_of shelf.row).in_flight
          (queue_lawful shelf.row.queue shelf.good.queue).order);
      tag =
          c.complete.ensures.which
          ∙ ap (λ (l : List ℕ). slice_index l c.place_of_ready-at.result) (tags_same shelf.row shelf.good)
          ∙ c.place_of_ready-at.ensures.which
          ∙ ap (λ (l : List ℕ). slice_index l (c.next_of-pick.result % n))
          (sym (ready_same plan shelf.holding shelf.row refl refl shelf.good))
          ∙ ap (λ (k : ℕ). slice_index ready k) place;
      fails = record { well = c.complete.ensures.fails.well; told = c.complete.ensures.fails.told };
      left_so =
          ap (λ (l : List ℕ). left l c.complete.new.self.fails.items) c.next_of-pick.ensures.left
          ∙ ap (λ (f : List Fail). left (drop 1 plan.picks) f) c.complete.ensures.plan;
    }
