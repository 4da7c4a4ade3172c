-- What calls do to the state of a row, where operations are held back.
use Rattle.std.proofs.Common.{◌≡◌, ℕ, Bool, not, List, [], ◌∷◌, ◌++◌, filter, Contains, Option, sym, ap, subst, ◌∙◌}
use Rattle.std.proofs.lemmas.List.{map-append}
use Rattle.std.proofs.lemmas.List.Elements.{filter-append, Contains-append_left}
use Rattle.disk_model.specs.declared.ops.Op.{Op}
use Rattle.disk_model.specs.declared.ops.Done.{Done}
use Rattle.disk_model.specs.Steps.{Step, Submitted, Completed, Record}
use Rattle.disk_model.specs.Operations.{work_of}
use Rattle.disk_model.specs.Record.{Operation}
use Rattle.disk_model.specs.State.{State, tags_of}
use Rattle.disk_model.specs.Calls.{Submits, Completes, Reserves, MakesReady}
use Rattle.dev_shelf.specs.declared.mem_shelf.disk_row.DiskRow.{DiskRow}
use Rattle.dev_shelf.specs.DiskRow.{state_of, steps_of}
use Rattle.dev_shelf.specs.Plan.{PlanLeft, is_held, held_back, steps_told}
use Rattle.dev_shelf.proofs.HeldSteps.{others_pass, ready_after}

-- the tags of those that are ready after these steps
abbrev pub ready_tags : PlanLeft → List Step → List Operation → List ℕ
ready_tags plan steps os = tags_of (filter (λ o. not (is_held plan steps o)) os)

-- one operation more
ready_more : (plan : PlanLeft) (steps : List Step) (os more : List Operation) (t : ℕ) → Contains (ready_tags plan steps os) t
    → Contains (ready_tags plan steps (os ++ more)) t
ready_more plan steps os more t h =
    let p : Operation → Bool = λ o. not (is_held plan steps o) in
    let tag : Operation → ℕ = λ o. o.tag in
    let parts : tags_of (filter p (os ++ more)) ≡ tags_of (filter p os) ++ tags_of (filter p more) =
    ap (λ (l : List Operation). tags_of l) (filter-append p os more) ∙ map-append tag (filter p os) (filter p more) in
    subst (λ (l : List ℕ). Contains l t) (sym parts) (Contains-append_left (tags_of (filter p os)) (tags_of (filter p more)) t h)

-- the row's submission is one of the shelf
pub submits_back : (plan : PlanLeft) (old new : DiskRow) (op : Op) (tag : ℕ) → Submits (state_of old) op tag (state_of new)
    → Submits (held_back plan (state_of old)) op tag (held_back plan (state_of new))
submits_back plan old new op tag submits =
    let steps : steps_of new ≡ Submitted tag (work_of op) ∷ steps_of old = ap (λ (o : Option Record). steps_told o) submits.told in
    record {
      fresh = submits.fresh;
      next = submits.next;
      in_flight = submits.in_flight;
      ready = λ t h.
          subst (λ (l : List Step). Contains (ready_tags plan l (state_of new).in_flight) t) (sym steps)
          (subst (λ (l : List Operation). Contains (ready_tags plan (Submitted tag (work_of op) ∷ steps_of old) l) t)
          (sym submits.in_flight)
          (ready_more plan (steps_of old) (state_of old).in_flight (record { tag = tag; work = work_of op } ∷ []) t h));
      told = submits.told;
      spare_ops = submits.spare_ops;
      spare_sectors = submits.spare_sectors;
      steps = submits.steps;
      faults = submits.faults;
      sizes = submits.sizes;
    }

-- and so is its completion
pub completes_back : (plan : PlanLeft) (old new : DiskRow) (done : Done) → Completes (state_of old) done (state_of new)
    → Completes (held_back plan (state_of old)) done (held_back plan (state_of new))
completes_back plan old new done completes =
    let step : Step = Completed done.tag (work_of done.op) done.well completes.told.0 in
    let steps : steps_of new ≡ step ∷ steps_of old = ap (λ (o : Option Record). steps_told o) completes.told.1 in
    let p : Operation → Bool = λ o. not (is_held plan (steps_of old) o) in
    let q : Operation → Bool = λ o. not (is_held plan (step ∷ steps_of old) o) in
    record {
      was = completes.was;
      lies = completes.lies;
      in_flight = completes.in_flight;
      fewer = completes.fewer;
      ready = λ t h other.
          subst (λ (l : List Step). Contains (ready_tags plan l (state_of new).in_flight) t) (sym steps)
          (subst (λ (l : List Operation). Contains (ready_tags plan (step ∷ steps_of old) l) t) (sym completes.in_flight)
          (others_pass p q (ready_after done.tag (work_of done.op) done.well completes.told.0 (steps_of old) plan) done.tag
          (state_of old).in_flight t h other));
      told = completes.told;
      reads = completes.reads;
      spare_ops = completes.spare_ops;
      spare_sectors = completes.spare_sectors;
      steps = completes.steps;
      next = completes.next;
      faults = completes.faults;
      sizes = completes.sizes;
    }

-- and so is a reservation
pub reserves_back : (plan : PlanLeft) (old new : State) (ops sectors : ℕ) → Reserves old ops sectors new
    → Reserves (held_back plan old) ops sectors (held_back plan new)
reserves_back plan old new ops sectors reserves = record {
  ops = reserves.ops;
  sectors = reserves.sectors;
  more_ops = reserves.more_ops;
  more_sectors = reserves.more_sectors;
  same = ap (held_back plan) reserves.same;
}

-- what completes once more was made ready completes from before
pub completes_ready : (old mid new : State) (done : Done) → MakesReady old mid → Completes mid done new → Completes old done new
completes_ready old mid new done makes completes =
    let same : mid ≡ record old { ready = mid.ready } = makes.same in
    let whole : Completes (record old { ready = mid.ready }) done new = subst (λ (s : State). Completes s done new) same completes in
    record {
      was = whole.was;
      lies = whole.lies;
      in_flight = whole.in_flight;
      fewer = whole.fewer;
      ready = λ t h other. whole.ready t (makes.ready t h) other;
      told = whole.told;
      reads = whole.reads;
      spare_ops = whole.spare_ops;
      spare_sectors = whole.spare_sectors;
      steps = whole.steps;
      next = whole.next;
      faults = whole.faults;
      sizes = whole.sizes;
    }
