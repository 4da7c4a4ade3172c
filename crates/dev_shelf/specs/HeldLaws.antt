-- A lawful state is lawful where operations are held back.
use Rattle.std.specs.Prelude.{ℕ, not, Bool, List, filter, All, Contains}
use Rattle.std.proofs.Common.{get_or}
use Rattle.std.proofs.lemmas.List.{length-map, get_or-map}
use Rattle.std.proofs.lemmas.List.Elements.{All-filter, All-map}
use Rattle.disk_model.specs.Record.{Operation}
use Rattle.disk_model.specs.State.{State, IsLawful, tags_of}
use Rattle.dev_shelf.specs.Plan.{PlanLeft, is_held, held_back, steps_told}

-- those that pass a test are among all
passing_among : (p : Operation → Bool) (os : List Operation) → All (Contains (tags_of os)) (tags_of (filter p os))
passing_among p os =
    let tag : Operation → ℕ = λ o. o.tag in
    All-map (Contains (tags_of os)) tag (filter p os)
    (All-filter p (λ o. Contains (tags_of os) o.tag) os (λ k d lt. (k, rw length-map lt, get_or-map tag os k d (get_or os k d).tag lt)))

-- so the state is lawful where only some of what is in flight is ready
pub lawful_back : (plan : PlanLeft) (state : State) → IsLawful state → IsLawful (held_back plan state)
lawful_back plan state lawful = record {
  tags = lawful.tags;
  order = lawful.order;
  within = lawful.within;
  ready = passing_among (λ o. not (is_held plan (steps_told state.told) o)) state.in_flight;
  faults = lawful.faults;
  life = lawful.life;
  follows = lawful.follows;
  new_tags = lawful.new_tags;
  in_flight = lawful.in_flight;
  steps = lawful.steps;
  opened = lawful.opened;
  written = lawful.written;
}
