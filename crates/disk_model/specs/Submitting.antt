-- Operations that are submitted one after another.
use Rattle.std.specs.Prelude.{◌≡◌, ◌≤◌, ◌<◌, ℕ, ◌+◌, Bool, false, ◌||◌, IsTrue, List, [], ◌∷◌, ◌++◌, length, map, sum_by, All, Contains}
use Rattle.std.specs.Prelude.{option_map}
use Rattle.sector_base.specs.Spans.{covers}
use Rattle.disk_model.specs.Steps.{Work, Reading, Writing, Flushing, Submitted, Record, step_on, value_at, sectors_of_work}
use Rattle.disk_model.specs.Record.{Operation}
use Rattle.disk_model.specs.Brought.{writes}
use Rattle.disk_model.specs.State.{State}

-- what is told after these operations were submitted, the first of them first
abbrev pub submitted_on : List Operation → Record → Record
submitted_on [] told = told
submitted_on (o ∷ os) told = submitted_on os (step_on (Submitted o.tag o.work) told)

-- what these operations do
abbrev pub works_of : List Operation → List Work
works_of os = map (λ (o : Operation). o.work) os

-- these operations were submitted, in this order
pub record SubmitsAll (old : State) (os : List Operation) (new : State) : Type 0 where
  pub fresh : All (λ (o : Operation). old.next_tag ≤ o.tag) os
  pub below : All (λ (o : Operation). o.tag < new.next_tag) os
  pub next : old.next_tag ≤ new.next_tag
  pub in_flight : new.in_flight ≡ old.in_flight ++ os
  pub ready : (t : ℕ) → Contains old.ready t → Contains new.ready t
  pub told : new.told ≡ option_map (submitted_on os) old.told
  pub spare_ops : new.spare_ops + length os ≡ old.spare_ops
  pub spare_sectors : new.spare_sectors + sum_by (λ (o : Operation). sectors_of_work o.work) os ≡ old.spare_sectors
  pub steps : new.steps ≡ old.steps + length os
  pub faults : new.faults ≡ old.faults
  pub sizes : new.sizes ≡ old.sizes

-- one of these works writes the sector
abbrev pub writes_at : List Work → ℕ → ℕ → Bool
writes_at [] pv sector = false
writes_at (work ∷ works) pv sector = writes work pv sector || writes_at works pv sector

-- where the work writes the sector, it brings a value with Q
abbrev pub BringsAt : Work → ℕ → ℕ → (List ℕ → Type 0) → Type 0
BringsAt (Writing span sectors) pv sector Q = IsTrue (covers span pv sector) → Q (value_at span sectors sector)
BringsAt (Reading span) pv sector Q = Unit {0}
BringsAt (Flushing disk) pv sector Q = Unit {0}

-- each of these works that writes the sector brings a value with Q
abbrev pub BringAt : List Work → ℕ → ℕ → (List ℕ → Type 0) → Type 0
BringAt [] pv sector Q = Unit {0}
BringAt (work ∷ works) pv sector Q = BringsAt work pv sector Q × BringAt works pv sector Q
