-- The operations in flight after the steps of a record, and what makes a list of steps a record.
use Rattle.std.specs.Prelude.{◌≡◌, ◌⊎◌, ◌<◌, ℕ, not, ◌==◌, if◌then◌else◌, List, [], ◌∷◌, ◌++◌, filter, Option, None, Some}
use Rattle.disk_model.specs.Steps.{Work, Step, Submitted, Completed}

-- an operation in flight, with its tag
pub record Operation : Type 0 where
  pub tag : ℕ
  pub work : Work

-- the operations that were submitted and have not completed, the oldest first
abbrev pub in_flight_after : List Step → List Operation
in_flight_after [] = []
in_flight_after (Submitted tag work ∷ steps) = in_flight_after steps ++ record { tag = tag; work = work } ∷ []
in_flight_after (Completed tag work well fresh ∷ steps) = filter (λ o. not (o.tag == tag)) (in_flight_after steps)

-- the operation is among these
abbrev pub IsIn : List Operation → Operation → Type 0
IsIn [] f = ⊥
IsIn (g ∷ gs) f = (g ≡ f) ⊎ IsIn gs f

-- what the operation in flight with this tag does
abbrev pub work_of_tag : List Operation → ℕ → Option Work
work_of_tag [] tag = None
work_of_tag (o ∷ os) tag = if o.tag == tag then Some o.work else work_of_tag os tag

-- every operation that was submitted has a smaller tag
abbrev pub IsNewTag : ℕ → List Step → Type 0
IsNewTag tag [] = Unit {0}
IsNewTag tag (Submitted t work ∷ steps) = (t < tag) × IsNewTag tag steps
IsNewTag tag (Completed t work well fresh ∷ steps) = IsNewTag tag steps

-- the steps are those of a row of disks: each tag is new, and what completes was in flight
abbrev pub IsRecord : List Step → Type 0
IsRecord [] = Unit {0}
IsRecord (Submitted tag work ∷ steps) = IsNewTag tag steps × IsRecord steps
IsRecord (Completed tag work well fresh ∷ steps) = (work_of_tag (in_flight_after steps) tag ≡ Some work) × IsRecord steps
