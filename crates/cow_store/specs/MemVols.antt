-- What volumes in memory stand for: the disks of a shelf in memory, on which nothing is in flight between two calls.
use Rattle.std.specs.Prelude.{◌≡◌, ℕ, min, Bool, List, [], ◌∷◌, Option, Some, None, IfSome, is_none, option_map}
use Rattle.std.proofs.Props.{props}
use Rattle.dev_shelf.specs.Plan.{failure_of}
use Rattle.dev_shelf.specs.declared.plan.Fail.{Fail}
use Rattle.disk_model.specs.CarriesOut.{with_operation}
use Rattle.disk_model.specs.State.{State}
use Rattle.disk_model.specs.Steps.{Work, Step, Submitted, Completed, Record}
use Rattle.disk_model.specs.declared.ops.Op.{Op}
use Rattle.disk_model.specs.declared.ops.Op.TheVariants.{Read, Write, Flush}
use Rattle.cow_store.specs.VolStates.{AreOneByOne, VolState}

-- the volumes are the disks of the shelf; each operation uses up one that is spare and at most one sector
abbrev pub volumes_of : State → VolState
volumes_of shelf =
    record { sizes = shelf.sizes; spare = min shelf.spare_ops shelf.spare_sectors; faults = shelf.faults; told = shelf.told }

-- the steps that are told are of one operation after another
abbrev pub AreToldOneByOne : Option Record → Type 0
AreToldOneByOne told = IfSome told (λ t. AreOneByOne t.steps)

-- nothing is in flight on the shelf, and its operations were carried out one after another
pub record IsBetweenCalls (shelf : State) : Type 0 where
  pub idle : shelf.in_flight ≡ []
  pub one_by_one : AreToldOneByOne shelf.told

-- the buffer of an operation
abbrev pub buffer_in : Op → List (List ℕ)
buffer_in (Read span buffer) = buffer
buffer_in (Write span sectors) = sectors
buffer_in (Flush pv) = []

-- the operation has a number in the record, fails exactly where that is listed, and the list stays
pub record FollowsPlan (old : VolState) (fails : List Fail) (work : Work) (well : Bool) (new : VolState) (left : List Fail) : Type 0 where
  pub number : ℕ
  pub fresh : List Bool
  pub told : new.told ≡ option_map (with_operation number work well fresh) old.told
  pub listed : well ≡ is_none (failure_of fails number)
  pub stays : left ≡ fails

one_by_one_prop : (steps : List Step) → IsProp (AreOneByOne steps)
one_by_one_prop [] = hlevel props
one_by_one_prop (Submitted tag work ∷ steps) = hlevel props
one_by_one_prop (Completed tag work well fresh ∷ []) = hlevel props
one_by_one_prop (Completed tag work well fresh ∷ Completed tag' work' well' fresh' ∷ steps) = hlevel props
one_by_one_prop (Completed tag work well fresh ∷ Submitted tag' work' ∷ steps) = hlevel (props, work_set, one_by_one_prop steps)
  where
    work_set : IsSet Work
    work_set = hlevel props

told_prop : (told : Option Record) → IsProp (AreToldOneByOne told)
told_prop None = hlevel props
told_prop (Some t) = one_by_one_prop t.steps

-- so there is one proof at most of that
pub between_prop : (shelf : State) → IsProp (IsBetweenCalls shelf)
between_prop shelf = hlevel (props, told_prop shelf.told)
