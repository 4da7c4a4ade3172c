-- How far a sector is on its way to values of a kind: written, overtaken, flushed.
use Rattle.std.specs.Prelude.{◌≡◌, ◌⊎◌, ℕ, Bool, IsTrue, List, Option}
use Rattle.disk_model.specs.Steps.{Image, Record}
use Rattle.disk_model.specs.CrashValues.{MayLeave, HasCompleted, IsOvertaken, IsDropped}

-- each value that a crash may leave in the sector has Q, unless D holds of the write that brought it
abbrev pub OnlyLeavesUnless : Record → ℕ → ℕ → (Option ℕ → Type 0) → (List ℕ → Type 0) → Type 0
OnlyLeavesUnless told pv sector D Q =
    (write : Option ℕ) (value : List ℕ) → MayLeave told.opened told.steps pv sector write value → Q value ⊎ D write

-- each value that a crash may leave in the sector has Q
pub record OnlyLeaves (told : Record) (pv sector : ℕ) (Q : List ℕ → Type 0) : Type 0 where
  pub each : (write : Option ℕ) (value : List ℕ) → MayLeave told.opened told.steps pv sector write value → Q value

-- each value has Q, or its write has completed: a write of values with Q is submitted and no other is in flight
pub record OnlyLeavesOrCompleted (told : Record) (pv sector : ℕ) (Q : List ℕ → Type 0) : Type 0 where
  pub each : OnlyLeavesUnless told pv sector (HasCompleted told.steps) Q

-- each value has Q, or a flush that is submitted from now on will drop it: the write has completed well
pub record OnlyLeavesOrOvertaken (told : Record) (pv sector : ℕ) (Q : List ℕ → Type 0) : Type 0 where
  pub each : OnlyLeavesUnless told pv sector (IsOvertaken told.steps pv sector) Q

-- each value has Q, or this flush, which was submitted, will drop it
pub record OnlyLeavesOrDropped (told : Record) (flush pv sector : ℕ) (Q : List ℕ → Type 0) : Type 0 where
  pub each : OnlyLeavesUnless told pv sector (IsDropped told.steps flush pv sector) Q

-- each value that a crash may leave in these sectors has Q there
abbrev pub AllLeave : (ℕ → ℕ → Bool) → (ℕ → ℕ → List ℕ → Type 0) → Record → Type 0
AllLeave mine Q told = (pv sector : ℕ) → IsTrue (mine pv sector) → OnlyLeaves told pv sector (Q pv sector)

-- each value that a crash may leave in any sector has Q there
abbrev pub EachOnlyLeaves : (ℕ → ℕ → List ℕ → Type 0) → Record → Type 0
EachOnlyLeaves Q told = (pv sector : ℕ) → OnlyLeaves told pv sector (Q pv sector)

-- each sector has one possible value, that of this image
abbrev pub IsBase : Record → Image → Type 0
IsBase told base = EachOnlyLeaves (λ pv sector value. value ≡ base pv sector) told
