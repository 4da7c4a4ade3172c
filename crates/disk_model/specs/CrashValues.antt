-- What a crash may leave in each sector.
use Rattle.std.specs.Prelude.{◌≡◌, ◌⊎◌, ℕ, true, IsTrue, List, [], ◌∷◌, Option, Some, None}
use Rattle.sector_base.specs.Spans.{covers}
use Rattle.disk_model.specs.Steps.{Image, Writing, Flushing, Step, Submitted, Completed, Record, value_at}

-- the write with this tag has completed, well or not; None stands for the opened value, which counts as completed
abbrev pub HasCompleted : List Step → Option ℕ → Type 0
HasCompleted steps None = Unit {0}
HasCompleted [] (Some write) = ⊥
HasCompleted (Completed tag work well fresh ∷ steps) (Some write) = (tag ≡ write) ⊎ HasCompleted steps (Some write)
HasCompleted (Submitted tag work ∷ steps) (Some write) = HasCompleted steps (Some write)

-- a write of the sector has completed well, and this one had completed before it
abbrev pub IsOvertaken : List Step → ℕ → ℕ → Option ℕ → Type 0
IsOvertaken [] pv sector write = ⊥
IsOvertaken (Completed tag (Writing span sectors) true fresh ∷ steps) pv sector write =
    IsOvertaken steps pv sector write ⊎ (IsTrue (covers span pv sector) × HasCompleted steps write)
IsOvertaken (_ ∷ steps) pv sector write = IsOvertaken steps pv sector write

-- the write was overtaken when this flush was submitted, so the flush drops its value if it completes well
abbrev pub IsDropped : List Step → ℕ → ℕ → ℕ → Option ℕ → Type 0
IsDropped [] flush pv sector write = ⊥
IsDropped (Submitted tag work ∷ steps) flush pv sector write =
    IsDropped steps flush pv sector write ⊎ ((tag ≡ flush) × IsOvertaken steps pv sector write)
IsDropped (_ ∷ steps) flush pv sector write = IsDropped steps flush pv sector write

-- a crash may leave this value in the sector, which the write with this tag brought (None: which was opened): a write
-- brings its value when it is submitted, and only a flush of the disk that completes well drops values
abbrev pub MayLeave : Image → List Step → ℕ → ℕ → Option ℕ → List ℕ → Type 0
MayLeave opened [] pv sector write value = (write ≡ None) × (value ≡ opened pv sector)
MayLeave opened (Submitted tag (Writing span sectors) ∷ steps) pv sector write value =
    MayLeave opened steps pv sector write value
    ⊎ (IsTrue (covers span pv sector) × (write ≡ Some tag) × (value ≡ value_at span sectors sector))
MayLeave opened (Completed tag (Flushing disk) true fresh ∷ steps) pv sector write value =
    MayLeave opened steps pv sector write value × (disk ≡ pv → IsDropped steps tag pv sector write → ⊥)
MayLeave opened (_ ∷ steps) pv sector write value = MayLeave opened steps pv sector write value

-- a crash may leave this image: one of its possible values in each sector
abbrev pub IsImage : Record → Image → Type 0
IsImage told image = (pv sector : ℕ) → (write : Option ℕ) × MayLeave told.opened told.steps pv sector write (image pv sector)
