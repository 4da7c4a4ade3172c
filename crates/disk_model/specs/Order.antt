-- In which order writes and flushes stand in a list of steps, the newest first.
use Rattle.std.specs.Prelude.{◌≡◌, ◌<◌, ◌⊎◌, ℕ, true, List, [], ◌∷◌}
use Rattle.disk_model.specs.Steps.{Writing, Flushing, Step, Submitted, Completed}

-- a flush of the disk completed well in these steps
abbrev pub HasFlushed : ℕ → List Step → Type 0
HasFlushed pv [] = ⊥
HasFlushed pv (Completed tag (Flushing disk) true fresh ∷ steps) = (disk ≡ pv) ⊎ HasFlushed pv steps
HasFlushed pv (_ ∷ steps) = HasFlushed pv steps

-- before each submission of a write in these steps, a flush of each of so many disks had completed well in them
abbrev pub FlushesFirst : ℕ → List Step → Type 0
FlushesFirst disks [] = Unit {0}
FlushesFirst disks (Submitted tag (Writing span sectors) ∷ steps) = ((pv : ℕ) → pv < disks → HasFlushed pv steps) × FlushesFirst disks steps
FlushesFirst disks (_ ∷ steps) = FlushesFirst disks steps

-- no write is submitted in these steps
abbrev pub WritesNothing : List Step → Type 0
WritesNothing [] = Unit {0}
WritesNothing (Submitted tag (Writing span sectors) ∷ steps) = ⊥
WritesNothing (_ ∷ steps) = WritesNothing steps
