-- Which disks answers name, over any shelf: those of which an operation failed.
use Rattle.std.specs.Prelude.{◌≡◌, ◌<◌, ℕ, Contains, List, Option, None, Some}
use Rattle.line_answers.specs.declared.answer.Answer.{Answer}
use Rattle.line_answers.specs.declared.answer.Answer.TheVariants.{Fenced, PvFailed, ReadFailed, Stopped}
use Rattle.disk_model.specs.State.{State}

-- the disk that an answer names: it couldn't be read, has failed, fenced the group, or stopped a move
abbrev pub disk_named : Answer → Option ℕ
disk_named (ReadFailed pv) = Some pv
disk_named (PvFailed pv) = Some pv
disk_named (Fenced pv) = Some pv
disk_named (Stopped pv) = Some pv
disk_named _ = None

-- each answer that names a disk names one of which an operation failed between these two states
abbrev pub NameFaults : State → State → List (ℕ × Option Answer) → Type 0
NameFaults old new answers =
    (number pv : ℕ) (said : Answer) → Contains answers (number, Some said) → disk_named said ≡ Some pv → old.faults pv < new.faults pv
