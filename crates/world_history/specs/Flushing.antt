-- That at most one flush of each disk is in flight.
use Rattle.std.specs.Prelude.{◌≤◌, ℕ, ◌+◌, ◌-◌, ◌==◌, if◌then◌else◌, List, [], ◌∷◌, length, take}
use Rattle.disk_model.specs.Steps.{Completed, Flushing, Step, Submitted}
use Rattle.volume_history.specs.Chronicles.{Origin, steps_upto}

-- how many flushes of the disk these steps leave in flight
abbrev pub open_flushes : ℕ → List Step → ℕ
open_flushes pv [] = 0
open_flushes pv (Submitted tag (Flushing disk) ∷ steps) = if disk == pv then open_flushes pv steps + 1 else open_flushes pv steps
open_flushes pv (Completed tag (Flushing disk) well fresh ∷ steps) = if disk == pv then open_flushes pv steps - 1 else open_flushes pv steps
open_flushes pv (_ ∷ steps) = open_flushes pv steps

-- at each moment since the start at most one flush of each disk is in flight
abbrev pub FlushesOneByOne : Origin → Type 0
FlushesOneByOne o =
    (pv m : ℕ) → o.start ≤ m → m ≤ length o.told.steps → open_flushes pv (take (m - o.start) (steps_upto o m)) ≤ 1
