-- What holds at every moment of a record.
use Rattle.std.specs.Prelude.{◌≤◌, ℕ, ◌-◌, length, drop}
use Rattle.disk_model.specs.Steps.{Image, Record}
use Rattle.disk_model.specs.CrashValues.{IsImage}

-- what was told after the first so many steps
abbrev pub at_moment : ℕ → Record → Record
at_moment moment told = record { opened = told.opened; steps = drop (length told.steps - moment) told.steps }

-- P holds of what was told at each moment from one to another
abbrev pub Throughout : ℕ → ℕ → Record → (Record → Type 0) → Type 0
Throughout from until told P = (moment : ℕ) → from ≤ moment → moment ≤ until → P (at_moment moment told)

-- every image that a crash may leave has P
abbrev pub EachImage : (Image → Type 0) → Record → Type 0
EachImage P told = (image : Image) → IsImage told image → P image

-- at every moment from this one on, every image that a crash may leave has P
abbrev pub EveryImageSince : ℕ → Record → (Image → Type 0) → Type 0
EveryImageSince from told P = Throughout from (length told.steps) told (EachImage P)
