-- The values that a sector may have after a crash, by the writes and flushes of its volume.
use Rattle.std.specs.Prelude.{◌≡◌, ◌⊎◌, ◌<◌, ℕ, ◌-◌, true, IsTrue, List, [], ◌∷◌, length, take, drop}
use Rattle.sector_base.specs.Spans.{covers}
use Rattle.disk_model.specs.Steps.{Image, Writing, Flushing, Step, Submitted, Completed, Record, value_at, now_after}

-- What the sector held before these steps, or where its volume was flushed in them when that was last done, and each value that was
-- written since.
abbrev pub IsCandidate : Image → List Step → ℕ → ℕ → List ℕ → Type 0
IsCandidate base [] v sector value = value ≡ base v sector
IsCandidate base (Submitted tag (Writing span sectors) ∷ steps) v sector value =
    IsCandidate base steps v sector value ⊎ (IsTrue (covers span v sector) × (value ≡ value_at span sectors sector))
IsCandidate base (Completed tag (Flushing flushed) true fresh ∷ steps) v sector value =
    IsCandidate base steps v sector value × (flushed ≡ v → value ≡ now_after base steps v sector)
IsCandidate base (_ ∷ steps) v sector value = IsCandidate base steps v sector value

-- the steps since a moment
abbrev pub steps_since : ℕ → Record → List Step
steps_since from told = take (length told.steps - from) told.steps

-- what a read gave at that moment
abbrev pub now_at : ℕ → Record → Image
now_at from told = now_after told.opened (drop (length told.steps - from) told.steps)

-- the image has in each of so many sectors of the volume a candidate, by the steps since a moment
abbrev pub HasCandidates : ℕ → ℕ → ℕ → Record → Image → Type 0
HasCandidates from v sectors told image =
    (sector : ℕ) → sector < sectors → IsCandidate (now_at from told) (steps_since from told) v sector (image v sector)
