-- Runs in order: a list whose neighbours lie apart.
use Rattle.std.specs.Prelude.{◌≡◌, ◌≤◌, ◌<◌, ◌⊎◌, ℕ, ◌+◌, ◌*◌, ◌^◌}
use Rattle.meta_model.specs.declared.extent_span.ExtentSpan.{ExtentSpan}
use Rattle.meta_model.specs.declared.segment.On.{On}
use Rattle.meta_model.specs.declared.segment.On.TheVariants as on
use Rattle.volume_rules.specs.Legs.{LegRun}

-- a run whose numbers are within the limits of a group, and which has an extent
pub record CanBeSorted (run : ExtentSpan) : Type 0 where
  pub on : run.on < 2 ^ 12
  pub first : run.first < 2 ^ 48
  pub count : (1 ≤ run.count) × (run.count < 2 ^ 48)

-- each run ends where the next begins, or before, or the next lies on a later volume
abbrev pub EndsBefore : ExtentSpan → ExtentSpan → Type 0
EndsBefore a b = (a.on < b.on) ⊎ ((a.on ≡ b.on) × (a.first + a.count ≤ b.first))

-- the order of runs: by what they lie on, then by their first extent
abbrev pub StandsBefore : ExtentSpan → ExtentSpan → Type 0
StandsBefore a b = (a.on < b.on) ⊎ ((a.on ≡ b.on) × (a.first ≤ b.first))

-- no extent lies in both runs
abbrev pub NoExtentInBoth : ExtentSpan → ExtentSpan → Type 0
NoExtentInBoth a b =
    (extent : ℕ) → a.on ≡ b.on → a.first ≤ extent → extent < a.first + a.count → b.first ≤ extent → extent < b.first + b.count → ⊥

-- one number for each physical and each logical volume
abbrev pub on_number : On → ℕ
on_number (on.Pv number) = 2 * number
on_number (on.Lv number) = 2 * number + 1

-- a leg's run as it is sorted
abbrev pub run_to_sort : LegRun → ExtentSpan
run_to_sort run = record { on = on_number run.on; first = run.first; count = run.count }
