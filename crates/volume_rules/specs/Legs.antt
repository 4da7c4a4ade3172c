-- What the legs of a group cover: one list of runs of extents, in the order of the text.
use Rattle.std.specs.Prelude.{◌≡◌, ◌≤◌, ◌<◌, ℕ, ◌+◌, List, [], ◌∷◌, ◌++◌, Contains}
use Rattle.meta_model.specs.declared.group.Group.{Group}
use Rattle.meta_model.specs.declared.lv.Lv.{Lv}
use Rattle.meta_model.specs.declared.segment.Segment.{Segment}
use Rattle.meta_model.specs.declared.segment.Leg.{Leg}
use Rattle.meta_model.specs.declared.segment.On.{On}
use Rattle.meta_model.specs.Runs.{legs_of}
use Rattle.volume_rules.specs.Extents.{leg_share}
use Rattle.meta_model.specs.declared.segment.On.TheVariants as on

-- the extents that a leg covers: the leg by the numbers of its volume, of the segment there and of the leg there, what it
-- lies on, and the first and the number of the extents
pub record LegRun : Type 0 where
  pub lv : ℕ
  pub segment : ℕ
  pub leg : ℕ
  pub on : On
  pub first : ℕ
  pub count : ℕ

-- what these legs of one segment cover, each so many extents, the first leg having this number
abbrev pub runs_of_legs : ℕ → ℕ → ℕ → ℕ → List Leg → List LegRun
runs_of_legs lv segment count number [] = []
runs_of_legs lv segment count number (leg ∷ legs) =
    record { lv = lv; segment = segment; leg = number; on = leg.on; first = leg.first; count = count }
    ∷ runs_of_legs lv segment count (number + 1) legs

-- what the legs of these segments of one volume cover, the first segment having this number
abbrev pub runs_of_segments : ℕ → ℕ → List Segment → List LegRun
runs_of_segments lv number [] = []
runs_of_segments lv number (segment ∷ segments) =
    runs_of_legs lv number (leg_share segment.count segment.kind) 0 (legs_of segment.kind) ++ runs_of_segments lv (number + 1) segments

-- what the legs of these volumes cover, the first volume having this number
abbrev pub runs_of_volumes : ℕ → List (List ℕ × Lv) → List LegRun
runs_of_volumes number [] = []
runs_of_volumes number (lv ∷ lvs) = runs_of_segments number 0 lv.1.segments ++ runs_of_volumes (number + 1) lvs

-- what the legs of a group cover
unfoldable pub runs_of : Group → List LegRun
runs_of group = runs_of_volumes 0 group.lvs

-- the extent lies in the run
abbrev pub IsInRun : On → ℕ → LegRun → Type 0
IsInRun on extent run = (run.on ≡ on) × (run.first ≤ extent) × (extent < run.first + run.count)

-- the extent lies in a leg
abbrev pub IsUsed : Group → On → ℕ → Type 0
IsUsed group on extent = (run : LegRun) × Contains (runs_of group) run × IsInRun on extent run

-- no extent lies in both runs
abbrev pub LieApart : LegRun → LegRun → Type 0
LieApart a b = (on : On) (extent : ℕ) → IsInRun on extent a → IsInRun on extent b → ⊥

-- a leg of the volume lies on the other volume
abbrev pub LiesOn : Group → ℕ → ℕ → Type 0
LiesOn group lv below = (run : LegRun) × Contains (runs_of group) run × (run.lv ≡ lv) × (run.on ≡ on.Lv below)

-- each volume of the list lies on the next one by a leg
abbrev pub IsWayDown : Group → List ℕ → Type 0
IsWayDown group [] = Unit {0}
IsWayDown group (lv ∷ []) = Unit {0}
IsWayDown group (lv ∷ below ∷ more) = LiesOn group lv below × IsWayDown group (below ∷ more)
