-- What finding a place costs.
use Rattle.std.specs.Prelude.{◌≡◌, ◌≤◌, ℕ, ◌+◌, ◌*◌, ◌^◌, List, [], ◌∷◌}
use Rattle.meta_model.specs.declared.group.Group.{Group}
use Rattle.volume_view.specs.InSegments.{Met}
use Rattle.seg_place.specs.Sectors.{segments_in}

-- from one count of steps to another there are, for each volume of which the way meets a segment, d steps, 2^d being at most
-- 2m + 1 for the m segments of that volume
abbrev pub TakesSteps : Group → List Met → ℕ → ℕ → Type 0
TakesSteps group [] from to = to ≡ from
TakesSteps group (met ∷ way) from to = (d : ℕ) × (2 ^ d ≤ 2 * segments_in group met.lv + 1) × TakesSteps group way (from + d) to
