-- How the rules on legs, on depth and on moving volumes are tested.
use Rattle.std.specs.Prelude.{◌≡◌, ◌≤◌, ◌↔◌, ℕ, true, List, ◌∷◌, length, map, AllPairs, Contains}
use Rattle.meta_model.specs.declared.group.Group.{Group}
use Rattle.volume_rules.specs.Depths.{height, load}
use Rattle.volume_rules.specs.Legs.{IsWayDown, runs_of}
use Rattle.volume_rules.specs.Moving.{leads_to_pvmove, named_by}
use Rattle.volume_rules.specs.Rules.{DepthIsAtMostThree, IsMoving, LegsLieApart, counts}
use Rattle.volume_rules.specs.Sorting.{NoExtentInBoth, run_to_sort}

-- the legs of a group lie apart exactly where the runs that are sorted do
abbrev pub LegsAreTested : Type 0
LegsAreTested = (group : Group) → LegsLieApart group ↔ AllPairs NoExtentInBoth (map run_to_sort (runs_of group))

-- how deep ways go is what five rounds over the legs give for the volumes that legs name
abbrev pub DepthIsTested : Type 0
DepthIsTested =
    (group : Group)
    → ((lv : ℕ) (way : List ℕ) → IsWayDown group (lv ∷ way) → (length way ≤ 4) × (load (counts group) way ≤ 3))
    ↔ ((lv below : ℕ) → Contains (named_by group lv) below
    → (height (λ v. 1) (named_by group) 5 below ≤ 4) × (height (counts group) (named_by group) 5 below ≤ 3))

-- whether a volume is moving is found over its legs
abbrev pub MovingIsTested : Type 0
MovingIsTested = (group : Group) (lv : ℕ) → DepthIsAtMostThree group → (leads_to_pvmove group 4 lv ≡ true) ↔ IsMoving group lv
