-- How deep volumes lie on each other, in rounds.
use Rattle.std.specs.Prelude.{ℕ, zero, suc, ◌+◌, max, List, [], ◌∷◌, map, Contains}

-- each of the list is named by the one before it
abbrev pub IsWayBy : (ℕ → List ℕ) → List ℕ → Type 0
IsWayBy named [] = Unit {0}
IsWayBy named (lv ∷ []) = Unit {0}
IsWayBy named (lv ∷ below ∷ more) = Contains (named lv) below × IsWayBy named (below ∷ more)

-- the greatest of these numbers, 0 where there are none
abbrev pub greatest : List ℕ → ℕ
greatest [] = 0
greatest (x ∷ xs) = max x (greatest xs)

-- what a way weighs, where each volume has a weight
abbrev pub load : (ℕ → ℕ) → List ℕ → ℕ
load weight [] = 0
load weight (lv ∷ way) = weight lv + load weight way

-- after so many rounds: the weight of the heaviest way down of at most so many volumes
abbrev pub height : (ℕ → ℕ) → (ℕ → List ℕ) → ℕ → ℕ → ℕ
height weight named zero lv = 0
height weight named (suc rounds) lv = weight lv + greatest (map (height weight named rounds) (named lv))
