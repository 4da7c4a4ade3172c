-- The numbers of a list of marks.
use Rattle.std.specs.Prelude.{ℕ, zero, suc, Bool, List, [], ◌∷◌, if◌then◌else◌}

-- the places of the marks that are set, where the first has this number
abbrev pub places_from : ℕ → List Bool → List ℕ
places_from first [] = []
places_from first (mark ∷ marks) = if mark then first ∷ places_from (suc first) marks else places_from (suc first) marks

-- the marks of so many numbers from the first on
abbrev pub tests_from : (ℕ → Bool) → ℕ → ℕ → List Bool
tests_from test first zero = []
tests_from test first (suc count) = test first ∷ tests_from test (suc first) count
