-- A list as it is printed, element by element.
use Rattle.std.specs.Prelude.{ℕ, zero, suc, List, ◌∷◌, ◌++◌}
use Rattle.conf_text.specs.Entries.{Scalar}
use Rattle.conf_text.specs.Printed.{printed_list}

-- a key with its list, as far as these elements
abbrev pub list_begun : List ℕ → List Scalar → List ℕ
list_begun key before = key ++ 32 ∷ 61 ∷ 32 ∷ 91 ∷ printed_list before

-- what elements add to a list that has so many: a comma stands before them, unless they are the first
abbrev pub list_added : ℕ → List Scalar → List ℕ
list_added zero scalars = printed_list scalars
list_added (suc before) scalars = 44 ∷ 32 ∷ printed_list scalars
