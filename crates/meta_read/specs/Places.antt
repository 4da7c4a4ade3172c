-- What carries a name, as a list of names has it.
use Rattle.std.specs.Prelude.{◌≡◌, ℕ, List, map, nat_eq, Option}
use Rattle.std.specs.Borrow.{Bor}
use Rattle.std.specs.Map.{lookup}
use Rattle.std.specs.Cmp.Lexicographic.{pointwise}
use Rattle.conf_text.specs.Entries.{Conf}
use Rattle.meta_model.specs.declared.segment.On.{On}
use Rattle.meta_model.specs.Standing.{Names, on_named}
use Rattle.meta_read.specs.Reading.{as_sections}

-- the names of sections
abbrev pub names_in : List (Bor (List ℕ) × Conf) → List (List ℕ)
names_in sections = map (λ found. found.0) (as_sections sections)

-- what the name has among these
abbrev pub place_in : List (Bor (List ℕ) × On) → List ℕ → Option On
place_in places name = lookup (λ other. pointwise nat_eq name other.now) places

-- each name has what carries it
abbrev pub FindsNames : Names → List (Bor (List ℕ) × On) → Type 0
FindsNames names places = (name : List ℕ) → place_in places name ≡ on_named names name
