-- What the names of a section have.
use Rattle.std.specs.Prelude.{ℕ, zero, suc, nat_eq, List, [], ◌∷◌, Option, find, option_map}
use Rattle.std.specs.Cmp.Lexicographic.{pointwise}
use Rattle.conf_text.specs.Entries.{Value, ConfEntry, Open, Close, Assign}

-- a value, or the entries of a section
pub data Node : Type 0 where
  Leaf : Value → Node
  Body : List ConfEntry → Node

-- the entries before the brace that closes a section in which so many more are open
abbrev pub body_from : ℕ → List ConfEntry → List ConfEntry
body_from deep [] = []
body_from zero (Close ∷ es) = []
body_from (suc deep) (Close ∷ es) = Close ∷ body_from deep es
body_from deep (Open name ∷ es) = Open name ∷ body_from (suc deep) es
body_from deep (Assign name value ∷ es) = Assign name value ∷ body_from deep es

-- the names with what they have, in the order of the text, where so many sections of it are open
abbrev pub items_from : ℕ → List ConfEntry → List (List ℕ × Node)
items_from deep [] = []
items_from zero (Open name ∷ es) = (name, Body (body_from 0 es)) ∷ items_from 1 es
items_from zero (Assign name value ∷ es) = (name, Leaf value) ∷ items_from 0 es
items_from zero (Close ∷ es) = items_from 0 es
items_from (suc deep) (Open name ∷ es) = items_from (suc (suc deep)) es
items_from (suc deep) (Assign name value ∷ es) = items_from (suc deep) es
items_from (suc deep) (Close ∷ es) = items_from deep es

-- those of a whole section, or of a whole text
abbrev pub items : List ConfEntry → List (List ℕ × Node)
items es = items_from 0 es

-- what a name has, where it stands
abbrev pub lookup : List ℕ → List (List ℕ × Node) → Option Node
lookup name section = option_map (λ item. item.1) (find (λ item. pointwise nat_eq item.0 name) section)
