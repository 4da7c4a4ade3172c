-- Tables of records by their names.
use Rattle.std.specs.Prelude.{◌≡◌, ℕ, true, false, nat_eq, List, [], ◌∷◌, ◌++◌, map, Result, Ok, Err}
use Rattle.std.specs.List.{IsDistinct}
use Rattle.std.specs.Cmp.Lexicographic.{pointwise}
use Rattle.lvm_name.specs.Names.{is_among}
use Rattle.meta_model.specs.declared.table.PushRefusal.{PushRefusal}
use Rattle.meta_model.specs.declared.table.PushRefusal.TheVariants.{NoMemory, Taken}

-- the names of the records
abbrev pub names_of : {A : Type 0} → List (List ℕ × A) → List (List ℕ)
names_of rows = map (λ row. row.0) rows

-- no name stands twice
abbrev pub NamesDiffer : {A : Type 0} → List (List ℕ × A) → Type 0
NamesDiffer rows = IsDistinct (pointwise nat_eq) (names_of rows)

-- a new name goes last with its record, one that stands already comes back; where nothing is pushed, all stays
abbrev pub Pushes : {A : Type 0} → List (List ℕ × A) → List ℕ → A → Result (Unit {0}) PushRefusal → List (List ℕ × A) → Type 0
Pushes old name row (Ok done) new = (new ≡ old ++ (name, row) ∷ []) × (is_among (names_of old) name ≡ false)
Pushes old name row (Err NoMemory) new = new ≡ old
Pushes old name row (Err (Taken given_back)) new = (new ≡ old) × (given_back ≡ name) × (is_among (names_of old) name ≡ true)
