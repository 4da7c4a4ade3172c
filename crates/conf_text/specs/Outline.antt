-- The entries read so far, with the names that each open section has.
use Rattle.std.specs.Prelude.{◌≡◌, ℕ, nat_eq, ◌++◌, List, [], ◌∷◌, map, reverse}
use Rattle.std.specs.List.{list_any}
use Rattle.std.specs.Cmp.Lexicographic.{pointwise}
use Rattle.conf_text.specs.declared.outline.Outer.{Outer}
use Rattle.conf_text.specs.declared.tree.ConfEntry as code
use Rattle.conf_text.specs.Entries.{ConfEntry, Open, Close, Assign}
use Rattle.conf_text.specs.Views.{entry_view}

-- the entries so far, and the places of the open braces, the innermost first
pub record Seen : Type 0 where
  pub entries : List ConfEntry
  pub braces : List ℕ

-- what the entries and the sections round the innermost one stand for
abbrev pub outline : List code.ConfEntry → List Outer → Seen
outline entries outer = record { entries = map entry_view entries; braces = reverse (map (λ o. o.brace) outer) }

-- a set has these names
abbrev pub HasNames : {K : Type 0} → (K → List ℕ) → List K → List (List ℕ) → Type 0
HasNames name keys names = (q : List ℕ) → list_any (λ k. pointwise nat_eq q (name k)) keys ≡ list_any (pointwise nat_eq q) names

-- the sets of the sections that are open round the innermost one have their names
abbrev pub HasOuter : List Outer → List (List (List ℕ)) → Type 0
HasOuter [] given = given ≡ []
HasOuter (o ∷ outer) [] = ⊥
HasOuter (o ∷ outer) (names ∷ given) = HasNames (λ k. k.now) o.names.keys names × HasOuter outer given

-- and so has that of the innermost
abbrev pub HasSections : {K : Type 0} → (K → List ℕ) → List K → List Outer → List (List (List ℕ)) → Type 0
HasSections name keys outer [] = ⊥
HasSections name keys outer (names ∷ given) = HasNames name keys names × HasOuter outer given

-- the entry is a key with this name
abbrev pub IsKeyed : List ℕ → ConfEntry → Type 0
IsKeyed name (Open n) = ⊥
IsKeyed name Close = ⊥
IsKeyed name (Assign n v) = n ≡ name

-- a key more
abbrev pub with_key : Seen → ConfEntry → Seen
with_key seen e = record seen { entries = seen.entries ++ e ∷ [] }

-- a section begins, by a brace at this place
abbrev pub with_open : Seen → List ℕ → ℕ → Seen
with_open seen name place = record { entries = seen.entries ++ Open name ∷ []; braces = place ∷ seen.braces }

-- the innermost section ends
abbrev pub with_close : Seen → List ℕ → Seen
with_close seen braces = record { entries = seen.entries ++ Close ∷ []; braces = braces }
