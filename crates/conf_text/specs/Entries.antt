-- A tree, as its entries in the order of the text. A section is an Open, the entries in it, and a Close.
use Rattle.std.specs.Prelude.{◌≡◌, ℕ, ◌^◌, nat_eq, nat_lt, Bool, true, false, not, ◌&&◌, List, [], ◌∷◌, length, IsTrue}
use Rattle.std.specs.List.{list_any, list_all}
use Rattle.std.specs.Cmp.Lexicographic.{pointwise}

-- a number or a string
pub data Scalar : Type 0 where
  Number : ℕ → Scalar
  Text : List ℕ → Scalar

-- one scalar, or a list of them
pub data Value : Type 0 where
  One : Scalar → Value
  Many : List Scalar → Value

-- a section begins, the innermost one ends, or a name has a value
pub data ConfEntry : Type 0 where
  Open : List ℕ → ConfEntry
  Close : ConfEntry
  Assign : List ℕ → Value → ConfEntry

-- the entries of a text
abbrev pub Conf : Type 0
Conf = List ConfEntry

-- The names that each open section has so far, the innermost first and the top level last. None is left once more is
-- closed than was open.
abbrev pub after_entry : List (List (List ℕ)) → ConfEntry → List (List (List ℕ))
after_entry [] e = []
after_entry (names ∷ outer) (Open name) = [] ∷ (name ∷ names) ∷ outer
after_entry (names ∷ outer) Close = outer
after_entry (names ∷ outer) (Assign name value) = (name ∷ names) ∷ outer

-- those after these entries too
abbrev pub after_entries : List (List (List ℕ)) → List ConfEntry → List (List (List ℕ))
after_entries given [] = given
after_entries given (e ∷ es) = after_entries (after_entry given e) es

-- those after these entries of a text
abbrev pub sections : List ConfEntry → List (List (List ℕ))
sections es = after_entries ([] ∷ []) es

-- as many sections are closed as were opened, and none before
abbrev pub IsBalanced : List ConfEntry → Type 0
IsBalanced es = length (sections es) ≡ 1

-- the name stands in the innermost open section
abbrev pub is_given : List (List (List ℕ)) → List ℕ → Bool
is_given [] name = false
is_given (names ∷ outer) name = list_any (pointwise nat_eq name) names

-- a number is below 2^64
abbrev pub fits_scalar : Scalar → Bool
fits_scalar (Number n) = nat_lt n (2 ^ 64)
fits_scalar (Text s) = true

-- the scalars of a value
abbrev pub scalars_of : Value → List Scalar
scalars_of (One s) = s ∷ []
scalars_of (Many ss) = ss

-- The entry may follow: it gives no name again, opens no section in the sixteenth, and has no number from 2^64 on.
abbrev pub keeps_limits : List (List (List ℕ)) → ConfEntry → Bool
keeps_limits given (Open name) = not (is_given given name) && nat_lt (length given) 17
keeps_limits given Close = true
keeps_limits given (Assign name value) = not (is_given given name) && list_all fits_scalar (scalars_of value)

-- each of the entries may follow after such sections
abbrev pub keep_limits : List (List (List ℕ)) → List ConfEntry → Bool
keep_limits given [] = true
keep_limits given (e ∷ es) = keeps_limits given e && keep_limits (after_entry given e) es

-- each entry may follow those before it
abbrev pub KeepsLimits : List ConfEntry → Type 0
KeepsLimits es = IsTrue (keep_limits ([] ∷ []) es)
