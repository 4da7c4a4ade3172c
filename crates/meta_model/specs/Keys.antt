-- What the keys of a section of lvm2's metadata give, by their kinds.
use Rattle.std.specs.Prelude.{ℕ, Bool, true, false, not, ◌==◌, ◌&&◌, nat_eq, if◌then◌else◌, List, [], ◌∷◌, length, filter, find, Option}
use Rattle.std.specs.Prelude.{Some, None, option_map, Result, Ok, Err}
use Rattle.std.specs.Option.{option_map_or}
use Rattle.std.specs.List.{list_all}
use Rattle.std.specs.Cmp.Lexicographic.{pointwise}
use Rattle.lvm_id.specs.LvmId.{is_id_char, hyphen_form}
use Rattle.lvm_name.specs.Names.{is_among}
use Rattle.conf_text.specs.Entries.{Scalar, Number, Text, One, Many, ConfEntry}
use Rattle.conf_text.specs.Items.{Node, Leaf, Body, lookup}
use Rattle.meta_model.specs.declared.refusal.GroupRefusal.{GroupRefusal}
use Rattle.meta_model.specs.declared.refusal.GroupRefusal.TheVariants.{Missing, WrongKind, UnknownStatus, CountDiffers, BadId}

-- the names of a section with what they have
abbrev pub Items : Type 0
Items = List (List ℕ × Node)

-- what is read, or the first refusal
abbrev pub Read : Type 0 → Type 0
Read A = Result A GroupRefusal

-- what is read next, unless something was refused
infixl 10 ◌>>=◌
abbrev pub ◌>>=◌ : {A B : Type 0} → Result A GroupRefusal → (A → Result B GroupRefusal) → Result B GroupRefusal
(Ok x) >>= f = f x
(Err refusal) >>= f = Err refusal

-- all of them in their order, or the first refusal
abbrev pub each : {A B : Type 0} → (A → Read B) → List A → Read (List B)
each read [] = Ok []
each read (x ∷ xs) = read x >>= λ y. each read xs >>= λ ys. Ok (y ∷ ys)

-- what is there, or this refusal
abbrev pub or_refused : {A : Type 0} → GroupRefusal → Option A → Read A
or_refused refusal found = option_map_or (λ x. Ok x) found (Err refusal)

-- ---- kinds

-- an integer
abbrev pub number : Node → Option ℕ
number (Leaf (One (Number n))) = Some n
number _ = None

-- a string
abbrev pub text : Node → Option (List ℕ)
text (Leaf (One (Text s))) = Some s
text _ = None

-- the strings, where all are strings
abbrev pub texts_of : List Scalar → Option (List (List ℕ))
texts_of [] = Some []
texts_of (Text s ∷ more) = option_map (λ texts. s ∷ texts) (texts_of more)
texts_of (Number n ∷ more) = None

-- a list of words, or one word
abbrev pub words : Node → Option (List (List ℕ))
words (Leaf (One (Text s))) = Some (s ∷ [])
words (Leaf (Many scalars)) = texts_of scalars
words _ = None

-- the pairs, where strings and integers take turns
abbrev pub pairs_of : List Scalar → Option (List (List ℕ × ℕ))
pairs_of [] = Some []
pairs_of (Text s ∷ Number n ∷ more) = option_map (λ pairs. (s, n) ∷ pairs) (pairs_of more)
pairs_of _ = None

-- pairs of a name and an extent
abbrev pub pairs : Node → Option (List (List ℕ × ℕ))
pairs (Leaf (Many scalars)) = pairs_of scalars
pairs _ = None

-- a section
abbrev pub section : Node → Option (List ConfEntry)
section (Body entries) = Some entries
section _ = None

-- ---- keys

-- a key that has to stand
abbrev pub required : {A : Type 0} → (Node → Option A) → List ℕ → Items → Read A
required kind key items = or_refused (Missing key) (lookup key items) >>= λ node. or_refused (WrongKind key) (kind node)

-- a key that may be absent, and what its absence means
abbrev pub optional : {A : Type 0} → (Node → Option A) → A → List ℕ → Items → Read A
optional kind default key items = option_map_or (λ node. or_refused (WrongKind key) (kind node)) (lookup key items) (Ok default)

-- a key that has to pass the test where it stands
abbrev pub only : (Node → Bool) → GroupRefusal → List ℕ → Items → Read (Unit {0})
only test refusal key items = if option_map_or test (lookup key items) true then Ok tt else Err refusal

-- a string that has to be this one where it stands
abbrev pub only_text : List ℕ → (List ℕ → GroupRefusal) → List ℕ → Items → Read (Unit {0})
only_text wanted refusal key items = only (λ node. option_map_or (λ s. pointwise nat_eq wanted s) (text node) false) (refusal key) key items

-- an integer that has to be this one where it stands
abbrev pub only_number : ℕ → (List ℕ → GroupRefusal) → List ℕ → Items → Read (Unit {0})
only_number wanted refusal key items = only (λ node. option_map_or (λ n. n == wanted) (number node) false) (refusal key) key items

-- the id that prints as the text
abbrev pub id_printed : List ℕ → Option (List ℕ)
id_printed printed = id_if (filter (λ c. not (c == 45)) printed)
  where
    id_if : List ℕ → Option (List ℕ)
    id_if id = if length id == 32 && list_all is_id_char id && pointwise nat_eq (hyphen_form id) printed then Some id else None

-- an id with its hyphens
abbrev pub id : List ℕ → Items → Read (List ℕ)
id key items = required text key items >>= λ printed. or_refused (BadId key) (id_printed printed)

-- status words, all among these
abbrev pub status : List (List ℕ) → List ℕ → Items → Read (List (List ℕ))
status known key items =
    required words key items >>= λ found. option_map_or (λ word. Err (UnknownStatus word)) (find (λ word. not (is_among known word)) found)
    (Ok found)

-- as many as were said
abbrev pub counted : {A : Type 0} → ℕ → List A → Read (List A)
counted said found = if length found == said then Ok found else Err (CountDiffers said (length found))
