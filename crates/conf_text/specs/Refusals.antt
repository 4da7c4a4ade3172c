-- Why a text stands for no tree: the first cause from the left.
use Rattle.std.specs.Prelude.{◌≡◌, ℕ, suc, ◌+◌, ◌<◌, ◌≤◌, ◌^◌, ◌⊎◌, List, [], ◌∷◌, ◌++◌, length, take, IsTrue, IsFalse}
use Rattle.std.specs.List.{list_all}
use Rattle.std.specs.Str.Parse.{digits_value}
use Rattle.conf_text.specs.declared.refusal.ConfRefusal.{ConfRefusal}
use Rattle.conf_text.specs.declared.refusal.ConfRefusal.TheVariants.{NoMemory, BadToken, Unclosed, DuplicateKey, NumberTooWide, TooDeep}
use Rattle.conf_text.specs.Entries.{Scalar, ConfEntry, Open, sections, is_given, fits_scalar, IsBalanced, KeepsLimits}
use Rattle.conf_text.specs.Grammar.{IsName, IsDigits, EndsWord, IsGap, IsContent, escaped, IsArray, IsKey, IsHeader, IsEntry, BeginsWith}
use Rattle.conf_text.specs.Grammar.{Spells}

-- the place where the rest of the text begins
abbrev pub IsPlace : List ℕ → List ℕ → ℕ → Type 0
IsPlace text rest place = place + length rest ≡ length text

-- what stands before a scalar: the key, and in an array the bracket and the scalars before
abbrev pub IsBeforeScalar : List ℕ → List ℕ → List Scalar → Type 0
IsBeforeScalar bytes name [] = IsKey bytes name ⊎ ((key g : List ℕ) × IsKey key name × IsGap g × (bytes ≡ key ++ 91 ∷ g))
IsBeforeScalar bytes name (s ∷ ss) =
    (key list g : List ℕ) × IsKey key name × IsArray list (s ∷ ss) × IsGap g × (bytes ≡ key ++ 91 ∷ list ++ 44 ∷ g)

-- ---- the limits

-- a name that its section has already
pub record IsDuplicate (text : List ℕ) (place : ℕ) : Type 0 where
  pub before : List ConfEntry
  pub limits : KeepsLimits before
  pub gap : List ℕ
  pub name : List ℕ
  pub more : List ℕ
  pub entries : BeginsWith text before (gap ++ name ++ more)
  pub gap_is : IsGap gap
  pub name_is : IsName name
  pub name_ends : EndsWord more
  pub given : IsTrue (is_given (sections before) name)
  pub place_is : IsPlace text (name ++ more) place

-- digits of 2^64 or more, the first such number of the entry
pub record IsTooWide (text : List ℕ) (place : ℕ) : Type 0 where
  pub before : List ConfEntry
  pub limits : KeepsLimits before
  pub front : List ℕ
  pub digits : List ℕ
  pub more : List ℕ
  pub entries : BeginsWith text before (front ++ digits ++ more)
  pub inside : 0 < length (sections before)
  pub name : List ℕ
  pub fresh : IsFalse (is_given (sections before) name)
  pub earlier : List Scalar
  pub earlier_fit : IsTrue (list_all fits_scalar earlier)
  pub front_is : IsBeforeScalar front name earlier
  pub digits_are : IsDigits digits
  pub digits_end : EndsWord more
  pub wide : 2 ^ 64 ≤ digits_value 10 digits
  pub place_is : IsPlace text (digits ++ more) place

-- the brace that opens a section in the sixteenth
pub record IsTooDeep (text : List ℕ) (place : ℕ) : Type 0 where
  pub before : List ConfEntry
  pub limits : KeepsLimits before
  pub front : List ℕ
  pub more : List ℕ
  pub entries : BeginsWith text before (front ++ 123 ∷ more)
  pub name : List ℕ
  pub fresh : IsFalse (is_given (sections before) name)
  pub header : IsHeader front name
  pub deep : length (sections before) ≡ 17
  pub place_is : IsPlace text (123 ∷ more) place

-- no limit is broken before this place
abbrev pub KeepsTo : List ℕ → ℕ → Type 0
KeepsTo text end = (p : ℕ) → p < end → ¬ (IsDuplicate text p ⊎ IsTooWide text p ⊎ IsTooDeep text p)

-- ---- what is open at the end

-- a quote: what follows is the beginning of a string
pub record IsOpenString (text : List ℕ) (place : ℕ) : Type 0 where
  pub before : List ConfEntry
  pub front : List ℕ
  pub inside : List ℕ
  pub entries : BeginsWith text before (front ++ 34 ∷ inside)
  pub name : List ℕ
  pub earlier : List Scalar
  pub front_is : IsBeforeScalar front name earlier
  pub content : List ℕ
  pub content_is : IsContent content
  pub inside_is : (inside ≡ escaped content) ⊎ (inside ≡ escaped content ++ 92 ∷ [])
  pub place_is : IsPlace text (34 ∷ inside) place

-- a bracket: what follows is the beginning of an array
pub record IsOpenArray (text : List ℕ) (place : ℕ) : Type 0 where
  pub before : List ConfEntry
  pub key : List ℕ
  pub inside : List ℕ
  pub entries : BeginsWith text before (key ++ 91 ∷ inside)
  pub name : List ℕ
  pub key_is : IsKey key name
  pub closing : List ℕ
  pub scalars : List Scalar
  pub array : IsArray (inside ++ closing) scalars
  pub place_is : IsPlace text (91 ∷ inside) place

-- a brace: what follows is whole entries, as many sections closed as opened, and then less than an entry
pub record IsOpenBrace (text : List ℕ) (place : ℕ) : Type 0 where
  pub before : List ConfEntry
  pub name : List ℕ
  pub inside : List ℕ
  pub entries : BeginsWith text (before ++ Open name ∷ []) inside
  pub inner : List ConfEntry
  pub rest : List ℕ
  pub whole : BeginsWith inside inner rest
  pub balanced : IsBalanced inner
  pub closing : List ℕ
  pub entry : ConfEntry
  pub less : (0 < length closing) × IsEntry (rest ++ closing) entry
  pub place_is : place + suc (length inside) ≡ length text

-- an open string, else an open array, else an open brace
abbrev pub IsInnermost : List ℕ → ℕ → Type 0
IsInnermost text place =
    IsOpenString text place
    ⊎ (IsOpenArray text place × ((p : ℕ) → ¬ IsOpenString text p))
    ⊎ (IsOpenBrace text place × ((p : ℕ) → ¬ IsOpenString text p × ¬ IsOpenArray text p))

-- ---- the five refusals

-- some text begins so, by the grammar without the limits
abbrev pub Begins : List ℕ → Type 0
Begins front = (more : List ℕ) × (es : List ConfEntry) × Spells (front ++ more) es

-- no text begins with the bytes up to this one, but some with those before it
abbrev pub IsFirstBad : List ℕ → ℕ → Type 0
IsFirstBad text place = (place < length text) × Begins (take place text) × ¬ Begins (take (suc place) text)

-- the text ends where it must go on, and nothing is open: after a name or `=` at the top
abbrev pub IsCut : List ℕ → Type 0
IsCut text = Begins text × ((es : List ConfEntry) → ¬ Spells text es) × ((p : ℕ) → ¬ IsInnermost text p)

-- no limit is broken before, and the byte at this place is the first bad one or the text is cut here
abbrev pub IsBadToken : List ℕ → ℕ → Type 0
IsBadToken text place = KeepsTo text place × (IsFirstBad text place ⊎ ((place ≡ length text) × IsCut text))

-- no limit is broken, and what is open at this place is the innermost at the end
abbrev pub IsUnclosed : List ℕ → ℕ → Type 0
IsUnclosed text place = KeepsTo text (length text) × Begins text × IsInnermost text place

-- why a text has no tree; memory may be wanting whatever the text
abbrev pub IsCause : List ℕ → ConfRefusal → Type 0
IsCause text NoMemory = Unit {0}
IsCause text (BadToken place) = IsBadToken text place
IsCause text (Unclosed place) = IsUnclosed text place
IsCause text (DuplicateKey place) = IsDuplicate text place
IsCause text (NumberTooWide place) = IsTooWide text place
IsCause text (TooDeep place) = IsTooDeep text place
